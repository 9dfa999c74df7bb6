-- Made by tools/make-row-theorems of the row compaction.
use Rattle.std.proofs.Common.{List, [], ◌∷◌, refl}
use Rattle.etcd_model.specs.Machine.{opening}
use Rattle.etcd_model.specs.Alone.{Turn}
use Rattle.row_theorems.proofs.OnLiterals.{model_on_literals}
use Rattle.row_theorems.proofs.Terms.{◌⇒◌, call, answer, IsAnsweredAlone}

abbrev lines_1 : List Turn
lines_1 =
    call "POST" "/t/one/v3/kv/put" "{\"key\":\"Zm9v\",\"value\":\"MQ==\"}" ⇒ answer 200 "{\"header\":{\"cluster_id\":\"7\",\"member_id\":\"1\",\"raft_term\":\"1\",\"revision\":\"2\"}}"
    ∷ call "POST" "/t/one/v3/kv/put" "{\"key\":\"Zm9v\",\"value\":\"Mg==\"}" ⇒ answer 200 "{\"header\":{\"cluster_id\":\"7\",\"member_id\":\"1\",\"raft_term\":\"1\",\"revision\":\"3\"}}"
    ∷ call "POST" "/t/one/v3/kv/deleterange" "{\"key\":\"Zm9v\",\"prev_kv\":true}" ⇒ answer 200 "{\"deleted\":\"1\",\"header\":{\"cluster_id\":\"7\",\"member_id\":\"1\",\"raft_term\":\"1\",\"revision\":\"4\"},\"prev_kvs\":[{\"create_revision\":\"2\",\"key\":\"Zm9v\",\"mod_revision\":\"3\",\"value\":\"Mg==\",\"version\":\"2\"}]}"
    ∷ call "POST" "/t/one/v3/kv/put" "{\"key\":\"Zm9v\",\"value\":\"Mw==\"}" ⇒ answer 200 "{\"header\":{\"cluster_id\":\"7\",\"member_id\":\"1\",\"raft_term\":\"1\",\"revision\":\"5\"}}"
    ∷ call "POST" "/t/one/v3/kv/range" "{\"key\":\"Zm9v\",\"revision\":\"3\"}" ⇒ answer 200 "{\"count\":\"1\",\"header\":{\"cluster_id\":\"7\",\"member_id\":\"1\",\"raft_term\":\"1\",\"revision\":\"5\"},\"kvs\":[{\"create_revision\":\"2\",\"key\":\"Zm9v\",\"mod_revision\":\"3\",\"value\":\"Mg==\",\"version\":\"2\"}]}"
    ∷ call "POST" "/t/one/v3/kv/range" "{\"key\":\"Zm9v\",\"revision\":\"4\"}" ⇒ answer 200 "{\"header\":{\"cluster_id\":\"7\",\"member_id\":\"1\",\"raft_term\":\"1\",\"revision\":\"5\"}}"
    ∷ call "POST" "/t/one/v3/kv/range" "{\"key\":\"Zm9v\",\"revision\":\"5\"}" ⇒ answer 200 "{\"count\":\"1\",\"header\":{\"cluster_id\":\"7\",\"member_id\":\"1\",\"raft_term\":\"1\",\"revision\":\"5\"},\"kvs\":[{\"create_revision\":\"5\",\"key\":\"Zm9v\",\"mod_revision\":\"5\",\"value\":\"Mw==\",\"version\":\"1\"}]}"
    ∷ call "POST" "/t/one/v3/kv/compaction" "{\"revision\":\"3\"}" ⇒ answer 200 "{\"header\":{\"cluster_id\":\"7\",\"member_id\":\"1\",\"raft_term\":\"1\",\"revision\":\"5\"}}"
    ∷ call "POST" "/t/one/v3/kv/range" "{\"key\":\"Zm9v\",\"revision\":\"2\"}" ⇒ answer 400 "{\"code\":11,\"error\":\"etcdserver: mvcc: required revision has been compacted\",\"message\":\"etcdserver: mvcc: required revision has been compacted\"}"
    ∷ call "POST" "/t/one/v3/kv/range" "{\"key\":\"Zm9v\",\"revision\":\"3\"}" ⇒ answer 200 "{\"count\":\"1\",\"header\":{\"cluster_id\":\"7\",\"member_id\":\"1\",\"raft_term\":\"1\",\"revision\":\"5\"},\"kvs\":[{\"create_revision\":\"2\",\"key\":\"Zm9v\",\"mod_revision\":\"3\",\"value\":\"Mg==\",\"version\":\"2\"}]}"
    ∷ call "POST" "/t/one/v3/kv/range" "{\"key\":\"Zm9v\",\"revision\":\"6\"}" ⇒ answer 400 "{\"code\":11,\"error\":\"etcdserver: mvcc: required revision is a future revision\",\"message\":\"etcdserver: mvcc: required revision is a future revision\"}"
    ∷ call "POST" "/t/one/v3/kv/compaction" "{\"revision\":\"3\"}" ⇒ answer 400 "{\"code\":11,\"error\":\"etcdserver: mvcc: required revision has been compacted\",\"message\":\"etcdserver: mvcc: required revision has been compacted\"}"
    ∷ call "POST" "/t/one/v3/kv/compaction" "{\"revision\":\"6\"}" ⇒ answer 400 "{\"code\":11,\"error\":\"etcdserver: mvcc: required revision is a future revision\",\"message\":\"etcdserver: mvcc: required revision is a future revision\"}"
    ∷ []

alone_one : IsAnsweredAlone (opening 7 1024 1) "one" lines_1 13
unfolding model_on_literals
alone_one = (refl, refl)
