-- Made by tools/make-row-theorems of the row old_revisions.
use Rattle.std.proofs.Common.{List, [], ◌∷◌, refl}
use Rattle.etcd_model.specs.Machine.{opening}
use Rattle.etcd_model.specs.Alone.{Turn}
use Rattle.row_theorems.proofs.OnLiterals.{model_on_literals}
use Rattle.row_theorems.proofs.Terms.{◌⇒◌, call, answer, IsAnsweredAlone}

abbrev lines_1 : List Turn
lines_1 =
    call "POST" "/t/one/v3/kv/put" "{\"key\":\"Zm9v\",\"value\":\"MQ==\"}" ⇒ answer 200 "{\"header\":{\"cluster_id\":\"7\",\"member_id\":\"1\",\"raft_term\":\"1\",\"revision\":\"2\"}}"
    ∷ call "POST" "/t/one/v3/kv/put" "{\"key\":\"Zm9v\",\"value\":\"Mg==\"}" ⇒ answer 200 "{\"header\":{\"cluster_id\":\"7\",\"member_id\":\"1\",\"raft_term\":\"1\",\"revision\":\"3\"}}"
    ∷ call "POST" "/t/one/v3/kv/deleterange" "{\"key\":\"Zm9v\",\"prev_kv\":true}" ⇒ answer 200 "{\"deleted\":\"1\",\"header\":{\"cluster_id\":\"7\",\"member_id\":\"1\",\"raft_term\":\"1\",\"revision\":\"4\"},\"prev_kvs\":[{\"create_revision\":\"2\",\"key\":\"Zm9v\",\"mod_revision\":\"3\",\"value\":\"Mg==\",\"version\":\"2\"}]}"
    ∷ call "POST" "/t/one/v3/kv/put" "{\"key\":\"Zm9v\",\"value\":\"Mw==\"}" ⇒ answer 200 "{\"header\":{\"cluster_id\":\"7\",\"member_id\":\"1\",\"raft_term\":\"1\",\"revision\":\"5\"}}"
    ∷ call "POST" "/t/one/v3/kv/range" "{\"key\":\"Zm9v\",\"revision\":\"3\"}" ⇒ answer 200 "{\"count\":\"1\",\"header\":{\"cluster_id\":\"7\",\"member_id\":\"1\",\"raft_term\":\"1\",\"revision\":\"5\"},\"kvs\":[{\"create_revision\":\"2\",\"key\":\"Zm9v\",\"mod_revision\":\"3\",\"value\":\"Mg==\",\"version\":\"2\"}]}"
    ∷ call "POST" "/t/one/v3/kv/range" "{\"key\":\"Zm9v\",\"revision\":\"4\"}" ⇒ answer 200 "{\"header\":{\"cluster_id\":\"7\",\"member_id\":\"1\",\"raft_term\":\"1\",\"revision\":\"5\"}}"
    ∷ call "POST" "/t/one/v3/kv/range" "{\"key\":\"Zm9v\",\"revision\":\"5\"}" ⇒ answer 200 "{\"count\":\"1\",\"header\":{\"cluster_id\":\"7\",\"member_id\":\"1\",\"raft_term\":\"1\",\"revision\":\"5\"},\"kvs\":[{\"create_revision\":\"5\",\"key\":\"Zm9v\",\"mod_revision\":\"5\",\"value\":\"Mw==\",\"version\":\"1\"}]}"
    ∷ []

alone_one : IsAnsweredAlone (opening 7 1024 1) "one" lines_1 7
unfolding model_on_literals
alone_one = (refl, refl)
