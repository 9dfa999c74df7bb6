-- Made by tools/make-row-theorems of the row quota_below_use.
use Rattle.std.proofs.Common.{List, [], ◌∷◌, refl}
use Rattle.etcd_model.specs.Machine.{opening}
use Rattle.etcd_model.specs.Alone.{Turn}
use Rattle.row_theorems.proofs.OnLiterals.{model_on_literals}
use Rattle.row_theorems.proofs.Terms.{◌⇒◌, call, answer, IsAnsweredAlone, after, with_quota}

abbrev lines_1 : List Turn
lines_1 =
    call "POST" "/t/one/v3/kv/put" "{\"key\":\"YQ==\",\"value\":\"MQ==\"}" ⇒ answer 200 "{\"header\":{\"cluster_id\":\"7\",\"member_id\":\"1\",\"raft_term\":\"1\",\"revision\":\"2\"}}"
    ∷ call "POST" "/t/one/v3/kv/put" "{\"key\":\"Yg==\",\"value\":\"Mg==\"}" ⇒ answer 200 "{\"header\":{\"cluster_id\":\"7\",\"member_id\":\"1\",\"raft_term\":\"1\",\"revision\":\"3\"}}"
    ∷ call "POST" "/t/one/v3/kv/put" "{\"key\":\"Yw==\",\"value\":\"Mw==\"}" ⇒ answer 200 "{\"header\":{\"cluster_id\":\"7\",\"member_id\":\"1\",\"raft_term\":\"1\",\"revision\":\"4\"}}"
    ∷ []

alone_one : IsAnsweredAlone (opening 7 12 1) "one" lines_1 3
unfolding model_on_literals
alone_one = (refl, refl)

abbrev lines_2 : List Turn
lines_2 =
    call "POST" "/t/one/v3/kv/txn" "{\"compare\":[{\"key\":\"YQ==\",\"target\":\"VERSION\",\"version\":\"1\"}],\"success\":[{\"request_range\":{\"key\":\"YQ==\"}}],\"failure\":[{\"request_put\":{\"key\":\"YQ==\",\"value\":\"NA==\"}}]}" ⇒ answer 200 "{\"header\":{\"cluster_id\":\"7\",\"member_id\":\"1\",\"raft_term\":\"1\",\"revision\":\"4\"},\"responses\":[{\"response_range\":{\"count\":\"1\",\"header\":{\"revision\":\"4\"},\"kvs\":[{\"create_revision\":\"2\",\"key\":\"YQ==\",\"mod_revision\":\"2\",\"value\":\"MQ==\",\"version\":\"1\"}]}}],\"succeeded\":true}"
    ∷ call "POST" "/t/one/v3/kv/txn" "{\"compare\":[{\"key\":\"YQ==\",\"target\":\"VERSION\",\"version\":\"2\"}],\"success\":[{\"request_put\":{\"key\":\"YQ==\",\"value\":\"NA==\"}}],\"failure\":[{\"request_delete_range\":{\"key\":\"Yw==\"}}]}" ⇒ answer 200 "{\"header\":{\"cluster_id\":\"7\",\"member_id\":\"1\",\"raft_term\":\"1\",\"revision\":\"5\"},\"responses\":[{\"response_delete_range\":{\"deleted\":\"1\",\"header\":{\"revision\":\"5\"}}}]}"
    ∷ call "POST" "/t/one/v3/maintenance/alarm" "{}" ⇒ answer 200 "{\"header\":{\"cluster_id\":\"7\",\"member_id\":\"1\",\"raft_term\":\"1\",\"revision\":\"5\"}}"
    ∷ call "POST" "/t/one/v3/kv/txn" "{\"compare\":[{\"key\":\"YQ==\",\"target\":\"VERSION\",\"version\":\"2\"}],\"success\":[{\"request_range\":{\"key\":\"YQ==\"}}],\"failure\":[{\"request_put\":{\"key\":\"YQ==\",\"value\":\"NA==\"}}]}" ⇒ answer 429 "{\"code\":8,\"error\":\"etcdserver: mvcc: database space exceeded\",\"message\":\"etcdserver: mvcc: database space exceeded\"}"
    ∷ call "POST" "/t/one/v3/maintenance/alarm" "{}" ⇒ answer 200 "{\"alarms\":[{\"alarm\":\"NOSPACE\",\"memberID\":\"1\"}],\"header\":{\"cluster_id\":\"7\",\"member_id\":\"1\",\"raft_term\":\"1\",\"revision\":\"5\"}}"
    ∷ call "POST" "/t/one/v3/kv/txn" "{\"compare\":[{\"key\":\"YQ==\",\"target\":\"VERSION\",\"version\":\"1\"}],\"success\":[{\"request_range\":{\"key\":\"YQ==\"}}],\"failure\":[{\"request_put\":{\"key\":\"YQ==\",\"value\":\"NA==\"}}]}" ⇒ answer 429 "{\"code\":8,\"error\":\"etcdserver: mvcc: database space exceeded\",\"message\":\"etcdserver: mvcc: database space exceeded\"}"
    ∷ call "POST" "/t/one/v3/kv/range" "{\"key\":\"YQ==\"}" ⇒ answer 200 "{\"count\":\"1\",\"header\":{\"cluster_id\":\"7\",\"member_id\":\"1\",\"raft_term\":\"1\",\"revision\":\"5\"},\"kvs\":[{\"create_revision\":\"2\",\"key\":\"YQ==\",\"mod_revision\":\"2\",\"value\":\"MQ==\",\"version\":\"1\"}]}"
    ∷ []

alone_one_2 : IsAnsweredAlone (with_quota 4 (after (opening 7 12 1) "one" lines_1)) "one" lines_2 7
unfolding model_on_literals
alone_one_2 = (refl, refl)
