-- Made by tools/make-row-theorems of the row live_quota.
use Rattle.std.proofs.Common.{List, [], ◌∷◌, refl}
use Rattle.etcd_model.specs.Machine.{opening}
use Rattle.etcd_model.specs.Alone.{Turn}
use Rattle.row_theorems.proofs.OnLiterals.{model_on_literals}
use Rattle.row_theorems.proofs.Terms.{◌⇒◌, call, answer, IsAnsweredAlone, after, with_quota}

abbrev lines_1 : List Turn
lines_1 =
    call "POST" "/t/one/v3/kv/put" "{\"key\":\"Zm9v\",\"value\":\"YmFy\"}" ⇒ answer 200 "{\"header\":{\"cluster_id\":\"7\",\"member_id\":\"1\",\"raft_term\":\"1\",\"revision\":\"2\"}}"
    ∷ call "POST" "/t/one/v3/kv/put" "{\"key\":\"Zm9v\",\"value\":\"YmFy\"}" ⇒ answer 200 "{\"header\":{\"cluster_id\":\"7\",\"member_id\":\"1\",\"raft_term\":\"1\",\"revision\":\"3\"}}"
    ∷ call "POST" "/t/one/v3/kv/put" "{\"key\":\"Zm9v\",\"value\":\"YmFy\"}" ⇒ answer 200 "{\"header\":{\"cluster_id\":\"7\",\"member_id\":\"1\",\"raft_term\":\"1\",\"revision\":\"4\"}}"
    ∷ []

alone_one : IsAnsweredAlone (opening 7 8 1) "one" lines_1 3
unfolding model_on_literals
alone_one = (refl, refl)

abbrev lines_2 : List Turn
lines_2 =
    call "POST" "/t/one/v3/maintenance/status" "{}" ⇒ answer 200 "{\"dbSize\":\"192\",\"dbSizeInUse\":\"384\",\"header\":{\"cluster_id\":\"7\",\"member_id\":\"1\",\"raft_term\":\"1\",\"revision\":\"4\"}}"
    ∷ call "POST" "/t/one/v3/kv/deleterange" "{\"key\":\"Zm9v\"}" ⇒ answer 200 "{\"deleted\":\"1\",\"header\":{\"cluster_id\":\"7\",\"member_id\":\"1\",\"raft_term\":\"1\",\"revision\":\"5\"}}"
    ∷ call "POST" "/t/one/v3/kv/put" "{\"key\":\"Zm9v\",\"value\":\"YmFy\"}" ⇒ answer 429 "{\"code\":8,\"error\":\"etcdserver: mvcc: database space exceeded\",\"message\":\"etcdserver: mvcc: database space exceeded\"}"
    ∷ []

alone_one_2 : IsAnsweredAlone (with_quota 4 (after (opening 7 8 1) "one" lines_1)) "one" lines_2 3
unfolding model_on_literals
alone_one_2 = (refl, refl)

abbrev lines_3 : List Turn
lines_3 =
    call "POST" "/t/one/v3/kv/put" "{\"key\":\"Zm9v\",\"value\":\"YmFy\"}" ⇒ answer 429 "{\"code\":8,\"error\":\"etcdserver: mvcc: database space exceeded\",\"message\":\"etcdserver: mvcc: database space exceeded\"}"
    ∷ call "POST" "/t/one/v3/maintenance/alarm" "{\"action\":\"DEACTIVATE\",\"alarm\":\"NOSPACE\"}" ⇒ answer 200 "{\"alarms\":[{\"alarm\":\"NOSPACE\",\"memberID\":\"1\"}],\"header\":{\"cluster_id\":\"7\",\"member_id\":\"1\",\"raft_term\":\"1\",\"revision\":\"5\"}}"
    ∷ call "POST" "/t/one/v3/kv/put" "{\"key\":\"Zm9v\",\"value\":\"YmFy\"}" ⇒ answer 200 "{\"header\":{\"cluster_id\":\"7\",\"member_id\":\"1\",\"raft_term\":\"1\",\"revision\":\"6\"}}"
    ∷ []

alone_one_3 : IsAnsweredAlone (with_quota 256 (after (with_quota 4 (after (opening 7 8 1) "one" lines_1)) "one" lines_2)) "one" lines_3 3
unfolding model_on_literals
alone_one_3 = (refl, refl)
