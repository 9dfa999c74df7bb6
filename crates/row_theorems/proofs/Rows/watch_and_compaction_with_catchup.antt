-- Made by tools/make-row-theorems of the row watch_and_compaction_with_catchup.
use Rattle.std.proofs.Common.{List, [], ◌∷◌, refl}
use Rattle.etcd_model.specs.Machine.{opening}
use Rattle.etcd_model.specs.Alone.{Turn}
use Rattle.row_theorems.proofs.OnLiterals.{model_on_literals}
use Rattle.row_theorems.proofs.Terms.{◌⇒◌, call, take, catchup, answer, IsAnsweredAlone}

abbrev lines_1 : List Turn
lines_1 =
    call "POST" "/t/one/v3/kv/put" "{\"key\":\"YQ==\"}" ⇒ answer 200 "{\"header\":{\"cluster_id\":\"7\",\"member_id\":\"1\",\"raft_term\":\"1\",\"revision\":\"2\"}}"
    ∷ call "POST" "/t/one/v3/kv/put" "{\"key\":\"YQ==\"}" ⇒ answer 200 "{\"header\":{\"cluster_id\":\"7\",\"member_id\":\"1\",\"raft_term\":\"1\",\"revision\":\"3\"}}"
    ∷ call "POST" "/t/one/v3/kv/put" "{\"key\":\"Yg==\"}" ⇒ answer 200 "{\"header\":{\"cluster_id\":\"7\",\"member_id\":\"1\",\"raft_term\":\"1\",\"revision\":\"4\"}}"
    ∷ call "POST" "/t/one/v3/kv/deleterange" "{\"key\":\"YQ==\"}" ⇒ answer 200 "{\"deleted\":\"1\",\"header\":{\"cluster_id\":\"7\",\"member_id\":\"1\",\"raft_term\":\"1\",\"revision\":\"5\"}}"
    ∷ call "POST" "/t/one/v3/watch" "{\"create_request\":{\"key\":\"YQ==\",\"start_revision\":\"3\"}}" ⇒ answer 200 "{\"result\":{\"created\":true,\"header\":{\"cluster_id\":\"7\",\"member_id\":\"1\",\"raft_term\":\"1\",\"revision\":\"5\"}}}\n"
    ∷ call "POST" "/t/one/v3/watch" "{\"create_request\":{\"key\":\"YQ==\",\"start_revision\":\"5\",\"prev_kv\":true}}" ⇒ answer 200 "{\"result\":{\"created\":true,\"header\":{\"cluster_id\":\"7\",\"member_id\":\"1\",\"raft_term\":\"1\",\"revision\":\"5\"}}}\n"
    ∷ catchup "one" 100 ⇒ answer 204 ""
    ∷ call "POST" "/t/one/v3/kv/compaction" "{\"revision\":\"5\"}" ⇒ answer 200 "{\"header\":{\"cluster_id\":\"7\",\"member_id\":\"1\",\"raft_term\":\"1\",\"revision\":\"5\"}}"
    ∷ take "one" 0 ⇒ answer 200 "{\"result\":{\"canceled\":true,\"compact_revision\":\"5\",\"header\":{\"cluster_id\":\"7\",\"member_id\":\"1\",\"raft_term\":\"1\",\"revision\":\"5\"}}}\n"
    ∷ take "one" 1 ⇒ answer 200 "{\"result\":{\"events\":[{\"kv\":{\"key\":\"YQ==\",\"mod_revision\":\"5\"},\"type\":\"DELETE\"}],\"header\":{\"cluster_id\":\"7\",\"member_id\":\"1\",\"raft_term\":\"1\",\"revision\":\"5\"}}}\n"
    ∷ take "one" 0 ⇒ answer 204 ""
    ∷ []

alone_one : IsAnsweredAlone (opening 7 1024 1) "one" lines_1 11
unfolding model_on_literals
alone_one = (refl, refl)
