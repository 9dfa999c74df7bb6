-- Made by tools/make-row-theorems of the row progress.
use Rattle.std.proofs.Common.{List, [], ◌∷◌, refl}
use Rattle.etcd_model.specs.Machine.{opening}
use Rattle.etcd_model.specs.Alone.{Turn}
use Rattle.row_theorems.proofs.OnLiterals.{model_on_literals}
use Rattle.row_theorems.proofs.Terms.{◌⇒◌, call, take, tick, answer, IsAnsweredAlone}

abbrev lines_1 : List Turn
lines_1 =
    tick "one" 100 ⇒ answer 204 ""
    ∷ call "POST" "/t/one/v3/watch" "{\"create_request\":{\"key\":\"YQ==\",\"progress_notify\":true}}" ⇒ answer 200 "{\"result\":{\"created\":true,\"header\":{\"cluster_id\":\"7\",\"member_id\":\"1\",\"raft_term\":\"1\",\"revision\":\"1\"}}}\n"
    ∷ tick "one" 699 ⇒ answer 204 ""
    ∷ take "one" 0 ⇒ answer 204 ""
    ∷ tick "one" 700 ⇒ answer 204 ""
    ∷ take "one" 0 ⇒ answer 200 "{\"result\":{\"header\":{\"cluster_id\":\"7\",\"member_id\":\"1\",\"raft_term\":\"1\",\"revision\":\"1\"}}}\n"
    ∷ take "one" 0 ⇒ answer 204 ""
    ∷ call "POST" "/t/one/v3/kv/put" "{\"key\":\"Yg==\"}" ⇒ answer 200 "{\"header\":{\"cluster_id\":\"7\",\"member_id\":\"1\",\"raft_term\":\"1\",\"revision\":\"2\"}}"
    ∷ tick "one" 1300 ⇒ answer 204 ""
    ∷ take "one" 0 ⇒ answer 200 "{\"result\":{\"header\":{\"cluster_id\":\"7\",\"member_id\":\"1\",\"raft_term\":\"1\",\"revision\":\"2\"}}}\n"
    ∷ call "POST" "/t/one/v3/kv/put" "{\"key\":\"YQ==\",\"value\":\"MQ==\"}" ⇒ answer 200 "{\"header\":{\"cluster_id\":\"7\",\"member_id\":\"1\",\"raft_term\":\"1\",\"revision\":\"3\"}}"
    ∷ tick "one" 1900 ⇒ answer 204 ""
    ∷ take "one" 0 ⇒ answer 200 "{\"result\":{\"events\":[{\"kv\":{\"create_revision\":\"3\",\"key\":\"YQ==\",\"mod_revision\":\"3\",\"value\":\"MQ==\",\"version\":\"1\"}}],\"header\":{\"cluster_id\":\"7\",\"member_id\":\"1\",\"raft_term\":\"1\",\"revision\":\"3\"}}}\n"
    ∷ take "one" 0 ⇒ answer 204 ""
    ∷ call "POST" "/t/one/v3/watch" "{\"create_request\":{\"key\":\"YQ==\",\"progress_notify\":true,\"start_revision\":\"10\"}}" ⇒ answer 200 "{\"result\":{\"created\":true,\"header\":{\"cluster_id\":\"7\",\"member_id\":\"1\",\"raft_term\":\"1\",\"revision\":\"3\"}}}\n"
    ∷ tick "one" 2500 ⇒ answer 204 ""
    ∷ take "one" 1 ⇒ answer 204 ""
    ∷ []

alone_one : IsAnsweredAlone (opening 7 1024 1) "one" lines_1 17
unfolding model_on_literals
alone_one = (refl, refl)
