-- Made by tools/make-row-theorems of the row watch_of_twenty_puts.
use Rattle.std.proofs.Common.{List, [], ◌∷◌, refl}
use Rattle.etcd_model.specs.Machine.{opening}
use Rattle.etcd_model.specs.Alone.{Turn}
use Rattle.row_theorems.proofs.OnLiterals.{model_on_literals}
use Rattle.row_theorems.proofs.Terms.{◌⇒◌, call, take, answer, IsAnsweredAlone}

abbrev lines_1 : List Turn
lines_1 =
    call "POST" "/t/one/v3/kv/put" "{\"key\":\"YQ==\",\"value\":\"MQ==\"}" ⇒ answer 200 "{\"header\":{\"cluster_id\":\"7\",\"member_id\":\"1\",\"raft_term\":\"1\",\"revision\":\"2\"}}"
    ∷ call "POST" "/t/one/v3/kv/put" "{\"key\":\"YQ==\",\"value\":\"MQ==\"}" ⇒ answer 200 "{\"header\":{\"cluster_id\":\"7\",\"member_id\":\"1\",\"raft_term\":\"1\",\"revision\":\"3\"}}"
    ∷ call "POST" "/t/one/v3/kv/put" "{\"key\":\"YQ==\",\"value\":\"MQ==\"}" ⇒ answer 200 "{\"header\":{\"cluster_id\":\"7\",\"member_id\":\"1\",\"raft_term\":\"1\",\"revision\":\"4\"}}"
    ∷ call "POST" "/t/one/v3/kv/put" "{\"key\":\"YQ==\",\"value\":\"MQ==\"}" ⇒ answer 200 "{\"header\":{\"cluster_id\":\"7\",\"member_id\":\"1\",\"raft_term\":\"1\",\"revision\":\"5\"}}"
    ∷ call "POST" "/t/one/v3/kv/put" "{\"key\":\"YQ==\",\"value\":\"MQ==\"}" ⇒ answer 200 "{\"header\":{\"cluster_id\":\"7\",\"member_id\":\"1\",\"raft_term\":\"1\",\"revision\":\"6\"}}"
    ∷ call "POST" "/t/one/v3/kv/put" "{\"key\":\"YQ==\",\"value\":\"MQ==\"}" ⇒ answer 200 "{\"header\":{\"cluster_id\":\"7\",\"member_id\":\"1\",\"raft_term\":\"1\",\"revision\":\"7\"}}"
    ∷ call "POST" "/t/one/v3/kv/put" "{\"key\":\"YQ==\",\"value\":\"MQ==\"}" ⇒ answer 200 "{\"header\":{\"cluster_id\":\"7\",\"member_id\":\"1\",\"raft_term\":\"1\",\"revision\":\"8\"}}"
    ∷ call "POST" "/t/one/v3/kv/put" "{\"key\":\"YQ==\",\"value\":\"MQ==\"}" ⇒ answer 200 "{\"header\":{\"cluster_id\":\"7\",\"member_id\":\"1\",\"raft_term\":\"1\",\"revision\":\"9\"}}"
    ∷ call "POST" "/t/one/v3/kv/put" "{\"key\":\"YQ==\",\"value\":\"MQ==\"}" ⇒ answer 200 "{\"header\":{\"cluster_id\":\"7\",\"member_id\":\"1\",\"raft_term\":\"1\",\"revision\":\"10\"}}"
    ∷ call "POST" "/t/one/v3/kv/put" "{\"key\":\"YQ==\",\"value\":\"MQ==\"}" ⇒ answer 200 "{\"header\":{\"cluster_id\":\"7\",\"member_id\":\"1\",\"raft_term\":\"1\",\"revision\":\"11\"}}"
    ∷ call "POST" "/t/one/v3/kv/put" "{\"key\":\"YQ==\",\"value\":\"MQ==\"}" ⇒ answer 200 "{\"header\":{\"cluster_id\":\"7\",\"member_id\":\"1\",\"raft_term\":\"1\",\"revision\":\"12\"}}"
    ∷ call "POST" "/t/one/v3/kv/put" "{\"key\":\"YQ==\",\"value\":\"MQ==\"}" ⇒ answer 200 "{\"header\":{\"cluster_id\":\"7\",\"member_id\":\"1\",\"raft_term\":\"1\",\"revision\":\"13\"}}"
    ∷ call "POST" "/t/one/v3/kv/put" "{\"key\":\"YQ==\",\"value\":\"MQ==\"}" ⇒ answer 200 "{\"header\":{\"cluster_id\":\"7\",\"member_id\":\"1\",\"raft_term\":\"1\",\"revision\":\"14\"}}"
    ∷ call "POST" "/t/one/v3/kv/put" "{\"key\":\"YQ==\",\"value\":\"MQ==\"}" ⇒ answer 200 "{\"header\":{\"cluster_id\":\"7\",\"member_id\":\"1\",\"raft_term\":\"1\",\"revision\":\"15\"}}"
    ∷ call "POST" "/t/one/v3/kv/put" "{\"key\":\"YQ==\",\"value\":\"MQ==\"}" ⇒ answer 200 "{\"header\":{\"cluster_id\":\"7\",\"member_id\":\"1\",\"raft_term\":\"1\",\"revision\":\"16\"}}"
    ∷ call "POST" "/t/one/v3/kv/put" "{\"key\":\"YQ==\",\"value\":\"MQ==\"}" ⇒ answer 200 "{\"header\":{\"cluster_id\":\"7\",\"member_id\":\"1\",\"raft_term\":\"1\",\"revision\":\"17\"}}"
    ∷ call "POST" "/t/one/v3/kv/put" "{\"key\":\"YQ==\",\"value\":\"MQ==\"}" ⇒ answer 200 "{\"header\":{\"cluster_id\":\"7\",\"member_id\":\"1\",\"raft_term\":\"1\",\"revision\":\"18\"}}"
    ∷ call "POST" "/t/one/v3/kv/put" "{\"key\":\"YQ==\",\"value\":\"MQ==\"}" ⇒ answer 200 "{\"header\":{\"cluster_id\":\"7\",\"member_id\":\"1\",\"raft_term\":\"1\",\"revision\":\"19\"}}"
    ∷ call "POST" "/t/one/v3/kv/put" "{\"key\":\"YQ==\",\"value\":\"MQ==\"}" ⇒ answer 200 "{\"header\":{\"cluster_id\":\"7\",\"member_id\":\"1\",\"raft_term\":\"1\",\"revision\":\"20\"}}"
    ∷ call "POST" "/t/one/v3/kv/put" "{\"key\":\"YQ==\",\"value\":\"MQ==\"}" ⇒ answer 200 "{\"header\":{\"cluster_id\":\"7\",\"member_id\":\"1\",\"raft_term\":\"1\",\"revision\":\"21\"}}"
    ∷ call "POST" "/t/one/v3/watch" "{\"create_request\":{\"key\":\"YQ==\",\"start_revision\":\"2\"}}" ⇒ answer 200 "{\"result\":{\"created\":true,\"header\":{\"cluster_id\":\"7\",\"member_id\":\"1\",\"raft_term\":\"1\",\"revision\":\"21\"}}}\n"
    ∷ take "one" 0 ⇒ answer 200 "{\"result\":{\"events\":[{\"kv\":{\"create_revision\":\"2\",\"key\":\"YQ==\",\"mod_revision\":\"2\",\"value\":\"MQ==\",\"version\":\"1\"}},{\"kv\":{\"create_revision\":\"2\",\"key\":\"YQ==\",\"mod_revision\":\"3\",\"value\":\"MQ==\",\"version\":\"2\"}},{\"kv\":{\"create_revision\":\"2\",\"key\":\"YQ==\",\"mod_revision\":\"4\",\"value\":\"MQ==\",\"version\":\"3\"}},{\"kv\":{\"create_revision\":\"2\",\"key\":\"YQ==\",\"mod_revision\":\"5\",\"value\":\"MQ==\",\"version\":\"4\"}},{\"kv\":{\"create_revision\":\"2\",\"key\":\"YQ==\",\"mod_revision\":\"6\",\"value\":\"MQ==\",\"version\":\"5\"}},{\"kv\":{\"create_revision\":\"2\",\"key\":\"YQ==\",\"mod_revision\":\"7\",\"value\":\"MQ==\",\"version\":\"6\"}},{\"kv\":{\"create_revision\":\"2\",\"key\":\"YQ==\",\"mod_revision\":\"8\",\"value\":\"MQ==\",\"version\":\"7\"}},{\"kv\":{\"create_revision\":\"2\",\"key\":\"YQ==\",\"mod_revision\":\"9\",\"value\":\"MQ==\",\"version\":\"8\"}},{\"kv\":{\"create_revision\":\"2\",\"key\":\"YQ==\",\"mod_revision\":\"10\",\"value\":\"MQ==\",\"version\":\"9\"}},{\"kv\":{\"create_revision\":\"2\",\"key\":\"YQ==\",\"mod_revision\":\"11\",\"value\":\"MQ==\",\"version\":\"10\"}},{\"kv\":{\"create_revision\":\"2\",\"key\":\"YQ==\",\"mod_revision\":\"12\",\"value\":\"MQ==\",\"version\":\"11\"}},{\"kv\":{\"create_revision\":\"2\",\"key\":\"YQ==\",\"mod_revision\":\"13\",\"value\":\"MQ==\",\"version\":\"12\"}},{\"kv\":{\"create_revision\":\"2\",\"key\":\"YQ==\",\"mod_revision\":\"14\",\"value\":\"MQ==\",\"version\":\"13\"}},{\"kv\":{\"create_revision\":\"2\",\"key\":\"YQ==\",\"mod_revision\":\"15\",\"value\":\"MQ==\",\"version\":\"14\"}},{\"kv\":{\"create_revision\":\"2\",\"key\":\"YQ==\",\"mod_revision\":\"16\",\"value\":\"MQ==\",\"version\":\"15\"}},{\"kv\":{\"create_revision\":\"2\",\"key\":\"YQ==\",\"mod_revision\":\"17\",\"value\":\"MQ==\",\"version\":\"16\"}}],\"header\":{\"cluster_id\":\"7\",\"member_id\":\"1\",\"raft_term\":\"1\",\"revision\":\"21\"}}}\n"
    ∷ take "one" 0 ⇒ answer 200 "{\"result\":{\"events\":[{\"kv\":{\"create_revision\":\"2\",\"key\":\"YQ==\",\"mod_revision\":\"18\",\"value\":\"MQ==\",\"version\":\"17\"}},{\"kv\":{\"create_revision\":\"2\",\"key\":\"YQ==\",\"mod_revision\":\"19\",\"value\":\"MQ==\",\"version\":\"18\"}},{\"kv\":{\"create_revision\":\"2\",\"key\":\"YQ==\",\"mod_revision\":\"20\",\"value\":\"MQ==\",\"version\":\"19\"}},{\"kv\":{\"create_revision\":\"2\",\"key\":\"YQ==\",\"mod_revision\":\"21\",\"value\":\"MQ==\",\"version\":\"20\"}}],\"header\":{\"cluster_id\":\"7\",\"member_id\":\"1\",\"raft_term\":\"1\",\"revision\":\"21\"}}}\n"
    ∷ take "one" 0 ⇒ answer 204 ""
    ∷ []

alone_one : IsAnsweredAlone (opening 7 1024 1) "one" lines_1 24
unfolding model_on_literals
alone_one = (refl, refl)
