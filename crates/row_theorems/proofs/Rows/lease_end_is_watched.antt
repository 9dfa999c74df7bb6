-- Made by tools/make-row-theorems of the row lease_end_is_watched.
use Rattle.std.proofs.Common.{List, [], ◌∷◌, refl}
use Rattle.etcd_model.specs.Machine.{opening}
use Rattle.etcd_model.specs.Alone.{Turn}
use Rattle.row_theorems.proofs.OnLiterals.{model_on_literals}
use Rattle.row_theorems.proofs.Terms.{◌⇒◌, call, take, tick, answer, IsAnsweredAlone}

abbrev lines_1 : List Turn
lines_1 =
    tick "one" 5 ⇒ answer 204 ""
    ∷ call "POST" "/t/one/v3/lease/grant" "{\"TTL\":\"10\"}" ⇒ answer 200 "{\"ID\":\"1\",\"TTL\":\"10\",\"header\":{\"cluster_id\":\"7\",\"member_id\":\"1\",\"raft_term\":\"1\",\"revision\":\"1\"}}"
    ∷ call "POST" "/t/one/v3/kv/put" "{\"key\":\"Yg==\",\"value\":\"MQ==\",\"lease\":\"1\"}" ⇒ answer 200 "{\"header\":{\"cluster_id\":\"7\",\"member_id\":\"1\",\"raft_term\":\"1\",\"revision\":\"2\"}}"
    ∷ call "POST" "/t/one/v3/kv/put" "{\"key\":\"YQ==\",\"value\":\"MQ==\",\"lease\":\"1\"}" ⇒ answer 200 "{\"header\":{\"cluster_id\":\"7\",\"member_id\":\"1\",\"raft_term\":\"1\",\"revision\":\"3\"}}"
    ∷ tick "one" 14 ⇒ answer 204 ""
    ∷ call "POST" "/t/one/v3/kv/range" "{\"key\":\"AA==\",\"range_end\":\"AA==\"}" ⇒ answer 200 "{\"count\":\"2\",\"header\":{\"cluster_id\":\"7\",\"member_id\":\"1\",\"raft_term\":\"1\",\"revision\":\"3\"},\"kvs\":[{\"create_revision\":\"3\",\"key\":\"YQ==\",\"lease\":\"1\",\"mod_revision\":\"3\",\"value\":\"MQ==\",\"version\":\"1\"},{\"create_revision\":\"2\",\"key\":\"Yg==\",\"lease\":\"1\",\"mod_revision\":\"2\",\"value\":\"MQ==\",\"version\":\"1\"}]}"
    ∷ tick "one" 15 ⇒ answer 204 ""
    ∷ call "POST" "/t/one/v3/kv/range" "{\"key\":\"AA==\",\"range_end\":\"AA==\"}" ⇒ answer 200 "{\"header\":{\"cluster_id\":\"7\",\"member_id\":\"1\",\"raft_term\":\"1\",\"revision\":\"4\"}}"
    ∷ tick "one" 12 ⇒ answer 204 ""
    ∷ call "POST" "/t/one/v3/watch" "{\"create_request\":{\"key\":\"AA==\",\"range_end\":\"AA==\",\"start_revision\":\"4\"}}" ⇒ answer 200 "{\"result\":{\"created\":true,\"header\":{\"cluster_id\":\"7\",\"member_id\":\"1\",\"raft_term\":\"1\",\"revision\":\"4\"}}}\n"
    ∷ take "one" 0 ⇒ answer 200 "{\"result\":{\"events\":[{\"kv\":{\"key\":\"YQ==\",\"mod_revision\":\"4\"},\"type\":\"DELETE\"},{\"kv\":{\"key\":\"Yg==\",\"mod_revision\":\"4\"},\"type\":\"DELETE\"}],\"header\":{\"cluster_id\":\"7\",\"member_id\":\"1\",\"raft_term\":\"1\",\"revision\":\"4\"}}}\n"
    ∷ []

alone_one : IsAnsweredAlone (opening 7 1024 1) "one" lines_1 11
unfolding model_on_literals
alone_one = (refl, refl)
