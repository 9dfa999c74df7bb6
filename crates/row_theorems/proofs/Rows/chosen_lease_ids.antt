-- Made by tools/make-row-theorems of the row chosen_lease_ids.
use Rattle.std.proofs.Common.{List, [], ◌∷◌, refl}
use Rattle.etcd_model.specs.Machine.{opening}
use Rattle.etcd_model.specs.Alone.{Turn}
use Rattle.row_theorems.proofs.OnLiterals.{model_on_literals}
use Rattle.row_theorems.proofs.Terms.{◌⇒◌, call, tick, answer, IsAnsweredAlone}

abbrev lines_1 : List Turn
lines_1 =
    call "POST" "/t/one/v3/lease/grant" "{\"TTL\":\"5\",\"ID\":\"1\"}" ⇒ answer 200 "{\"ID\":\"1\",\"TTL\":\"5\",\"header\":{\"cluster_id\":\"7\",\"member_id\":\"1\",\"raft_term\":\"1\",\"revision\":\"1\"}}"
    ∷ call "POST" "/t/one/v3/lease/grant" "{\"TTL\":\"3\"}" ⇒ answer 200 "{\"ID\":\"2\",\"TTL\":\"3\",\"header\":{\"cluster_id\":\"7\",\"member_id\":\"1\",\"raft_term\":\"1\",\"revision\":\"1\"}}"
    ∷ call "POST" "/t/one/v3/lease/leases" "{}" ⇒ answer 200 "{\"header\":{\"cluster_id\":\"7\",\"member_id\":\"1\",\"raft_term\":\"1\",\"revision\":\"1\"},\"leases\":[{\"ID\":\"1\"},{\"ID\":\"2\"}]}"
    ∷ call "POST" "/t/one/v3/kv/put" "{\"key\":\"YQ==\",\"lease\":\"1\"}" ⇒ answer 200 "{\"header\":{\"cluster_id\":\"7\",\"member_id\":\"1\",\"raft_term\":\"1\",\"revision\":\"2\"}}"
    ∷ call "POST" "/t/one/v3/kv/put" "{\"key\":\"Yg==\",\"lease\":\"2\"}" ⇒ answer 200 "{\"header\":{\"cluster_id\":\"7\",\"member_id\":\"1\",\"raft_term\":\"1\",\"revision\":\"3\"}}"
    ∷ tick "one" 5 ⇒ answer 204 ""
    ∷ call "POST" "/t/one/v3/kv/range" "{\"key\":\"AA==\",\"range_end\":\"AA==\"}" ⇒ answer 200 "{\"header\":{\"cluster_id\":\"7\",\"member_id\":\"1\",\"raft_term\":\"1\",\"revision\":\"5\"}}"
    ∷ call "POST" "/t/one/v3/lease/grant" "{\"TTL\":\"0\"}" ⇒ answer 200 "{\"ID\":\"3\",\"TTL\":\"1\",\"header\":{\"cluster_id\":\"7\",\"member_id\":\"1\",\"raft_term\":\"1\",\"revision\":\"5\"}}"
    ∷ []

alone_one : IsAnsweredAlone (opening 7 1024 1) "one" lines_1 8
unfolding model_on_literals
alone_one = (refl, refl)
