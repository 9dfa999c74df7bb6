-- Made by tools/make-row-theorems of the row lease_taken_off_a_key.
use Rattle.std.proofs.Common.{List, [], ◌∷◌, refl}
use Rattle.etcd_model.specs.Machine.{opening}
use Rattle.etcd_model.specs.Alone.{Turn}
use Rattle.row_theorems.proofs.OnLiterals.{model_on_literals}
use Rattle.row_theorems.proofs.Terms.{◌⇒◌, call, answer, IsAnsweredAlone}

abbrev lines_1 : List Turn
lines_1 =
    call "POST" "/t/one/v3/lease/grant" "{\"ID\":\"5\",\"TTL\":\"10\"}" ⇒ answer 200 "{\"ID\":\"5\",\"TTL\":\"10\",\"header\":{\"cluster_id\":\"7\",\"member_id\":\"1\",\"raft_term\":\"1\",\"revision\":\"1\"}}"
    ∷ call "POST" "/t/one/v3/lease/grant" "{\"ID\":\"5\",\"TTL\":\"10\"}" ⇒ answer 400 "{\"code\":9,\"error\":\"etcdserver: lease already exists\",\"message\":\"etcdserver: lease already exists\"}"
    ∷ call "POST" "/t/one/v3/kv/put" "{\"key\":\"YQ==\",\"lease\":\"5\"}" ⇒ answer 200 "{\"header\":{\"cluster_id\":\"7\",\"member_id\":\"1\",\"raft_term\":\"1\",\"revision\":\"2\"}}"
    ∷ call "POST" "/t/one/v3/kv/put" "{\"key\":\"YQ==\"}" ⇒ answer 200 "{\"header\":{\"cluster_id\":\"7\",\"member_id\":\"1\",\"raft_term\":\"1\",\"revision\":\"3\"}}"
    ∷ call "POST" "/t/one/v3/lease/timetolive" "{\"ID\":\"5\",\"keys\":true}" ⇒ answer 200 "{\"ID\":\"5\",\"TTL\":\"10\",\"grantedTTL\":\"10\",\"header\":{\"cluster_id\":\"7\",\"member_id\":\"1\",\"raft_term\":\"1\",\"revision\":\"3\"}}"
    ∷ call "POST" "/t/one/v3/lease/revoke" "{\"ID\":\"5\"}" ⇒ answer 200 "{\"header\":{\"cluster_id\":\"7\",\"member_id\":\"1\",\"raft_term\":\"1\",\"revision\":\"3\"}}"
    ∷ call "POST" "/t/one/v3/kv/range" "{\"key\":\"YQ==\"}" ⇒ answer 200 "{\"count\":\"1\",\"header\":{\"cluster_id\":\"7\",\"member_id\":\"1\",\"raft_term\":\"1\",\"revision\":\"3\"},\"kvs\":[{\"create_revision\":\"2\",\"key\":\"YQ==\",\"mod_revision\":\"3\",\"version\":\"2\"}]}"
    ∷ []

alone_one : IsAnsweredAlone (opening 7 1024 1) "one" lines_1 7
unfolding model_on_literals
alone_one = (refl, refl)
