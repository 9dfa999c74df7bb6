-- Made by tools/make-row-theorems of the row revisions_used_up_lease.
use Rattle.std.proofs.Common.{List, [], ◌∷◌, refl}
use Rattle.etcd_model.specs.Machine.{opening}
use Rattle.etcd_model.specs.Alone.{Turn}
use Rattle.row_theorems.proofs.OnLiterals.{model_on_literals}
use Rattle.row_theorems.proofs.Terms.{◌⇒◌, call, answer, IsAnsweredAlone}

abbrev lines_1 : List Turn
lines_1 =
    call "POST" "/t/one/v3/lease/grant" "{\"TTL\":\"5\"}" ⇒ answer 200 "{\"ID\":\"1\",\"TTL\":\"5\",\"header\":{\"cluster_id\":\"7\",\"member_id\":\"1\",\"raft_term\":\"1\",\"revision\":\"4611686018427387903\"}}"
    ∷ call "POST" "/t/one/v3/kv/put" "{\"key\":\"YQ==\",\"lease\":\"1\"}" ⇒ answer 200 "{\"header\":{\"cluster_id\":\"7\",\"member_id\":\"1\",\"raft_term\":\"1\",\"revision\":\"4611686018427387904\"}}"
    ∷ call "POST" "/t/one/v3/kv/put" "{\"key\":\"YQ==\"}" ⇒ answer 429 "{\"code\":8,\"error\":\"etcd_host: revisions are used up\",\"message\":\"etcd_host: revisions are used up\"}"
    ∷ call "POST" "/t/one/v3/kv/deleterange" "{\"key\":\"YQ==\"}" ⇒ answer 429 "{\"code\":8,\"error\":\"etcd_host: revisions are used up\",\"message\":\"etcd_host: revisions are used up\"}"
    ∷ call "POST" "/t/one/v3/lease/revoke" "{\"ID\":\"1\"}" ⇒ answer 200 "{\"header\":{\"cluster_id\":\"7\",\"member_id\":\"1\",\"raft_term\":\"1\",\"revision\":\"4611686018427387905\"}}"
    ∷ []

alone_one : IsAnsweredAlone (opening 7 1024 4611686018427387903) "one" lines_1 5
unfolding model_on_literals
alone_one = (refl, refl)
