-- Made by tools/make-row-theorems of the row unknown_lease.
use Rattle.std.proofs.Common.{List, [], ◌∷◌, refl}
use Rattle.etcd_model.specs.Machine.{opening}
use Rattle.etcd_model.specs.Alone.{Turn}
use Rattle.row_theorems.proofs.OnLiterals.{model_on_literals}
use Rattle.row_theorems.proofs.Terms.{◌⇒◌, call, answer, IsAnsweredAlone}

abbrev lines_1 : List Turn
lines_1 =
    call "POST" "/t/one/v3/lease/keepalive" "{\"ID\":\"9\"}" ⇒ answer 200 "{\"result\":{\"ID\":\"9\",\"header\":{\"cluster_id\":\"7\",\"member_id\":\"1\",\"raft_term\":\"1\",\"revision\":\"1\"}}}\n"
    ∷ call "POST" "/t/one/v3/lease/timetolive" "{\"ID\":\"9\"}" ⇒ answer 200 "{\"ID\":\"9\",\"TTL\":\"-1\",\"header\":{\"cluster_id\":\"7\",\"member_id\":\"1\",\"raft_term\":\"1\",\"revision\":\"1\"}}"
    ∷ call "POST" "/t/one/v3/lease/revoke" "{\"ID\":\"9\"}" ⇒ answer 404 "{\"code\":5,\"error\":\"etcdserver: requested lease not found\",\"message\":\"etcdserver: requested lease not found\"}"
    ∷ call "POST" "/t/one/v3/lease/grant" "{\"TTL\":\"9000000000\"}" ⇒ answer 200 "{\"ID\":\"1\",\"TTL\":\"9000000000\",\"header\":{\"cluster_id\":\"7\",\"member_id\":\"1\",\"raft_term\":\"1\",\"revision\":\"1\"}}"
    ∷ call "POST" "/t/one/v3/lease/grant" "{\"TTL\":\"9000000001\"}" ⇒ answer 400 "{\"code\":11,\"error\":\"etcdserver: too large lease TTL\",\"message\":\"etcdserver: too large lease TTL\"}"
    ∷ []

alone_one : IsAnsweredAlone (opening 7 1024 1) "one" lines_1 5
unfolding model_on_literals
alone_one = (refl, refl)
