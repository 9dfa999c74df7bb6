-- Made by tools/make-row-theorems of the row last_moment.
use Rattle.std.proofs.Common.{List, [], ◌∷◌, refl}
use Rattle.etcd_model.specs.Machine.{opening}
use Rattle.etcd_model.specs.Alone.{Turn}
use Rattle.row_theorems.proofs.OnLiterals.{model_on_literals}
use Rattle.row_theorems.proofs.Terms.{◌⇒◌, call, tick, answer, IsAnsweredAlone}

abbrev lines_1 : List Turn
lines_1 =
    tick "one" 18446744073709551615 ⇒ answer 204 ""
    ∷ call "POST" "/t/one/v3/lease/grant" "{\"TTL\":\"1\"}" ⇒ answer 200 "{\"ID\":\"1\",\"TTL\":\"1\",\"header\":{\"cluster_id\":\"7\",\"member_id\":\"1\",\"raft_term\":\"1\",\"revision\":\"1\"}}"
    ∷ tick "one" 3 ⇒ answer 204 ""
    ∷ call "POST" "/t/one/v3/lease/timetolive" "{\"ID\":\"1\"}" ⇒ answer 200 "{\"ID\":\"1\",\"TTL\":\"1\",\"grantedTTL\":\"1\",\"header\":{\"cluster_id\":\"7\",\"member_id\":\"1\",\"raft_term\":\"1\",\"revision\":\"1\"}}"
    ∷ []

alone_one : IsAnsweredAlone (opening 7 1024 1) "one" lines_1 4
unfolding model_on_literals
alone_one = (refl, refl)
