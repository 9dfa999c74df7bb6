-- Made by tools/make-row-theorems of the row methods_tenants_paths.
use Rattle.std.proofs.Common.{List, [], ◌∷◌, refl}
use Rattle.etcd_model.specs.Machine.{opening}
use Rattle.etcd_model.specs.Alone.{Turn}
use Rattle.row_theorems.proofs.OnLiterals.{model_on_literals}
use Rattle.row_theorems.proofs.Terms.{◌⇒◌, call, answer, IsAnsweredAlone}

abbrev lines_1 : List Turn
lines_1 =
    call "GET" "/t/one/v3/kv/put" "" ⇒ answer 405 "{\"code\":12,\"error\":\"etcd_host: POST is wanted\",\"message\":\"etcd_host: POST is wanted\"}"
    ∷ call "POST" "/t/nobody/v3/kv/put" "{}" ⇒ answer 404 "{\"code\":5,\"error\":\"etcd_host: no such tenant\",\"message\":\"etcd_host: no such tenant\"}"
    ∷ call "POST" "/t/nobody/v3/kv/none" "{}" ⇒ answer 404 "{\"code\":5,\"error\":\"etcd_host: no such path\",\"message\":\"etcd_host: no such path\"}"
    ∷ []

alone_one : IsAnsweredAlone (opening 7 1024 1) "one" lines_1 1
unfolding model_on_literals
alone_one = (refl, refl)
