-- Made by tools/make-row-theorems of the row adding_and_paths.
use Rattle.std.proofs.Common.{List, [], ◌∷◌, refl}
use Rattle.etcd_model.specs.Machine.{opening}
use Rattle.etcd_model.specs.Alone.{Turn}
use Rattle.row_theorems.proofs.OnLiterals.{model_on_literals}
use Rattle.row_theorems.proofs.Terms.{◌⇒◌, call, answer, IsAnsweredAlone}

abbrev lines_1 : List Turn
lines_1 =
    call "GET" "/t/one/v3/kv/range?x=1" "{\"key\":\"Zm9v\"}" ⇒ answer 405 "{\"code\":12,\"error\":\"etcd_host: POST is wanted\",\"message\":\"etcd_host: POST is wanted\"}"
    ∷ call "POST" "/t/one/v3/kv/range?x=1" "{\"key\":\"Zm9v\"}" ⇒ answer 200 "{\"header\":{\"cluster_id\":\"18446744073709551615\",\"member_id\":\"1\",\"raft_term\":\"1\",\"revision\":\"1\"}}"
    ∷ call "POST" "/t//v3/kv/range" "{\"key\":\"Zm9v\"}" ⇒ answer 404 "{\"code\":5,\"error\":\"etcd_host: no such path\",\"message\":\"etcd_host: no such path\"}"
    ∷ call "POST" "/t/one/v2/kv/range" "{\"key\":\"Zm9v\"}" ⇒ answer 404 "{\"code\":5,\"error\":\"etcd_host: no such path\",\"message\":\"etcd_host: no such path\"}"
    ∷ call "POST" "/t/one/v3/kv/range/" "{\"key\":\"Zm9v\"}" ⇒ answer 404 "{\"code\":5,\"error\":\"etcd_host: no such path\",\"message\":\"etcd_host: no such path\"}"
    ∷ call "POST" "/t/one/v3/kv/put" "" ⇒ answer 400 "{\"code\":3,\"error\":\"etcdserver: key is not provided\",\"message\":\"etcdserver: key is not provided\"}"
    ∷ call "POST" "/t/one/v3/kv/put" "null" ⇒ answer 400 "{\"code\":3,\"error\":\"etcdserver: key is not provided\",\"message\":\"etcdserver: key is not provided\"}"
    ∷ []

alone_one : IsAnsweredAlone (opening 18446744073709551615 8 1) "one" lines_1 5
unfolding model_on_literals
alone_one = (refl, refl)
