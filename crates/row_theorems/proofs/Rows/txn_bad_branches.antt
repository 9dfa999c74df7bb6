-- Made by tools/make-row-theorems of the row txn_bad_branches.
use Rattle.std.proofs.Common.{List, [], ◌∷◌, refl}
use Rattle.etcd_model.specs.Machine.{opening}
use Rattle.etcd_model.specs.Alone.{Turn}
use Rattle.row_theorems.proofs.OnLiterals.{model_on_literals}
use Rattle.row_theorems.proofs.Terms.{◌⇒◌, call, answer, IsAnsweredAlone}

abbrev lines_1 : List Turn
lines_1 =
    call "POST" "/t/one/v3/kv/txn" "{\"failure\":[{\"request_put\":{\"key\":\"YQ==\"}},{\"request_put\":{\"key\":\"YQ==\"}}]}" ⇒ answer 400 "{\"code\":3,\"error\":\"etcdserver: duplicate key given in txn request\",\"message\":\"etcdserver: duplicate key given in txn request\"}"
    ∷ call "POST" "/t/one/v3/kv/txn" "{\"success\":[{\"request_txn\":5}]}" ⇒ answer 501 "{\"code\":12,\"error\":\"etcd_host: not offered\",\"message\":\"etcd_host: not offered\"}"
    ∷ call "POST" "/t/one/v3/kv/txn" "{\"success\":[{}]}" ⇒ answer 400 "{\"code\":3,\"error\":\"etcd_host: the body can't be read\",\"message\":\"etcd_host: the body can't be read\"}"
    ∷ []

alone_one : IsAnsweredAlone (opening 7 1024 1) "one" lines_1 3
unfolding model_on_literals
alone_one = (refl, refl)
