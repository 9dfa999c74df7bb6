-- Made by tools/make-row-theorems of the row watch_filters.
use Rattle.std.proofs.Common.{List, [], ◌∷◌, refl}
use Rattle.etcd_model.specs.Machine.{opening}
use Rattle.etcd_model.specs.Alone.{Turn}
use Rattle.row_theorems.proofs.OnLiterals.{model_on_literals}
use Rattle.row_theorems.proofs.Terms.{◌⇒◌, call, take, answer, IsAnsweredAlone}

abbrev lines_1 : List Turn
lines_1 =
    call "POST" "/t/one/v3/kv/put" "{\"key\":\"YQ==\",\"value\":\"MQ==\"}" ⇒ answer 200 "{\"header\":{\"cluster_id\":\"7\",\"member_id\":\"1\",\"raft_term\":\"1\",\"revision\":\"2\"}}"
    ∷ call "POST" "/t/one/v3/watch" "{\"create_request\":{\"key\":\"YQ==\",\"start_revision\":\"2\",\"filters\":[\"NOPUT\"],\"watch_id\":\"5\"}}" ⇒ answer 200 "{\"result\":{\"created\":true,\"header\":{\"cluster_id\":\"7\",\"member_id\":\"1\",\"raft_term\":\"1\",\"revision\":\"2\"},\"watch_id\":\"5\"}}\n"
    ∷ take "one" 0 ⇒ answer 204 ""
    ∷ call "POST" "/t/one/v3/kv/deleterange" "{\"key\":\"YQ==\"}" ⇒ answer 200 "{\"deleted\":\"1\",\"header\":{\"cluster_id\":\"7\",\"member_id\":\"1\",\"raft_term\":\"1\",\"revision\":\"3\"}}"
    ∷ take "one" 0 ⇒ answer 200 "{\"result\":{\"events\":[{\"kv\":{\"key\":\"YQ==\",\"mod_revision\":\"3\"},\"type\":\"DELETE\"}],\"header\":{\"cluster_id\":\"7\",\"member_id\":\"1\",\"raft_term\":\"1\",\"revision\":\"3\"},\"watch_id\":\"5\"}}\n"
    ∷ take "one" 200 ⇒ answer 204 ""
    ∷ call "POST" "/t/one/v3/watch" "{\"cancel_request\":{}}" ⇒ answer 501 "{\"code\":12,\"error\":\"etcd_host: not offered\",\"message\":\"etcd_host: not offered\"}"
    ∷ call "POST" "/t/one/v3/watch" "{}" ⇒ answer 400 "{\"code\":3,\"error\":\"etcd_host: the body can't be read\",\"message\":\"etcd_host: the body can't be read\"}"
    ∷ []

alone_one : IsAnsweredAlone (opening 7 1024 1) "one" lines_1 8
unfolding model_on_literals
alone_one = (refl, refl)
