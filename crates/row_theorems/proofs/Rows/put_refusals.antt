-- Made by tools/make-row-theorems of the row put_refusals.
use Rattle.std.proofs.Common.{List, [], ◌∷◌, refl}
use Rattle.etcd_model.specs.Machine.{opening}
use Rattle.etcd_model.specs.Alone.{Turn}
use Rattle.row_theorems.proofs.OnLiterals.{model_on_literals}
use Rattle.row_theorems.proofs.Terms.{◌⇒◌, call, answer, IsAnsweredAlone}

abbrev lines_1 : List Turn
lines_1 =
    call "POST" "/t/one/v3/kv/put" "{\"key\":\"Yg==\",\"ignore_value\":true}" ⇒ answer 400 "{\"code\":3,\"error\":\"etcdserver: key not found\",\"message\":\"etcdserver: key not found\"}"
    ∷ call "POST" "/t/one/v3/kv/put" "{\"key\":\"Yg==\",\"value\":\"MQ==\",\"ignore_value\":true}" ⇒ answer 400 "{\"code\":3,\"error\":\"etcdserver: value is provided\",\"message\":\"etcdserver: value is provided\"}"
    ∷ call "POST" "/t/one/v3/kv/put" "{\"key\":\"Yg==\",\"lease\":\"77\"}" ⇒ answer 404 "{\"code\":5,\"error\":\"etcdserver: requested lease not found\",\"message\":\"etcdserver: requested lease not found\"}"
    ∷ call "POST" "/t/one/v3/maintenance/alarm" "{\"action\":\"ACTIVATE\",\"alarm\":\"NOSPACE\"}" ⇒ answer 200 "{\"alarms\":[{\"alarm\":\"NOSPACE\",\"memberID\":\"1\"}],\"header\":{\"cluster_id\":\"7\",\"member_id\":\"1\",\"raft_term\":\"1\",\"revision\":\"1\"}}"
    ∷ call "POST" "/t/one/v3/kv/put" "{\"key\":\"Yg==\",\"lease\":\"77\"}" ⇒ answer 429 "{\"code\":8,\"error\":\"etcdserver: mvcc: database space exceeded\",\"message\":\"etcdserver: mvcc: database space exceeded\"}"
    ∷ call "POST" "/t/one/v3/kv/put" "{\"key\":\"\",\"lease\":\"77\"}" ⇒ answer 400 "{\"code\":3,\"error\":\"etcdserver: key is not provided\",\"message\":\"etcdserver: key is not provided\"}"
    ∷ []

alone_one : IsAnsweredAlone (opening 7 1024 1) "one" lines_1 6
unfolding model_on_literals
alone_one = (refl, refl)
