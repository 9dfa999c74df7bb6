-- Made by tools/make-row-theorems of the row malformed_values.
use Rattle.std.proofs.Common.{List, [], ◌∷◌, refl}
use Rattle.etcd_model.specs.Machine.{opening}
use Rattle.etcd_model.specs.Alone.{Turn}
use Rattle.row_theorems.proofs.OnLiterals.{model_on_literals}
use Rattle.row_theorems.proofs.Terms.{◌⇒◌, call, answer, IsAnsweredAlone}

abbrev lines_1 : List Turn
lines_1 =
    call "POST" "/t/one/v3/kv/put" "" ⇒ answer 400 "{\"code\":3,\"error\":\"etcdserver: key is not provided\",\"message\":\"etcdserver: key is not provided\"}"
    ∷ call "POST" "/t/one/v3/kv/put" "{" ⇒ answer 400 "{\"code\":3,\"error\":\"etcd_host: the body can't be read\",\"message\":\"etcd_host: the body can't be read\"}"
    ∷ call "POST" "/t/one/v3/kv/put" "{\"" ⇒ answer 400 "{\"code\":3,\"error\":\"etcd_host: the body can't be read\",\"message\":\"etcd_host: the body can't be read\"}"
    ∷ call "POST" "/t/one/v3/kv/put" "{\"k" ⇒ answer 400 "{\"code\":3,\"error\":\"etcd_host: the body can't be read\",\"message\":\"etcd_host: the body can't be read\"}"
    ∷ call "POST" "/t/one/v3/kv/put" "{\"ke" ⇒ answer 400 "{\"code\":3,\"error\":\"etcd_host: the body can't be read\",\"message\":\"etcd_host: the body can't be read\"}"
    ∷ call "POST" "/t/one/v3/kv/put" "{\"key" ⇒ answer 400 "{\"code\":3,\"error\":\"etcd_host: the body can't be read\",\"message\":\"etcd_host: the body can't be read\"}"
    ∷ call "POST" "/t/one/v3/kv/put" "{\"key\"" ⇒ answer 400 "{\"code\":3,\"error\":\"etcd_host: the body can't be read\",\"message\":\"etcd_host: the body can't be read\"}"
    ∷ call "POST" "/t/one/v3/kv/put" "{\"key\":" ⇒ answer 400 "{\"code\":3,\"error\":\"etcd_host: the body can't be read\",\"message\":\"etcd_host: the body can't be read\"}"
    ∷ call "POST" "/t/one/v3/kv/put" "{\"key\":\"" ⇒ answer 400 "{\"code\":3,\"error\":\"etcd_host: the body can't be read\",\"message\":\"etcd_host: the body can't be read\"}"
    ∷ call "POST" "/t/one/v3/kv/put" "{\"key\":\"Z" ⇒ answer 400 "{\"code\":3,\"error\":\"etcd_host: the body can't be read\",\"message\":\"etcd_host: the body can't be read\"}"
    ∷ call "POST" "/t/one/v3/kv/put" "{\"key\":\"Zm" ⇒ answer 400 "{\"code\":3,\"error\":\"etcd_host: the body can't be read\",\"message\":\"etcd_host: the body can't be read\"}"
    ∷ call "POST" "/t/one/v3/kv/put" "{\"key\":\"Zm9" ⇒ answer 400 "{\"code\":3,\"error\":\"etcd_host: the body can't be read\",\"message\":\"etcd_host: the body can't be read\"}"
    ∷ call "POST" "/t/one/v3/kv/put" "{\"key\":\"Zm9v" ⇒ answer 400 "{\"code\":3,\"error\":\"etcd_host: the body can't be read\",\"message\":\"etcd_host: the body can't be read\"}"
    ∷ call "POST" "/t/one/v3/kv/put" "{\"key\":\"Zm9v\"" ⇒ answer 400 "{\"code\":3,\"error\":\"etcd_host: the body can't be read\",\"message\":\"etcd_host: the body can't be read\"}"
    ∷ call "POST" "/t/one/v3/kv/put" "{\"key\":\"Zm9v\"," ⇒ answer 400 "{\"code\":3,\"error\":\"etcd_host: the body can't be read\",\"message\":\"etcd_host: the body can't be read\"}"
    ∷ call "POST" "/t/one/v3/kv/put" "{\"key\":\"Zm9v\",\"" ⇒ answer 400 "{\"code\":3,\"error\":\"etcd_host: the body can't be read\",\"message\":\"etcd_host: the body can't be read\"}"
    ∷ call "POST" "/t/one/v3/kv/put" "{\"key\":\"Zm9v\",\"v" ⇒ answer 400 "{\"code\":3,\"error\":\"etcd_host: the body can't be read\",\"message\":\"etcd_host: the body can't be read\"}"
    ∷ call "POST" "/t/one/v3/kv/put" "{\"key\":\"Zm9v\",\"va" ⇒ answer 400 "{\"code\":3,\"error\":\"etcd_host: the body can't be read\",\"message\":\"etcd_host: the body can't be read\"}"
    ∷ call "POST" "/t/one/v3/kv/put" "{\"key\":\"Zm9v\",\"val" ⇒ answer 400 "{\"code\":3,\"error\":\"etcd_host: the body can't be read\",\"message\":\"etcd_host: the body can't be read\"}"
    ∷ call "POST" "/t/one/v3/kv/put" "{\"key\":\"Zm9v\",\"valu" ⇒ answer 400 "{\"code\":3,\"error\":\"etcd_host: the body can't be read\",\"message\":\"etcd_host: the body can't be read\"}"
    ∷ call "POST" "/t/one/v3/kv/put" "{\"key\":\"Zm9v\",\"value" ⇒ answer 400 "{\"code\":3,\"error\":\"etcd_host: the body can't be read\",\"message\":\"etcd_host: the body can't be read\"}"
    ∷ call "POST" "/t/one/v3/kv/put" "{\"key\":\"Zm9v\",\"value\"" ⇒ answer 400 "{\"code\":3,\"error\":\"etcd_host: the body can't be read\",\"message\":\"etcd_host: the body can't be read\"}"
    ∷ call "POST" "/t/one/v3/kv/put" "{\"key\":\"Zm9v\",\"value\":" ⇒ answer 400 "{\"code\":3,\"error\":\"etcd_host: the body can't be read\",\"message\":\"etcd_host: the body can't be read\"}"
    ∷ call "POST" "/t/one/v3/kv/put" "{\"key\":\"Zm9v\",\"value\":\"" ⇒ answer 400 "{\"code\":3,\"error\":\"etcd_host: the body can't be read\",\"message\":\"etcd_host: the body can't be read\"}"
    ∷ call "POST" "/t/one/v3/kv/put" "{\"key\":\"Zm9v\",\"value\":\"Y" ⇒ answer 400 "{\"code\":3,\"error\":\"etcd_host: the body can't be read\",\"message\":\"etcd_host: the body can't be read\"}"
    ∷ call "POST" "/t/one/v3/kv/put" "{\"key\":\"Zm9v\",\"value\":\"Ym" ⇒ answer 400 "{\"code\":3,\"error\":\"etcd_host: the body can't be read\",\"message\":\"etcd_host: the body can't be read\"}"
    ∷ call "POST" "/t/one/v3/kv/put" "{\"key\":\"Zm9v\",\"value\":\"YmF" ⇒ answer 400 "{\"code\":3,\"error\":\"etcd_host: the body can't be read\",\"message\":\"etcd_host: the body can't be read\"}"
    ∷ call "POST" "/t/one/v3/kv/put" "{\"key\":\"Zm9v\",\"value\":\"YmFy" ⇒ answer 400 "{\"code\":3,\"error\":\"etcd_host: the body can't be read\",\"message\":\"etcd_host: the body can't be read\"}"
    ∷ call "POST" "/t/one/v3/kv/put" "{\"key\":\"Zm9v\",\"value\":\"YmFy\"" ⇒ answer 400 "{\"code\":3,\"error\":\"etcd_host: the body can't be read\",\"message\":\"etcd_host: the body can't be read\"}"
    ∷ call "POST" "/t/one/v3/kv/range" "{\"key\":\"Zg\"}" ⇒ answer 200 "{\"header\":{\"cluster_id\":\"7\",\"member_id\":\"1\",\"raft_term\":\"1\",\"revision\":\"1\"}}"
    ∷ call "POST" "/t/one/v3/kv/range" "{\"key\":\"Zg==\"}" ⇒ answer 200 "{\"header\":{\"cluster_id\":\"7\",\"member_id\":\"1\",\"raft_term\":\"1\",\"revision\":\"1\"}}"
    ∷ call "POST" "/t/one/v3/kv/range" "{\"key\":\"Zm8=\"}" ⇒ answer 200 "{\"header\":{\"cluster_id\":\"7\",\"member_id\":\"1\",\"raft_term\":\"1\",\"revision\":\"1\"}}"
    ∷ call "POST" "/t/one/v3/kv/range" "{\"key\":\"Zg=\"}" ⇒ answer 400 "{\"code\":3,\"error\":\"etcd_host: the body can't be read\",\"message\":\"etcd_host: the body can't be read\"}"
    ∷ call "POST" "/t/one/v3/kv/range" "{\"key\":\"Zh==\"}" ⇒ answer 400 "{\"code\":3,\"error\":\"etcd_host: the body can't be read\",\"message\":\"etcd_host: the body can't be read\"}"
    ∷ call "POST" "/t/one/v3/kv/range" "{\"key\":\"Zm9=\"}" ⇒ answer 400 "{\"code\":3,\"error\":\"etcd_host: the body can't be read\",\"message\":\"etcd_host: the body can't be read\"}"
    ∷ call "POST" "/t/one/v3/kv/range" "{\"key\":\"Z\"}" ⇒ answer 400 "{\"code\":3,\"error\":\"etcd_host: the body can't be read\",\"message\":\"etcd_host: the body can't be read\"}"
    ∷ call "POST" "/t/one/v3/kv/range" "{\"key\":\"====\"}" ⇒ answer 400 "{\"code\":3,\"error\":\"etcd_host: the body can't be read\",\"message\":\"etcd_host: the body can't be read\"}"
    ∷ call "POST" "/t/one/v3/kv/range" "{\"key\":\"Z===\"}" ⇒ answer 400 "{\"code\":3,\"error\":\"etcd_host: the body can't be read\",\"message\":\"etcd_host: the body can't be read\"}"
    ∷ call "POST" "/t/one/v3/kv/range" "{\"key\":\"Zm9v=\"}" ⇒ answer 400 "{\"code\":3,\"error\":\"etcd_host: the body can't be read\",\"message\":\"etcd_host: the body can't be read\"}"
    ∷ call "POST" "/t/one/v3/kv/range" "{\"key\":\"YQ==\",\"limit\":\"-0\"}" ⇒ answer 200 "{\"header\":{\"cluster_id\":\"7\",\"member_id\":\"1\",\"raft_term\":\"1\",\"revision\":\"1\"}}"
    ∷ call "POST" "/t/one/v3/kv/range" "{\"key\":\"YQ==\",\"limit\":\"007\"}" ⇒ answer 200 "{\"header\":{\"cluster_id\":\"7\",\"member_id\":\"1\",\"raft_term\":\"1\",\"revision\":\"1\"}}"
    ∷ call "POST" "/t/one/v3/kv/range" "{\"key\":\"YQ==\",\"limit\":\"9223372036854775807\"}" ⇒ answer 200 "{\"header\":{\"cluster_id\":\"7\",\"member_id\":\"1\",\"raft_term\":\"1\",\"revision\":\"1\"}}"
    ∷ call "POST" "/t/one/v3/kv/range" "{\"key\":\"YQ==\",\"limit\":\"+1\"}" ⇒ answer 400 "{\"code\":3,\"error\":\"etcd_host: the body can't be read\",\"message\":\"etcd_host: the body can't be read\"}"
    ∷ call "POST" "/t/one/v3/kv/range" "{\"key\":\"YQ==\",\"limit\":\" 1\"}" ⇒ answer 400 "{\"code\":3,\"error\":\"etcd_host: the body can't be read\",\"message\":\"etcd_host: the body can't be read\"}"
    ∷ call "POST" "/t/one/v3/kv/range" "{\"key\":\"YQ==\",\"limit\":\"\"}" ⇒ answer 400 "{\"code\":3,\"error\":\"etcd_host: the body can't be read\",\"message\":\"etcd_host: the body can't be read\"}"
    ∷ call "POST" "/t/one/v3/kv/range" "{\"key\":\"YQ==\",\"limit\":true}" ⇒ answer 400 "{\"code\":3,\"error\":\"etcd_host: the body can't be read\",\"message\":\"etcd_host: the body can't be read\"}"
    ∷ call "POST" "/t/one/v3/kv/range" "{\"key\":\"YQ==\",\"limit\":9223372036854775808}" ⇒ answer 400 "{\"code\":3,\"error\":\"etcd_host: the body can't be read\",\"message\":\"etcd_host: the body can't be read\"}"
    ∷ call "POST" "/t/one/v3/kv/range" "{\"key\":\"YQ==\",\"sort_order\":\"ascend\"}" ⇒ answer 400 "{\"code\":3,\"error\":\"etcd_host: the body can't be read\",\"message\":\"etcd_host: the body can't be read\"}"
    ∷ call "POST" "/t/one/v3/kv/range" "{\"key\":\"YQ==\",\"sort_order\":3}" ⇒ answer 400 "{\"code\":3,\"error\":\"etcd_host: the body can't be read\",\"message\":\"etcd_host: the body can't be read\"}"
    ∷ call "POST" "/t/one/v3/kv/range" "{\"key\":\"YQ==\",\"sort_order\":\"1\"}" ⇒ answer 400 "{\"code\":3,\"error\":\"etcd_host: the body can't be read\",\"message\":\"etcd_host: the body can't be read\"}"
    ∷ call "POST" "/t/one/v3/kv/range" "{\"key\":\"\",\"limit\":\"x\"}" ⇒ answer 400 "{\"code\":3,\"error\":\"etcd_host: the body can't be read\",\"message\":\"etcd_host: the body can't be read\"}"
    ∷ []

alone_one : IsAnsweredAlone (opening 7 1024 1) "one" lines_1 51
unfolding model_on_literals
alone_one = (refl, refl)
