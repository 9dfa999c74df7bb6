-- Made by tools/make-row-theorems of the row bodies.
use Rattle.std.proofs.Common.{List, [], ◌∷◌, refl}
use Rattle.etcd_model.specs.Machine.{opening}
use Rattle.etcd_model.specs.Alone.{Turn}
use Rattle.row_theorems.proofs.OnLiterals.{model_on_literals}
use Rattle.row_theorems.proofs.Terms.{◌⇒◌, call, answer, IsAnsweredAlone}

abbrev lines_1 : List Turn
lines_1 =
    call "POST" "/t/one/v3/kv/put" "" ⇒ answer 400 "{\"code\":3,\"error\":\"etcdserver: key is not provided\",\"message\":\"etcdserver: key is not provided\"}"
    ∷ call "POST" "/t/one/v3/kv/put" "" ⇒ answer 400 "{\"code\":3,\"error\":\"etcdserver: key is not provided\",\"message\":\"etcdserver: key is not provided\"}"
    ∷ call "POST" "/t/one/v3/kv/put" "{" ⇒ answer 400 "{\"code\":3,\"error\":\"etcd_host: the body can't be read\",\"message\":\"etcd_host: the body can't be read\"}"
    ∷ call "POST" "/t/one/v3/kv/put" "{\"key\":\"__4\"}" ⇒ answer 200 "{\"header\":{\"cluster_id\":\"7\",\"member_id\":\"1\",\"raft_term\":\"1\",\"revision\":\"2\"}}"
    ∷ call "POST" "/t/one/v3/kv/range" "{\"key\":\"//4=\"}" ⇒ answer 200 "{\"count\":\"1\",\"header\":{\"cluster_id\":\"7\",\"member_id\":\"1\",\"raft_term\":\"1\",\"revision\":\"2\"},\"kvs\":[{\"create_revision\":\"2\",\"key\":\"//4=\",\"mod_revision\":\"2\",\"version\":\"1\"}]}"
    ∷ call "POST" "/t/one/v3/kv/range" "{\"key\":\"//4=\",\"limit\":1}" ⇒ answer 200 "{\"count\":\"1\",\"header\":{\"cluster_id\":\"7\",\"member_id\":\"1\",\"raft_term\":\"1\",\"revision\":\"2\"},\"kvs\":[{\"create_revision\":\"2\",\"key\":\"//4=\",\"mod_revision\":\"2\",\"version\":\"1\"}]}"
    ∷ call "POST" "/t/one/v3/kv/range" "{\"key\":\"//4=\",\"limit\":\"1\"}" ⇒ answer 200 "{\"count\":\"1\",\"header\":{\"cluster_id\":\"7\",\"member_id\":\"1\",\"raft_term\":\"1\",\"revision\":\"2\"},\"kvs\":[{\"create_revision\":\"2\",\"key\":\"//4=\",\"mod_revision\":\"2\",\"version\":\"1\"}]}"
    ∷ call "POST" "/t/one/v3/kv/range" "{\"key\":\"//4=\",\"limit\":1.5}" ⇒ answer 400 "{\"code\":3,\"error\":\"etcd_host: the body can't be read\",\"message\":\"etcd_host: the body can't be read\"}"
    ∷ call "POST" "/t/one/v3/kv/put" "{\"key\":\"YQ==\"}" ⇒ answer 200 "{\"header\":{\"cluster_id\":\"7\",\"member_id\":\"1\",\"raft_term\":\"1\",\"revision\":\"3\"}}"
    ∷ call "POST" "/t/one/v3/kv/put" "{\"key\":\"Yg==\"}" ⇒ answer 200 "{\"header\":{\"cluster_id\":\"7\",\"member_id\":\"1\",\"raft_term\":\"1\",\"revision\":\"4\"}}"
    ∷ call "POST" "/t/one/v3/kv/range" "{\"key\":\"AA==\",\"range_end\":\"AA==\",\"rangeEnd\":\"Yg==\"}" ⇒ answer 200 "{\"count\":\"3\",\"header\":{\"cluster_id\":\"7\",\"member_id\":\"1\",\"raft_term\":\"1\",\"revision\":\"4\"},\"kvs\":[{\"create_revision\":\"3\",\"key\":\"YQ==\",\"mod_revision\":\"3\",\"version\":\"1\"},{\"create_revision\":\"4\",\"key\":\"Yg==\",\"mod_revision\":\"4\",\"version\":\"1\"},{\"create_revision\":\"2\",\"key\":\"//4=\",\"mod_revision\":\"2\",\"version\":\"1\"}]}"
    ∷ call "POST" "/t/one/v3/kv/range" "{\"key\":\"Zm9v\",\"x\":[[[[[[[[[[[[[[[[[[[[[[[[[[[[[[[[[[[[[[[[[[[[[[[[[[[[[[[[[[[[[[[[[[[[[[[[[[[[[[[[[[[[[[[[[[[[[[[[[[[[[[[[[[[[[[[[[[[[[[[[[[[[[[]]]]]]]]]]]]]]]]]]]]]]]]]]]]]]]]]]]]]]]]]]]]]]]]]]]]]]]]]]]]]]]]]]]]]]]]]]]]]]]]]]]]]]]]]]]]]]]]]]]]]]]]]]]]]]]]]]]]]]]]]]]]]]}" ⇒ answer 200 "{\"header\":{\"cluster_id\":\"7\",\"member_id\":\"1\",\"raft_term\":\"1\",\"revision\":\"4\"}}"
    ∷ call "POST" "/t/one/v3/kv/range" "{\"key\":\"Zm9v\",\"x\":[[[[[[[[[[[[[[[[[[[[[[[[[[[[[[[[[[[[[[[[[[[[[[[[[[[[[[[[[[[[[[[[[[[[[[[[[[[[[[[[[[[[[[[[[[[[[[[[[[[[[[[[[[[[[[[[[[[[[[[[[[[[[[[]]]]]]]]]]]]]]]]]]]]]]]]]]]]]]]]]]]]]]]]]]]]]]]]]]]]]]]]]]]]]]]]]]]]]]]]]]]]]]]]]]]]]]]]]]]]]]]]]]]]]]]]]]]]]]]]]]]]]]]]]]]]]]]}" ⇒ answer 400 "{\"code\":3,\"error\":\"etcd_host: the body can't be read\",\"message\":\"etcd_host: the body can't be read\"}"
    ∷ []

alone_one : IsAnsweredAlone (opening 7 1024 1) "one" lines_1 13
unfolding model_on_literals
alone_one = (refl, refl)
