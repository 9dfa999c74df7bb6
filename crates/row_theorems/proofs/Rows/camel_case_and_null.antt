-- Made by tools/make-row-theorems of the row camel_case_and_null.
use Rattle.std.proofs.Common.{List, [], ◌∷◌, refl}
use Rattle.etcd_model.specs.Machine.{opening}
use Rattle.etcd_model.specs.Alone.{Turn}
use Rattle.row_theorems.proofs.OnLiterals.{model_on_literals}
use Rattle.row_theorems.proofs.Terms.{◌⇒◌, call, answer, IsAnsweredAlone}

abbrev lines_1 : List Turn
lines_1 =
    call "POST" "/t/one/v3/kv/put" "{\"key\":\"YQ==\"}" ⇒ answer 200 "{\"header\":{\"cluster_id\":\"7\",\"member_id\":\"1\",\"raft_term\":\"1\",\"revision\":\"2\"}}"
    ∷ call "POST" "/t/one/v3/kv/put" "{\"key\":\"Yg==\"}" ⇒ answer 200 "{\"header\":{\"cluster_id\":\"7\",\"member_id\":\"1\",\"raft_term\":\"1\",\"revision\":\"3\"}}"
    ∷ call "POST" "/t/one/v3/kv/range" "{\"key\":\"AA==\",\"range_end\":null,\"rangeEnd\":\"AA==\"}" ⇒ answer 200 "{\"count\":\"2\",\"header\":{\"cluster_id\":\"7\",\"member_id\":\"1\",\"raft_term\":\"1\",\"revision\":\"3\"},\"kvs\":[{\"create_revision\":\"2\",\"key\":\"YQ==\",\"mod_revision\":\"2\",\"version\":\"1\"},{\"create_revision\":\"3\",\"key\":\"Yg==\",\"mod_revision\":\"3\",\"version\":\"1\"}]}"
    ∷ []

alone_one : IsAnsweredAlone (opening 7 1024 1) "one" lines_1 3
unfolding model_on_literals
alone_one = (refl, refl)
