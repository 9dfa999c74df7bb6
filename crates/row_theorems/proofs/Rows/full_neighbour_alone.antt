-- Made by tools/make-row-theorems of the row full_neighbour_alone.
use Rattle.std.proofs.Common.{List, [], ◌∷◌, refl}
use Rattle.etcd_model.specs.Machine.{opening}
use Rattle.etcd_model.specs.Alone.{Turn}
use Rattle.row_theorems.proofs.OnLiterals.{model_on_literals}
use Rattle.row_theorems.proofs.Terms.{◌⇒◌, call, answer, IsAnsweredAlone}

abbrev lines_1 : List Turn
lines_1 =
    call "POST" "/t/two/v3/kv/put" "{\"key\":\"Zm9v\",\"value\":\"YmFy\"}" ⇒ answer 200 "{\"header\":{\"cluster_id\":\"9\",\"member_id\":\"1\",\"raft_term\":\"1\",\"revision\":\"2\"}}"
    ∷ call "POST" "/t/two/v3/kv/put" "{\"key\":\"Zm9v\",\"value\":\"YmFy\"}" ⇒ answer 200 "{\"header\":{\"cluster_id\":\"9\",\"member_id\":\"1\",\"raft_term\":\"1\",\"revision\":\"3\"}}"
    ∷ call "POST" "/t/two/v3/kv/range" "{\"key\":\"Zm9v\"}" ⇒ answer 200 "{\"count\":\"1\",\"header\":{\"cluster_id\":\"9\",\"member_id\":\"1\",\"raft_term\":\"1\",\"revision\":\"3\"},\"kvs\":[{\"create_revision\":\"2\",\"key\":\"Zm9v\",\"mod_revision\":\"3\",\"value\":\"YmFy\",\"version\":\"2\"}]}"
    ∷ call "POST" "/t/two/v3/kv/put" "{\"key\":\"Zm9v\",\"value\":\"YmFy\"}" ⇒ answer 200 "{\"header\":{\"cluster_id\":\"9\",\"member_id\":\"1\",\"raft_term\":\"1\",\"revision\":\"4\"}}"
    ∷ call "POST" "/t/two/v3/maintenance/alarm" "{}" ⇒ answer 200 "{\"header\":{\"cluster_id\":\"9\",\"member_id\":\"1\",\"raft_term\":\"1\",\"revision\":\"4\"}}"
    ∷ []

alone_two : IsAnsweredAlone (opening 9 1024 1) "two" lines_1 5
unfolding model_on_literals
alone_two = (refl, refl)
