-- Made by tools/make-row-theorems of the row neighbours_alone.
use Rattle.std.proofs.Common.{List, [], ◌∷◌, refl}
use Rattle.etcd_model.specs.Machine.{opening}
use Rattle.etcd_model.specs.Alone.{Turn}
use Rattle.row_theorems.proofs.OnLiterals.{model_on_literals}
use Rattle.row_theorems.proofs.Terms.{◌⇒◌, call, take, answer, IsAnsweredAlone}

abbrev lines_1 : List Turn
lines_1 =
    call "POST" "/t/two/v3/kv/put" "{\"key\":\"Zm9v\",\"value\":\"YmFy\"}" ⇒ answer 200 "{\"header\":{\"cluster_id\":\"9\",\"member_id\":\"1\",\"raft_term\":\"1\",\"revision\":\"2\"}}"
    ∷ call "POST" "/t/two/v3/lease/grant" "{\"TTL\":\"10\"}" ⇒ answer 200 "{\"ID\":\"1\",\"TTL\":\"10\",\"header\":{\"cluster_id\":\"9\",\"member_id\":\"1\",\"raft_term\":\"1\",\"revision\":\"2\"}}"
    ∷ call "POST" "/t/two/v3/kv/put" "{\"key\":\"Yg==\",\"lease\":\"1\"}" ⇒ answer 200 "{\"header\":{\"cluster_id\":\"9\",\"member_id\":\"1\",\"raft_term\":\"1\",\"revision\":\"3\"}}"
    ∷ call "POST" "/t/two/v3/watch" "{\"create_request\":{\"key\":\"Zm9v\",\"start_revision\":\"2\"}}" ⇒ answer 200 "{\"result\":{\"created\":true,\"header\":{\"cluster_id\":\"9\",\"member_id\":\"1\",\"raft_term\":\"1\",\"revision\":\"3\"}}}\n"
    ∷ take "two" 0 ⇒ answer 200 "{\"result\":{\"events\":[{\"kv\":{\"create_revision\":\"2\",\"key\":\"Zm9v\",\"mod_revision\":\"2\",\"value\":\"YmFy\",\"version\":\"1\"}}],\"header\":{\"cluster_id\":\"9\",\"member_id\":\"1\",\"raft_term\":\"1\",\"revision\":\"3\"}}}\n"
    ∷ []

alone_two : IsAnsweredAlone (opening 9 1024 1) "two" lines_1 5
unfolding model_on_literals
alone_two = (refl, refl)
