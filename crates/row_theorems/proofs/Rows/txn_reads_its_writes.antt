-- Made by tools/make-row-theorems of the row txn_reads_its_writes.
use Rattle.std.proofs.Common.{List, [], ◌∷◌, refl}
use Rattle.etcd_model.specs.Machine.{opening}
use Rattle.etcd_model.specs.Alone.{Turn}
use Rattle.row_theorems.proofs.OnLiterals.{model_on_literals}
use Rattle.row_theorems.proofs.Terms.{◌⇒◌, call, answer, IsAnsweredAlone}

abbrev lines_1 : List Turn
lines_1 =
    call "POST" "/t/one/v3/kv/txn" "{\"success\":[{\"request_put\":{\"key\":\"YQ==\",\"value\":\"MQ==\"}},{\"request_range\":{\"key\":\"YQ==\"}},{\"request_delete_range\":{\"key\":\"Yg==\"}}]}" ⇒ answer 200 "{\"header\":{\"cluster_id\":\"7\",\"member_id\":\"1\",\"raft_term\":\"1\",\"revision\":\"2\"},\"responses\":[{\"response_put\":{\"header\":{\"revision\":\"2\"}}},{\"response_range\":{\"count\":\"1\",\"header\":{\"revision\":\"2\"},\"kvs\":[{\"create_revision\":\"2\",\"key\":\"YQ==\",\"mod_revision\":\"2\",\"value\":\"MQ==\",\"version\":\"1\"}]}},{\"response_delete_range\":{\"header\":{\"revision\":\"2\"}}}],\"succeeded\":true}"
    ∷ call "POST" "/t/one/v3/kv/txn" "{\"success\":[{\"request_put\":{\"key\":\"YQ==\"}},{\"request_delete_range\":{\"key\":\"YQ==\",\"range_end\":\"Yg==\"}}]}" ⇒ answer 400 "{\"code\":3,\"error\":\"etcdserver: duplicate key given in txn request\",\"message\":\"etcdserver: duplicate key given in txn request\"}"
    ∷ []

alone_one : IsAnsweredAlone (opening 7 1024 1) "one" lines_1 2
unfolding model_on_literals
alone_one = (refl, refl)
