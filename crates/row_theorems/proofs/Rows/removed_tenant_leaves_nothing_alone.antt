-- Made by tools/make-row-theorems of the row removed_tenant_leaves_nothing_alone.
use Rattle.std.proofs.Common.{List, [], ◌∷◌, refl}
use Rattle.etcd_model.specs.Machine.{opening}
use Rattle.etcd_model.specs.Alone.{Turn}
use Rattle.row_theorems.proofs.OnLiterals.{model_on_literals}
use Rattle.row_theorems.proofs.Terms.{◌⇒◌, call, answer, IsAnsweredAlone}

abbrev lines_1 : List Turn
lines_1 =
    call "POST" "/t/three/v3/maintenance/status" "{}" ⇒ answer 200 "{\"dbSize\":\"3072\",\"header\":{\"cluster_id\":\"9\",\"member_id\":\"1\",\"raft_term\":\"1\",\"revision\":\"1\"}}"
    ∷ call "POST" "/t/three/v3/kv/range" "{\"key\":\"AA==\",\"range_end\":\"AA==\"}" ⇒ answer 200 "{\"header\":{\"cluster_id\":\"9\",\"member_id\":\"1\",\"raft_term\":\"1\",\"revision\":\"1\"}}"
    ∷ call "POST" "/t/three/v3/maintenance/alarm" "{}" ⇒ answer 200 "{\"header\":{\"cluster_id\":\"9\",\"member_id\":\"1\",\"raft_term\":\"1\",\"revision\":\"1\"}}"
    ∷ call "POST" "/t/three/v3/lease/leases" "{}" ⇒ answer 200 "{\"header\":{\"cluster_id\":\"9\",\"member_id\":\"1\",\"raft_term\":\"1\",\"revision\":\"1\"}}"
    ∷ call "POST" "/t/three/v3/kv/put" "{\"key\":\"YQ==\",\"value\":\"MQ==\"}" ⇒ answer 200 "{\"header\":{\"cluster_id\":\"9\",\"member_id\":\"1\",\"raft_term\":\"1\",\"revision\":\"2\"}}"
    ∷ call "POST" "/t/three/v3/lease/grant" "{\"TTL\":\"10\"}" ⇒ answer 200 "{\"ID\":\"1\",\"TTL\":\"10\",\"header\":{\"cluster_id\":\"9\",\"member_id\":\"1\",\"raft_term\":\"1\",\"revision\":\"2\"}}"
    ∷ call "POST" "/t/three/v3/kv/range" "{\"key\":\"AA==\",\"range_end\":\"AA==\"}" ⇒ answer 200 "{\"count\":\"1\",\"header\":{\"cluster_id\":\"9\",\"member_id\":\"1\",\"raft_term\":\"1\",\"revision\":\"2\"},\"kvs\":[{\"create_revision\":\"2\",\"key\":\"YQ==\",\"mod_revision\":\"2\",\"value\":\"MQ==\",\"version\":\"1\"}]}"
    ∷ call "POST" "/t/three/v3/maintenance/status" "{}" ⇒ answer 200 "{\"dbSize\":\"3072\",\"dbSizeInUse\":\"240\",\"header\":{\"cluster_id\":\"9\",\"member_id\":\"1\",\"raft_term\":\"1\",\"revision\":\"2\"}}"
    ∷ []

alone_three : IsAnsweredAlone (opening 9 64 1) "three" lines_1 8
unfolding model_on_literals
alone_three = (refl, refl)
