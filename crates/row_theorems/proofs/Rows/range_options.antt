-- Made by tools/make-row-theorems of the row range_options.
use Rattle.std.proofs.Common.{List, [], ◌∷◌, refl}
use Rattle.etcd_model.specs.Machine.{opening}
use Rattle.etcd_model.specs.Alone.{Turn}
use Rattle.row_theorems.proofs.OnLiterals.{model_on_literals}
use Rattle.row_theorems.proofs.Terms.{◌⇒◌, call, answer, IsAnsweredAlone}

abbrev lines_1 : List Turn
lines_1 =
    call "POST" "/t/one/v3/kv/put" "{\"key\":\"YQ==\",\"value\":\"MQ==\"}" ⇒ answer 200 "{\"header\":{\"cluster_id\":\"7\",\"member_id\":\"1\",\"raft_term\":\"1\",\"revision\":\"2\"}}"
    ∷ call "POST" "/t/one/v3/kv/put" "{\"key\":\"Yg==\",\"value\":\"Mg==\"}" ⇒ answer 200 "{\"header\":{\"cluster_id\":\"7\",\"member_id\":\"1\",\"raft_term\":\"1\",\"revision\":\"3\"}}"
    ∷ call "POST" "/t/one/v3/kv/put" "{\"key\":\"Yw==\",\"value\":\"Mw==\"}" ⇒ answer 200 "{\"header\":{\"cluster_id\":\"7\",\"member_id\":\"1\",\"raft_term\":\"1\",\"revision\":\"4\"}}"
    ∷ call "POST" "/t/one/v3/kv/range" "{\"key\":\"AA==\",\"range_end\":\"AA==\",\"limit\":\"2\"}" ⇒ answer 200 "{\"count\":\"3\",\"header\":{\"cluster_id\":\"7\",\"member_id\":\"1\",\"raft_term\":\"1\",\"revision\":\"4\"},\"kvs\":[{\"create_revision\":\"2\",\"key\":\"YQ==\",\"mod_revision\":\"2\",\"value\":\"MQ==\",\"version\":\"1\"},{\"create_revision\":\"3\",\"key\":\"Yg==\",\"mod_revision\":\"3\",\"value\":\"Mg==\",\"version\":\"1\"}],\"more\":true}"
    ∷ call "POST" "/t/one/v3/kv/range" "{\"key\":\"AA==\",\"range_end\":\"AA==\",\"sort_target\":\"CREATE\",\"sort_order\":\"DESCEND\",\"keys_only\":true,\"limit\":\"1\"}" ⇒ answer 200 "{\"count\":\"3\",\"header\":{\"cluster_id\":\"7\",\"member_id\":\"1\",\"raft_term\":\"1\",\"revision\":\"4\"},\"kvs\":[{\"create_revision\":\"4\",\"key\":\"Yw==\",\"mod_revision\":\"4\",\"version\":\"1\"}],\"more\":true}"
    ∷ call "POST" "/t/one/v3/kv/range" "{\"key\":\"AA==\",\"range_end\":\"AA==\",\"min_mod_revision\":\"3\"}" ⇒ answer 200 "{\"count\":\"3\",\"header\":{\"cluster_id\":\"7\",\"member_id\":\"1\",\"raft_term\":\"1\",\"revision\":\"4\"},\"kvs\":[{\"create_revision\":\"3\",\"key\":\"Yg==\",\"mod_revision\":\"3\",\"value\":\"Mg==\",\"version\":\"1\"},{\"create_revision\":\"4\",\"key\":\"Yw==\",\"mod_revision\":\"4\",\"value\":\"Mw==\",\"version\":\"1\"}]}"
    ∷ call "POST" "/t/one/v3/kv/range" "{\"key\":\"AA==\",\"range_end\":\"AA==\",\"count_only\":true}" ⇒ answer 200 "{\"count\":\"3\",\"header\":{\"cluster_id\":\"7\",\"member_id\":\"1\",\"raft_term\":\"1\",\"revision\":\"4\"}}"
    ∷ call "POST" "/t/one/v3/kv/range" "{\"key\":\"AA==\",\"range_end\":\"AA==\",\"sort_target\":\"VERSION\",\"sort_order\":\"DESCEND\"}" ⇒ answer 200 "{\"count\":\"3\",\"header\":{\"cluster_id\":\"7\",\"member_id\":\"1\",\"raft_term\":\"1\",\"revision\":\"4\"},\"kvs\":[{\"create_revision\":\"2\",\"key\":\"YQ==\",\"mod_revision\":\"2\",\"value\":\"MQ==\",\"version\":\"1\"},{\"create_revision\":\"3\",\"key\":\"Yg==\",\"mod_revision\":\"3\",\"value\":\"Mg==\",\"version\":\"1\"},{\"create_revision\":\"4\",\"key\":\"Yw==\",\"mod_revision\":\"4\",\"value\":\"Mw==\",\"version\":\"1\"}]}"
    ∷ []

alone_one : IsAnsweredAlone (opening 7 1024 1) "one" lines_1 8
unfolding model_on_literals
alone_one = (refl, refl)
