-- Made by tools/make-row-theorems of the row txn_of_ranges.
use Rattle.std.proofs.Common.{List, [], ◌∷◌, refl}
use Rattle.etcd_model.specs.Machine.{opening}
use Rattle.etcd_model.specs.Alone.{Turn}
use Rattle.row_theorems.proofs.OnLiterals.{model_on_literals}
use Rattle.row_theorems.proofs.Terms.{◌⇒◌, call, answer, IsAnsweredAlone}

abbrev lines_1 : List Turn
lines_1 =
    call "POST" "/t/one/v3/kv/put" "{\"key\":\"YQ==\",\"value\":\"MQ==\"}" ⇒ answer 200 "{\"header\":{\"cluster_id\":\"7\",\"member_id\":\"1\",\"raft_term\":\"1\",\"revision\":\"2\"}}"
    ∷ call "POST" "/t/one/v3/kv/put" "{\"key\":\"Yg==\",\"value\":\"MjI=\"}" ⇒ answer 200 "{\"header\":{\"cluster_id\":\"7\",\"member_id\":\"1\",\"raft_term\":\"1\",\"revision\":\"3\"}}"
    ∷ call "POST" "/t/one/v3/kv/put" "{\"key\":\"Yw==\",\"value\":\"MzMz\"}" ⇒ answer 200 "{\"header\":{\"cluster_id\":\"7\",\"member_id\":\"1\",\"raft_term\":\"1\",\"revision\":\"4\"}}"
    ∷ call "POST" "/t/one/v3/kv/txn" "{\"compare\":[{\"key\":\"YQ==\",\"target\":\"VERSION\",\"version\":\"1\"}],\"success\":[{\"request_range\":{\"key\":\"YQ==\",\"range_end\":\"ZA==\",\"limit\":\"2\"}},{\"request_range\":{\"key\":\"Yg==\",\"keys_only\":true}},{\"request_range\":{\"key\":\"eg==\"}},{\"request_range\":{\"key\":\"YQ==\",\"range_end\":\"AA==\",\"revision\":\"3\"}}],\"failure\":[{\"request_put\":{\"key\":\"eA==\"}}]}" ⇒ answer 200 "{\"header\":{\"cluster_id\":\"7\",\"member_id\":\"1\",\"raft_term\":\"1\",\"revision\":\"4\"},\"responses\":[{\"response_range\":{\"count\":\"3\",\"header\":{\"revision\":\"4\"},\"kvs\":[{\"create_revision\":\"2\",\"key\":\"YQ==\",\"mod_revision\":\"2\",\"value\":\"MQ==\",\"version\":\"1\"},{\"create_revision\":\"3\",\"key\":\"Yg==\",\"mod_revision\":\"3\",\"value\":\"MjI=\",\"version\":\"1\"}],\"more\":true}},{\"response_range\":{\"count\":\"1\",\"header\":{\"revision\":\"4\"},\"kvs\":[{\"create_revision\":\"3\",\"key\":\"Yg==\",\"mod_revision\":\"3\",\"version\":\"1\"}]}},{\"response_range\":{\"header\":{\"revision\":\"4\"}}},{\"response_range\":{\"count\":\"2\",\"header\":{\"revision\":\"4\"},\"kvs\":[{\"create_revision\":\"2\",\"key\":\"YQ==\",\"mod_revision\":\"2\",\"value\":\"MQ==\",\"version\":\"1\"},{\"create_revision\":\"3\",\"key\":\"Yg==\",\"mod_revision\":\"3\",\"value\":\"MjI=\",\"version\":\"1\"}]}}],\"succeeded\":true}"
    ∷ call "POST" "/t/one/v3/kv/txn" "{\"compare\":[{\"key\":\"YQ==\",\"target\":\"VERSION\",\"version\":\"2\"}],\"success\":[{\"request_put\":{\"key\":\"eA==\"}}],\"failure\":[{\"request_range\":{\"key\":\"AA==\",\"range_end\":\"AA==\"}}]}" ⇒ answer 200 "{\"header\":{\"cluster_id\":\"7\",\"member_id\":\"1\",\"raft_term\":\"1\",\"revision\":\"4\"},\"responses\":[{\"response_range\":{\"count\":\"3\",\"header\":{\"revision\":\"4\"},\"kvs\":[{\"create_revision\":\"2\",\"key\":\"YQ==\",\"mod_revision\":\"2\",\"value\":\"MQ==\",\"version\":\"1\"},{\"create_revision\":\"3\",\"key\":\"Yg==\",\"mod_revision\":\"3\",\"value\":\"MjI=\",\"version\":\"1\"},{\"create_revision\":\"4\",\"key\":\"Yw==\",\"mod_revision\":\"4\",\"value\":\"MzMz\",\"version\":\"1\"}]}}]}"
    ∷ call "POST" "/t/one/v3/kv/txn" "{\"success\":[{\"request_range\":{\"key\":\"YQ==\",\"range_end\":\"ZA==\",\"count_only\":true}},{\"request_range\":{\"key\":\"YQ==\",\"range_end\":\"ZA==\",\"sort_order\":\"DESCEND\"}}]}" ⇒ answer 200 "{\"header\":{\"cluster_id\":\"7\",\"member_id\":\"1\",\"raft_term\":\"1\",\"revision\":\"4\"},\"responses\":[{\"response_range\":{\"count\":\"3\",\"header\":{\"revision\":\"4\"}}},{\"response_range\":{\"count\":\"3\",\"header\":{\"revision\":\"4\"},\"kvs\":[{\"create_revision\":\"4\",\"key\":\"Yw==\",\"mod_revision\":\"4\",\"value\":\"MzMz\",\"version\":\"1\"},{\"create_revision\":\"3\",\"key\":\"Yg==\",\"mod_revision\":\"3\",\"value\":\"MjI=\",\"version\":\"1\"},{\"create_revision\":\"2\",\"key\":\"YQ==\",\"mod_revision\":\"2\",\"value\":\"MQ==\",\"version\":\"1\"}]}}],\"succeeded\":true}"
    ∷ call "POST" "/t/one/v3/kv/txn" "{\"success\":[{\"request_range\":{\"key\":\"YQ==\"}},{\"request_range\":{\"key\":\"YQ==\",\"revision\":\"5\"}}]}" ⇒ answer 400 "{\"code\":11,\"error\":\"etcdserver: mvcc: required revision is a future revision\",\"message\":\"etcdserver: mvcc: required revision is a future revision\"}"
    ∷ call "POST" "/t/one/v3/kv/txn" "{\"success\":[{\"request_range\":{\"key\":\"YQ==\"}},{\"request_range\":{}}]}" ⇒ answer 400 "{\"code\":3,\"error\":\"etcdserver: key is not provided\",\"message\":\"etcdserver: key is not provided\"}"
    ∷ call "POST" "/t/one/v3/kv/txn" "{\"success\":[{\"request_range\":{\"key\":\"eA==\"}},{\"request_put\":{\"key\":\"eA==\",\"value\":\"MQ==\"}}]}" ⇒ answer 200 "{\"header\":{\"cluster_id\":\"7\",\"member_id\":\"1\",\"raft_term\":\"1\",\"revision\":\"5\"},\"responses\":[{\"response_range\":{\"header\":{\"revision\":\"4\"}}},{\"response_put\":{\"header\":{\"revision\":\"5\"}}}],\"succeeded\":true}"
    ∷ call "POST" "/t/one/v3/kv/txn" "{\"success\":[{\"request_range\":{\"key\":\"eA==\"}}]}" ⇒ answer 200 "{\"header\":{\"cluster_id\":\"7\",\"member_id\":\"1\",\"raft_term\":\"1\",\"revision\":\"5\"},\"responses\":[{\"response_range\":{\"count\":\"1\",\"header\":{\"revision\":\"5\"},\"kvs\":[{\"create_revision\":\"5\",\"key\":\"eA==\",\"mod_revision\":\"5\",\"value\":\"MQ==\",\"version\":\"1\"}]}}],\"succeeded\":true}"
    ∷ []

alone_one : IsAnsweredAlone (opening 7 1024 1) "one" lines_1 10
unfolding model_on_literals
alone_one = (refl, refl)
