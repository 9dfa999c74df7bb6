-- Made by tools/make-row-theorems of the row watch_of_40_changes.
use Rattle.std.proofs.Common.{List, [], ◌∷◌, refl}
use Rattle.etcd_model.specs.Machine.{opening}
use Rattle.etcd_model.specs.Alone.{Turn}
use Rattle.row_theorems.proofs.OnLiterals.{model_on_literals}
use Rattle.row_theorems.proofs.Terms.{◌⇒◌, call, take, answer, IsAnsweredAlone}

abbrev lines_1 : List Turn
lines_1 =
    call "POST" "/t/one/v3/watch" "{\"create_request\":{\"key\":\"aw==\",\"range_end\":\"bA==\"}}" ⇒ answer 200 "{\"result\":{\"created\":true,\"header\":{\"cluster_id\":\"7\",\"member_id\":\"1\",\"raft_term\":\"1\",\"revision\":\"1\"}}}\n"
    ∷ call "POST" "/t/one/v3/kv/txn" "{\"success\":[{\"request_put\":{\"key\":\"azAw\",\"value\":\"MDA=\"}},{\"request_put\":{\"key\":\"azAx\",\"value\":\"MDE=\"}},{\"request_put\":{\"key\":\"azAy\",\"value\":\"MDI=\"}},{\"request_put\":{\"key\":\"azAz\",\"value\":\"MDM=\"}},{\"request_put\":{\"key\":\"azA0\",\"value\":\"MDQ=\"}},{\"request_put\":{\"key\":\"azA1\",\"value\":\"MDU=\"}},{\"request_put\":{\"key\":\"azA2\",\"value\":\"MDY=\"}},{\"request_put\":{\"key\":\"azA3\",\"value\":\"MDc=\"}},{\"request_put\":{\"key\":\"azA4\",\"value\":\"MDg=\"}},{\"request_put\":{\"key\":\"azA5\",\"value\":\"MDk=\"}},{\"request_put\":{\"key\":\"azEw\",\"value\":\"MTA=\"}},{\"request_put\":{\"key\":\"azEx\",\"value\":\"MTE=\"}},{\"request_put\":{\"key\":\"azEy\",\"value\":\"MTI=\"}},{\"request_put\":{\"key\":\"azEz\",\"value\":\"MTM=\"}},{\"request_put\":{\"key\":\"azE0\",\"value\":\"MTQ=\"}},{\"request_put\":{\"key\":\"azE1\",\"value\":\"MTU=\"}},{\"request_put\":{\"key\":\"azE2\",\"value\":\"MTY=\"}},{\"request_put\":{\"key\":\"azE3\",\"value\":\"MTc=\"}},{\"request_put\":{\"key\":\"azE4\",\"value\":\"MTg=\"}},{\"request_put\":{\"key\":\"azE5\",\"value\":\"MTk=\"}},{\"request_put\":{\"key\":\"azIw\",\"value\":\"MjA=\"}},{\"request_put\":{\"key\":\"azIx\",\"value\":\"MjE=\"}},{\"request_put\":{\"key\":\"azIy\",\"value\":\"MjI=\"}},{\"request_put\":{\"key\":\"azIz\",\"value\":\"MjM=\"}},{\"request_put\":{\"key\":\"azI0\",\"value\":\"MjQ=\"}},{\"request_put\":{\"key\":\"azI1\",\"value\":\"MjU=\"}},{\"request_put\":{\"key\":\"azI2\",\"value\":\"MjY=\"}},{\"request_put\":{\"key\":\"azI3\",\"value\":\"Mjc=\"}},{\"request_put\":{\"key\":\"azI4\",\"value\":\"Mjg=\"}},{\"request_put\":{\"key\":\"azI5\",\"value\":\"Mjk=\"}},{\"request_put\":{\"key\":\"azMw\",\"value\":\"MzA=\"}},{\"request_put\":{\"key\":\"azMx\",\"value\":\"MzE=\"}},{\"request_put\":{\"key\":\"azMy\",\"value\":\"MzI=\"}},{\"request_put\":{\"key\":\"azMz\",\"value\":\"MzM=\"}},{\"request_put\":{\"key\":\"azM0\",\"value\":\"MzQ=\"}},{\"request_put\":{\"key\":\"azM1\",\"value\":\"MzU=\"}},{\"request_put\":{\"key\":\"azM2\",\"value\":\"MzY=\"}},{\"request_put\":{\"key\":\"azM3\",\"value\":\"Mzc=\"}},{\"request_put\":{\"key\":\"azM4\",\"value\":\"Mzg=\"}},{\"request_put\":{\"key\":\"azM5\",\"value\":\"Mzk=\"}}]}" ⇒ answer 200 "{\"header\":{\"cluster_id\":\"7\",\"member_id\":\"1\",\"raft_term\":\"1\",\"revision\":\"2\"},\"responses\":[{\"response_put\":{\"header\":{\"revision\":\"2\"}}},{\"response_put\":{\"header\":{\"revision\":\"2\"}}},{\"response_put\":{\"header\":{\"revision\":\"2\"}}},{\"response_put\":{\"header\":{\"revision\":\"2\"}}},{\"response_put\":{\"header\":{\"revision\":\"2\"}}},{\"response_put\":{\"header\":{\"revision\":\"2\"}}},{\"response_put\":{\"header\":{\"revision\":\"2\"}}},{\"response_put\":{\"header\":{\"revision\":\"2\"}}},{\"response_put\":{\"header\":{\"revision\":\"2\"}}},{\"response_put\":{\"header\":{\"revision\":\"2\"}}},{\"response_put\":{\"header\":{\"revision\":\"2\"}}},{\"response_put\":{\"header\":{\"revision\":\"2\"}}},{\"response_put\":{\"header\":{\"revision\":\"2\"}}},{\"response_put\":{\"header\":{\"revision\":\"2\"}}},{\"response_put\":{\"header\":{\"revision\":\"2\"}}},{\"response_put\":{\"header\":{\"revision\":\"2\"}}},{\"response_put\":{\"header\":{\"revision\":\"2\"}}},{\"response_put\":{\"header\":{\"revision\":\"2\"}}},{\"response_put\":{\"header\":{\"revision\":\"2\"}}},{\"response_put\":{\"header\":{\"revision\":\"2\"}}},{\"response_put\":{\"header\":{\"revision\":\"2\"}}},{\"response_put\":{\"header\":{\"revision\":\"2\"}}},{\"response_put\":{\"header\":{\"revision\":\"2\"}}},{\"response_put\":{\"header\":{\"revision\":\"2\"}}},{\"response_put\":{\"header\":{\"revision\":\"2\"}}},{\"response_put\":{\"header\":{\"revision\":\"2\"}}},{\"response_put\":{\"header\":{\"revision\":\"2\"}}},{\"response_put\":{\"header\":{\"revision\":\"2\"}}},{\"response_put\":{\"header\":{\"revision\":\"2\"}}},{\"response_put\":{\"header\":{\"revision\":\"2\"}}},{\"response_put\":{\"header\":{\"revision\":\"2\"}}},{\"response_put\":{\"header\":{\"revision\":\"2\"}}},{\"response_put\":{\"header\":{\"revision\":\"2\"}}},{\"response_put\":{\"header\":{\"revision\":\"2\"}}},{\"response_put\":{\"header\":{\"revision\":\"2\"}}},{\"response_put\":{\"header\":{\"revision\":\"2\"}}},{\"response_put\":{\"header\":{\"revision\":\"2\"}}},{\"response_put\":{\"header\":{\"revision\":\"2\"}}},{\"response_put\":{\"header\":{\"revision\":\"2\"}}},{\"response_put\":{\"header\":{\"revision\":\"2\"}}}],\"succeeded\":true}"
    ∷ call "POST" "/t/one/v3/watch" "{\"create_request\":{\"key\":\"aw==\",\"range_end\":\"bA==\",\"start_revision\":\"2\",\"prev_kv\":true,\"watch_id\":\"1\"}}" ⇒ answer 200 "{\"result\":{\"created\":true,\"header\":{\"cluster_id\":\"7\",\"member_id\":\"1\",\"raft_term\":\"1\",\"revision\":\"2\"},\"watch_id\":\"1\"}}\n"
    ∷ take "one" 0 ⇒ answer 200 "{\"result\":{\"events\":[{\"kv\":{\"create_revision\":\"2\",\"key\":\"azAw\",\"mod_revision\":\"2\",\"value\":\"MDA=\",\"version\":\"1\"}},{\"kv\":{\"create_revision\":\"2\",\"key\":\"azAx\",\"mod_revision\":\"2\",\"value\":\"MDE=\",\"version\":\"1\"}},{\"kv\":{\"create_revision\":\"2\",\"key\":\"azAy\",\"mod_revision\":\"2\",\"value\":\"MDI=\",\"version\":\"1\"}},{\"kv\":{\"create_revision\":\"2\",\"key\":\"azAz\",\"mod_revision\":\"2\",\"value\":\"MDM=\",\"version\":\"1\"}},{\"kv\":{\"create_revision\":\"2\",\"key\":\"azA0\",\"mod_revision\":\"2\",\"value\":\"MDQ=\",\"version\":\"1\"}},{\"kv\":{\"create_revision\":\"2\",\"key\":\"azA1\",\"mod_revision\":\"2\",\"value\":\"MDU=\",\"version\":\"1\"}},{\"kv\":{\"create_revision\":\"2\",\"key\":\"azA2\",\"mod_revision\":\"2\",\"value\":\"MDY=\",\"version\":\"1\"}},{\"kv\":{\"create_revision\":\"2\",\"key\":\"azA3\",\"mod_revision\":\"2\",\"value\":\"MDc=\",\"version\":\"1\"}},{\"kv\":{\"create_revision\":\"2\",\"key\":\"azA4\",\"mod_revision\":\"2\",\"value\":\"MDg=\",\"version\":\"1\"}},{\"kv\":{\"create_revision\":\"2\",\"key\":\"azA5\",\"mod_revision\":\"2\",\"value\":\"MDk=\",\"version\":\"1\"}},{\"kv\":{\"create_revision\":\"2\",\"key\":\"azEw\",\"mod_revision\":\"2\",\"value\":\"MTA=\",\"version\":\"1\"}},{\"kv\":{\"create_revision\":\"2\",\"key\":\"azEx\",\"mod_revision\":\"2\",\"value\":\"MTE=\",\"version\":\"1\"}},{\"kv\":{\"create_revision\":\"2\",\"key\":\"azEy\",\"mod_revision\":\"2\",\"value\":\"MTI=\",\"version\":\"1\"}},{\"kv\":{\"create_revision\":\"2\",\"key\":\"azEz\",\"mod_revision\":\"2\",\"value\":\"MTM=\",\"version\":\"1\"}},{\"kv\":{\"create_revision\":\"2\",\"key\":\"azE0\",\"mod_revision\":\"2\",\"value\":\"MTQ=\",\"version\":\"1\"}},{\"kv\":{\"create_revision\":\"2\",\"key\":\"azE1\",\"mod_revision\":\"2\",\"value\":\"MTU=\",\"version\":\"1\"}},{\"kv\":{\"create_revision\":\"2\",\"key\":\"azE2\",\"mod_revision\":\"2\",\"value\":\"MTY=\",\"version\":\"1\"}},{\"kv\":{\"create_revision\":\"2\",\"key\":\"azE3\",\"mod_revision\":\"2\",\"value\":\"MTc=\",\"version\":\"1\"}},{\"kv\":{\"create_revision\":\"2\",\"key\":\"azE4\",\"mod_revision\":\"2\",\"value\":\"MTg=\",\"version\":\"1\"}},{\"kv\":{\"create_revision\":\"2\",\"key\":\"azE5\",\"mod_revision\":\"2\",\"value\":\"MTk=\",\"version\":\"1\"}},{\"kv\":{\"create_revision\":\"2\",\"key\":\"azIw\",\"mod_revision\":\"2\",\"value\":\"MjA=\",\"version\":\"1\"}},{\"kv\":{\"create_revision\":\"2\",\"key\":\"azIx\",\"mod_revision\":\"2\",\"value\":\"MjE=\",\"version\":\"1\"}},{\"kv\":{\"create_revision\":\"2\",\"key\":\"azIy\",\"mod_revision\":\"2\",\"value\":\"MjI=\",\"version\":\"1\"}},{\"kv\":{\"create_revision\":\"2\",\"key\":\"azIz\",\"mod_revision\":\"2\",\"value\":\"MjM=\",\"version\":\"1\"}},{\"kv\":{\"create_revision\":\"2\",\"key\":\"azI0\",\"mod_revision\":\"2\",\"value\":\"MjQ=\",\"version\":\"1\"}},{\"kv\":{\"create_revision\":\"2\",\"key\":\"azI1\",\"mod_revision\":\"2\",\"value\":\"MjU=\",\"version\":\"1\"}},{\"kv\":{\"create_revision\":\"2\",\"key\":\"azI2\",\"mod_revision\":\"2\",\"value\":\"MjY=\",\"version\":\"1\"}},{\"kv\":{\"create_revision\":\"2\",\"key\":\"azI3\",\"mod_revision\":\"2\",\"value\":\"Mjc=\",\"version\":\"1\"}},{\"kv\":{\"create_revision\":\"2\",\"key\":\"azI4\",\"mod_revision\":\"2\",\"value\":\"Mjg=\",\"version\":\"1\"}},{\"kv\":{\"create_revision\":\"2\",\"key\":\"azI5\",\"mod_revision\":\"2\",\"value\":\"Mjk=\",\"version\":\"1\"}},{\"kv\":{\"create_revision\":\"2\",\"key\":\"azMw\",\"mod_revision\":\"2\",\"value\":\"MzA=\",\"version\":\"1\"}},{\"kv\":{\"create_revision\":\"2\",\"key\":\"azMx\",\"mod_revision\":\"2\",\"value\":\"MzE=\",\"version\":\"1\"}},{\"kv\":{\"create_revision\":\"2\",\"key\":\"azMy\",\"mod_revision\":\"2\",\"value\":\"MzI=\",\"version\":\"1\"}},{\"kv\":{\"create_revision\":\"2\",\"key\":\"azMz\",\"mod_revision\":\"2\",\"value\":\"MzM=\",\"version\":\"1\"}},{\"kv\":{\"create_revision\":\"2\",\"key\":\"azM0\",\"mod_revision\":\"2\",\"value\":\"MzQ=\",\"version\":\"1\"}},{\"kv\":{\"create_revision\":\"2\",\"key\":\"azM1\",\"mod_revision\":\"2\",\"value\":\"MzU=\",\"version\":\"1\"}},{\"kv\":{\"create_revision\":\"2\",\"key\":\"azM2\",\"mod_revision\":\"2\",\"value\":\"MzY=\",\"version\":\"1\"}},{\"kv\":{\"create_revision\":\"2\",\"key\":\"azM3\",\"mod_revision\":\"2\",\"value\":\"Mzc=\",\"version\":\"1\"}},{\"kv\":{\"create_revision\":\"2\",\"key\":\"azM4\",\"mod_revision\":\"2\",\"value\":\"Mzg=\",\"version\":\"1\"}},{\"kv\":{\"create_revision\":\"2\",\"key\":\"azM5\",\"mod_revision\":\"2\",\"value\":\"Mzk=\",\"version\":\"1\"}}],\"header\":{\"cluster_id\":\"7\",\"member_id\":\"1\",\"raft_term\":\"1\",\"revision\":\"2\"}}}\n"
    ∷ call "POST" "/t/one/v3/kv/deleterange" "{\"key\":\"aw==\",\"range_end\":\"bA==\"}" ⇒ answer 200 "{\"deleted\":\"40\",\"header\":{\"cluster_id\":\"7\",\"member_id\":\"1\",\"raft_term\":\"1\",\"revision\":\"3\"}}"
    ∷ take "one" 0 ⇒ answer 200 "{\"result\":{\"events\":[{\"kv\":{\"key\":\"azAw\",\"mod_revision\":\"3\"},\"type\":\"DELETE\"},{\"kv\":{\"key\":\"azAx\",\"mod_revision\":\"3\"},\"type\":\"DELETE\"},{\"kv\":{\"key\":\"azAy\",\"mod_revision\":\"3\"},\"type\":\"DELETE\"},{\"kv\":{\"key\":\"azAz\",\"mod_revision\":\"3\"},\"type\":\"DELETE\"},{\"kv\":{\"key\":\"azA0\",\"mod_revision\":\"3\"},\"type\":\"DELETE\"},{\"kv\":{\"key\":\"azA1\",\"mod_revision\":\"3\"},\"type\":\"DELETE\"},{\"kv\":{\"key\":\"azA2\",\"mod_revision\":\"3\"},\"type\":\"DELETE\"},{\"kv\":{\"key\":\"azA3\",\"mod_revision\":\"3\"},\"type\":\"DELETE\"},{\"kv\":{\"key\":\"azA4\",\"mod_revision\":\"3\"},\"type\":\"DELETE\"},{\"kv\":{\"key\":\"azA5\",\"mod_revision\":\"3\"},\"type\":\"DELETE\"},{\"kv\":{\"key\":\"azEw\",\"mod_revision\":\"3\"},\"type\":\"DELETE\"},{\"kv\":{\"key\":\"azEx\",\"mod_revision\":\"3\"},\"type\":\"DELETE\"},{\"kv\":{\"key\":\"azEy\",\"mod_revision\":\"3\"},\"type\":\"DELETE\"},{\"kv\":{\"key\":\"azEz\",\"mod_revision\":\"3\"},\"type\":\"DELETE\"},{\"kv\":{\"key\":\"azE0\",\"mod_revision\":\"3\"},\"type\":\"DELETE\"},{\"kv\":{\"key\":\"azE1\",\"mod_revision\":\"3\"},\"type\":\"DELETE\"},{\"kv\":{\"key\":\"azE2\",\"mod_revision\":\"3\"},\"type\":\"DELETE\"},{\"kv\":{\"key\":\"azE3\",\"mod_revision\":\"3\"},\"type\":\"DELETE\"},{\"kv\":{\"key\":\"azE4\",\"mod_revision\":\"3\"},\"type\":\"DELETE\"},{\"kv\":{\"key\":\"azE5\",\"mod_revision\":\"3\"},\"type\":\"DELETE\"},{\"kv\":{\"key\":\"azIw\",\"mod_revision\":\"3\"},\"type\":\"DELETE\"},{\"kv\":{\"key\":\"azIx\",\"mod_revision\":\"3\"},\"type\":\"DELETE\"},{\"kv\":{\"key\":\"azIy\",\"mod_revision\":\"3\"},\"type\":\"DELETE\"},{\"kv\":{\"key\":\"azIz\",\"mod_revision\":\"3\"},\"type\":\"DELETE\"},{\"kv\":{\"key\":\"azI0\",\"mod_revision\":\"3\"},\"type\":\"DELETE\"},{\"kv\":{\"key\":\"azI1\",\"mod_revision\":\"3\"},\"type\":\"DELETE\"},{\"kv\":{\"key\":\"azI2\",\"mod_revision\":\"3\"},\"type\":\"DELETE\"},{\"kv\":{\"key\":\"azI3\",\"mod_revision\":\"3\"},\"type\":\"DELETE\"},{\"kv\":{\"key\":\"azI4\",\"mod_revision\":\"3\"},\"type\":\"DELETE\"},{\"kv\":{\"key\":\"azI5\",\"mod_revision\":\"3\"},\"type\":\"DELETE\"},{\"kv\":{\"key\":\"azMw\",\"mod_revision\":\"3\"},\"type\":\"DELETE\"},{\"kv\":{\"key\":\"azMx\",\"mod_revision\":\"3\"},\"type\":\"DELETE\"},{\"kv\":{\"key\":\"azMy\",\"mod_revision\":\"3\"},\"type\":\"DELETE\"},{\"kv\":{\"key\":\"azMz\",\"mod_revision\":\"3\"},\"type\":\"DELETE\"},{\"kv\":{\"key\":\"azM0\",\"mod_revision\":\"3\"},\"type\":\"DELETE\"},{\"kv\":{\"key\":\"azM1\",\"mod_revision\":\"3\"},\"type\":\"DELETE\"},{\"kv\":{\"key\":\"azM2\",\"mod_revision\":\"3\"},\"type\":\"DELETE\"},{\"kv\":{\"key\":\"azM3\",\"mod_revision\":\"3\"},\"type\":\"DELETE\"},{\"kv\":{\"key\":\"azM4\",\"mod_revision\":\"3\"},\"type\":\"DELETE\"},{\"kv\":{\"key\":\"azM5\",\"mod_revision\":\"3\"},\"type\":\"DELETE\"}],\"header\":{\"cluster_id\":\"7\",\"member_id\":\"1\",\"raft_term\":\"1\",\"revision\":\"3\"}}}\n"
    ∷ take "one" 1 ⇒ answer 200 "{\"result\":{\"events\":[{\"kv\":{\"create_revision\":\"2\",\"key\":\"azAw\",\"mod_revision\":\"2\",\"value\":\"MDA=\",\"version\":\"1\"}},{\"kv\":{\"create_revision\":\"2\",\"key\":\"azAx\",\"mod_revision\":\"2\",\"value\":\"MDE=\",\"version\":\"1\"}},{\"kv\":{\"create_revision\":\"2\",\"key\":\"azAy\",\"mod_revision\":\"2\",\"value\":\"MDI=\",\"version\":\"1\"}},{\"kv\":{\"create_revision\":\"2\",\"key\":\"azAz\",\"mod_revision\":\"2\",\"value\":\"MDM=\",\"version\":\"1\"}},{\"kv\":{\"create_revision\":\"2\",\"key\":\"azA0\",\"mod_revision\":\"2\",\"value\":\"MDQ=\",\"version\":\"1\"}},{\"kv\":{\"create_revision\":\"2\",\"key\":\"azA1\",\"mod_revision\":\"2\",\"value\":\"MDU=\",\"version\":\"1\"}},{\"kv\":{\"create_revision\":\"2\",\"key\":\"azA2\",\"mod_revision\":\"2\",\"value\":\"MDY=\",\"version\":\"1\"}},{\"kv\":{\"create_revision\":\"2\",\"key\":\"azA3\",\"mod_revision\":\"2\",\"value\":\"MDc=\",\"version\":\"1\"}},{\"kv\":{\"create_revision\":\"2\",\"key\":\"azA4\",\"mod_revision\":\"2\",\"value\":\"MDg=\",\"version\":\"1\"}},{\"kv\":{\"create_revision\":\"2\",\"key\":\"azA5\",\"mod_revision\":\"2\",\"value\":\"MDk=\",\"version\":\"1\"}},{\"kv\":{\"create_revision\":\"2\",\"key\":\"azEw\",\"mod_revision\":\"2\",\"value\":\"MTA=\",\"version\":\"1\"}},{\"kv\":{\"create_revision\":\"2\",\"key\":\"azEx\",\"mod_revision\":\"2\",\"value\":\"MTE=\",\"version\":\"1\"}},{\"kv\":{\"create_revision\":\"2\",\"key\":\"azEy\",\"mod_revision\":\"2\",\"value\":\"MTI=\",\"version\":\"1\"}},{\"kv\":{\"create_revision\":\"2\",\"key\":\"azEz\",\"mod_revision\":\"2\",\"value\":\"MTM=\",\"version\":\"1\"}},{\"kv\":{\"create_revision\":\"2\",\"key\":\"azE0\",\"mod_revision\":\"2\",\"value\":\"MTQ=\",\"version\":\"1\"}},{\"kv\":{\"create_revision\":\"2\",\"key\":\"azE1\",\"mod_revision\":\"2\",\"value\":\"MTU=\",\"version\":\"1\"}},{\"kv\":{\"create_revision\":\"2\",\"key\":\"azE2\",\"mod_revision\":\"2\",\"value\":\"MTY=\",\"version\":\"1\"}},{\"kv\":{\"create_revision\":\"2\",\"key\":\"azE3\",\"mod_revision\":\"2\",\"value\":\"MTc=\",\"version\":\"1\"}},{\"kv\":{\"create_revision\":\"2\",\"key\":\"azE4\",\"mod_revision\":\"2\",\"value\":\"MTg=\",\"version\":\"1\"}},{\"kv\":{\"create_revision\":\"2\",\"key\":\"azE5\",\"mod_revision\":\"2\",\"value\":\"MTk=\",\"version\":\"1\"}},{\"kv\":{\"create_revision\":\"2\",\"key\":\"azIw\",\"mod_revision\":\"2\",\"value\":\"MjA=\",\"version\":\"1\"}},{\"kv\":{\"create_revision\":\"2\",\"key\":\"azIx\",\"mod_revision\":\"2\",\"value\":\"MjE=\",\"version\":\"1\"}},{\"kv\":{\"create_revision\":\"2\",\"key\":\"azIy\",\"mod_revision\":\"2\",\"value\":\"MjI=\",\"version\":\"1\"}},{\"kv\":{\"create_revision\":\"2\",\"key\":\"azIz\",\"mod_revision\":\"2\",\"value\":\"MjM=\",\"version\":\"1\"}},{\"kv\":{\"create_revision\":\"2\",\"key\":\"azI0\",\"mod_revision\":\"2\",\"value\":\"MjQ=\",\"version\":\"1\"}},{\"kv\":{\"create_revision\":\"2\",\"key\":\"azI1\",\"mod_revision\":\"2\",\"value\":\"MjU=\",\"version\":\"1\"}},{\"kv\":{\"create_revision\":\"2\",\"key\":\"azI2\",\"mod_revision\":\"2\",\"value\":\"MjY=\",\"version\":\"1\"}},{\"kv\":{\"create_revision\":\"2\",\"key\":\"azI3\",\"mod_revision\":\"2\",\"value\":\"Mjc=\",\"version\":\"1\"}},{\"kv\":{\"create_revision\":\"2\",\"key\":\"azI4\",\"mod_revision\":\"2\",\"value\":\"Mjg=\",\"version\":\"1\"}},{\"kv\":{\"create_revision\":\"2\",\"key\":\"azI5\",\"mod_revision\":\"2\",\"value\":\"Mjk=\",\"version\":\"1\"}},{\"kv\":{\"create_revision\":\"2\",\"key\":\"azMw\",\"mod_revision\":\"2\",\"value\":\"MzA=\",\"version\":\"1\"}},{\"kv\":{\"create_revision\":\"2\",\"key\":\"azMx\",\"mod_revision\":\"2\",\"value\":\"MzE=\",\"version\":\"1\"}},{\"kv\":{\"create_revision\":\"2\",\"key\":\"azMy\",\"mod_revision\":\"2\",\"value\":\"MzI=\",\"version\":\"1\"}},{\"kv\":{\"create_revision\":\"2\",\"key\":\"azMz\",\"mod_revision\":\"2\",\"value\":\"MzM=\",\"version\":\"1\"}},{\"kv\":{\"create_revision\":\"2\",\"key\":\"azM0\",\"mod_revision\":\"2\",\"value\":\"MzQ=\",\"version\":\"1\"}},{\"kv\":{\"create_revision\":\"2\",\"key\":\"azM1\",\"mod_revision\":\"2\",\"value\":\"MzU=\",\"version\":\"1\"}},{\"kv\":{\"create_revision\":\"2\",\"key\":\"azM2\",\"mod_revision\":\"2\",\"value\":\"MzY=\",\"version\":\"1\"}},{\"kv\":{\"create_revision\":\"2\",\"key\":\"azM3\",\"mod_revision\":\"2\",\"value\":\"Mzc=\",\"version\":\"1\"}},{\"kv\":{\"create_revision\":\"2\",\"key\":\"azM4\",\"mod_revision\":\"2\",\"value\":\"Mzg=\",\"version\":\"1\"}},{\"kv\":{\"create_revision\":\"2\",\"key\":\"azM5\",\"mod_revision\":\"2\",\"value\":\"Mzk=\",\"version\":\"1\"}},{\"kv\":{\"key\":\"azAw\",\"mod_revision\":\"3\"},\"prev_kv\":{\"create_revision\":\"2\",\"key\":\"azAw\",\"mod_revision\":\"2\",\"value\":\"MDA=\",\"version\":\"1\"},\"type\":\"DELETE\"},{\"kv\":{\"key\":\"azAx\",\"mod_revision\":\"3\"},\"prev_kv\":{\"create_revision\":\"2\",\"key\":\"azAx\",\"mod_revision\":\"2\",\"value\":\"MDE=\",\"version\":\"1\"},\"type\":\"DELETE\"},{\"kv\":{\"key\":\"azAy\",\"mod_revision\":\"3\"},\"prev_kv\":{\"create_revision\":\"2\",\"key\":\"azAy\",\"mod_revision\":\"2\",\"value\":\"MDI=\",\"version\":\"1\"},\"type\":\"DELETE\"},{\"kv\":{\"key\":\"azAz\",\"mod_revision\":\"3\"},\"prev_kv\":{\"create_revision\":\"2\",\"key\":\"azAz\",\"mod_revision\":\"2\",\"value\":\"MDM=\",\"version\":\"1\"},\"type\":\"DELETE\"},{\"kv\":{\"key\":\"azA0\",\"mod_revision\":\"3\"},\"prev_kv\":{\"create_revision\":\"2\",\"key\":\"azA0\",\"mod_revision\":\"2\",\"value\":\"MDQ=\",\"version\":\"1\"},\"type\":\"DELETE\"},{\"kv\":{\"key\":\"azA1\",\"mod_revision\":\"3\"},\"prev_kv\":{\"create_revision\":\"2\",\"key\":\"azA1\",\"mod_revision\":\"2\",\"value\":\"MDU=\",\"version\":\"1\"},\"type\":\"DELETE\"},{\"kv\":{\"key\":\"azA2\",\"mod_revision\":\"3\"},\"prev_kv\":{\"create_revision\":\"2\",\"key\":\"azA2\",\"mod_revision\":\"2\",\"value\":\"MDY=\",\"version\":\"1\"},\"type\":\"DELETE\"},{\"kv\":{\"key\":\"azA3\",\"mod_revision\":\"3\"},\"prev_kv\":{\"create_revision\":\"2\",\"key\":\"azA3\",\"mod_revision\":\"2\",\"value\":\"MDc=\",\"version\":\"1\"},\"type\":\"DELETE\"},{\"kv\":{\"key\":\"azA4\",\"mod_revision\":\"3\"},\"prev_kv\":{\"create_revision\":\"2\",\"key\":\"azA4\",\"mod_revision\":\"2\",\"value\":\"MDg=\",\"version\":\"1\"},\"type\":\"DELETE\"},{\"kv\":{\"key\":\"azA5\",\"mod_revision\":\"3\"},\"prev_kv\":{\"create_revision\":\"2\",\"key\":\"azA5\",\"mod_revision\":\"2\",\"value\":\"MDk=\",\"version\":\"1\"},\"type\":\"DELETE\"},{\"kv\":{\"key\":\"azEw\",\"mod_revision\":\"3\"},\"prev_kv\":{\"create_revision\":\"2\",\"key\":\"azEw\",\"mod_revision\":\"2\",\"value\":\"MTA=\",\"version\":\"1\"},\"type\":\"DELETE\"},{\"kv\":{\"key\":\"azEx\",\"mod_revision\":\"3\"},\"prev_kv\":{\"create_revision\":\"2\",\"key\":\"azEx\",\"mod_revision\":\"2\",\"value\":\"MTE=\",\"version\":\"1\"},\"type\":\"DELETE\"},{\"kv\":{\"key\":\"azEy\",\"mod_revision\":\"3\"},\"prev_kv\":{\"create_revision\":\"2\",\"key\":\"azEy\",\"mod_revision\":\"2\",\"value\":\"MTI=\",\"version\":\"1\"},\"type\":\"DELETE\"},{\"kv\":{\"key\":\"azEz\",\"mod_revision\":\"3\"},\"prev_kv\":{\"create_revision\":\"2\",\"key\":\"azEz\",\"mod_revision\":\"2\",\"value\":\"MTM=\",\"version\":\"1\"},\"type\":\"DELETE\"},{\"kv\":{\"key\":\"azE0\",\"mod_revision\":\"3\"},\"prev_kv\":{\"create_revision\":\"2\",\"key\":\"azE0\",\"mod_revision\":\"2\",\"value\":\"MTQ=\",\"version\":\"1\"},\"type\":\"DELETE\"},{\"kv\":{\"key\":\"azE1\",\"mod_revision\":\"3\"},\"prev_kv\":{\"create_revision\":\"2\",\"key\":\"azE1\",\"mod_revision\":\"2\",\"value\":\"MTU=\",\"version\":\"1\"},\"type\":\"DELETE\"},{\"kv\":{\"key\":\"azE2\",\"mod_revision\":\"3\"},\"prev_kv\":{\"create_revision\":\"2\",\"key\":\"azE2\",\"mod_revision\":\"2\",\"value\":\"MTY=\",\"version\":\"1\"},\"type\":\"DELETE\"},{\"kv\":{\"key\":\"azE3\",\"mod_revision\":\"3\"},\"prev_kv\":{\"create_revision\":\"2\",\"key\":\"azE3\",\"mod_revision\":\"2\",\"value\":\"MTc=\",\"version\":\"1\"},\"type\":\"DELETE\"},{\"kv\":{\"key\":\"azE4\",\"mod_revision\":\"3\"},\"prev_kv\":{\"create_revision\":\"2\",\"key\":\"azE4\",\"mod_revision\":\"2\",\"value\":\"MTg=\",\"version\":\"1\"},\"type\":\"DELETE\"},{\"kv\":{\"key\":\"azE5\",\"mod_revision\":\"3\"},\"prev_kv\":{\"create_revision\":\"2\",\"key\":\"azE5\",\"mod_revision\":\"2\",\"value\":\"MTk=\",\"version\":\"1\"},\"type\":\"DELETE\"},{\"kv\":{\"key\":\"azIw\",\"mod_revision\":\"3\"},\"prev_kv\":{\"create_revision\":\"2\",\"key\":\"azIw\",\"mod_revision\":\"2\",\"value\":\"MjA=\",\"version\":\"1\"},\"type\":\"DELETE\"},{\"kv\":{\"key\":\"azIx\",\"mod_revision\":\"3\"},\"prev_kv\":{\"create_revision\":\"2\",\"key\":\"azIx\",\"mod_revision\":\"2\",\"value\":\"MjE=\",\"version\":\"1\"},\"type\":\"DELETE\"},{\"kv\":{\"key\":\"azIy\",\"mod_revision\":\"3\"},\"prev_kv\":{\"create_revision\":\"2\",\"key\":\"azIy\",\"mod_revision\":\"2\",\"value\":\"MjI=\",\"version\":\"1\"},\"type\":\"DELETE\"},{\"kv\":{\"key\":\"azIz\",\"mod_revision\":\"3\"},\"prev_kv\":{\"create_revision\":\"2\",\"key\":\"azIz\",\"mod_revision\":\"2\",\"value\":\"MjM=\",\"version\":\"1\"},\"type\":\"DELETE\"},{\"kv\":{\"key\":\"azI0\",\"mod_revision\":\"3\"},\"prev_kv\":{\"create_revision\":\"2\",\"key\":\"azI0\",\"mod_revision\":\"2\",\"value\":\"MjQ=\",\"version\":\"1\"},\"type\":\"DELETE\"},{\"kv\":{\"key\":\"azI1\",\"mod_revision\":\"3\"},\"prev_kv\":{\"create_revision\":\"2\",\"key\":\"azI1\",\"mod_revision\":\"2\",\"value\":\"MjU=\",\"version\":\"1\"},\"type\":\"DELETE\"},{\"kv\":{\"key\":\"azI2\",\"mod_revision\":\"3\"},\"prev_kv\":{\"create_revision\":\"2\",\"key\":\"azI2\",\"mod_revision\":\"2\",\"value\":\"MjY=\",\"version\":\"1\"},\"type\":\"DELETE\"},{\"kv\":{\"key\":\"azI3\",\"mod_revision\":\"3\"},\"prev_kv\":{\"create_revision\":\"2\",\"key\":\"azI3\",\"mod_revision\":\"2\",\"value\":\"Mjc=\",\"version\":\"1\"},\"type\":\"DELETE\"},{\"kv\":{\"key\":\"azI4\",\"mod_revision\":\"3\"},\"prev_kv\":{\"create_revision\":\"2\",\"key\":\"azI4\",\"mod_revision\":\"2\",\"value\":\"Mjg=\",\"version\":\"1\"},\"type\":\"DELETE\"},{\"kv\":{\"key\":\"azI5\",\"mod_revision\":\"3\"},\"prev_kv\":{\"create_revision\":\"2\",\"key\":\"azI5\",\"mod_revision\":\"2\",\"value\":\"Mjk=\",\"version\":\"1\"},\"type\":\"DELETE\"},{\"kv\":{\"key\":\"azMw\",\"mod_revision\":\"3\"},\"prev_kv\":{\"create_revision\":\"2\",\"key\":\"azMw\",\"mod_revision\":\"2\",\"value\":\"MzA=\",\"version\":\"1\"},\"type\":\"DELETE\"},{\"kv\":{\"key\":\"azMx\",\"mod_revision\":\"3\"},\"prev_kv\":{\"create_revision\":\"2\",\"key\":\"azMx\",\"mod_revision\":\"2\",\"value\":\"MzE=\",\"version\":\"1\"},\"type\":\"DELETE\"},{\"kv\":{\"key\":\"azMy\",\"mod_revision\":\"3\"},\"prev_kv\":{\"create_revision\":\"2\",\"key\":\"azMy\",\"mod_revision\":\"2\",\"value\":\"MzI=\",\"version\":\"1\"},\"type\":\"DELETE\"},{\"kv\":{\"key\":\"azMz\",\"mod_revision\":\"3\"},\"prev_kv\":{\"create_revision\":\"2\",\"key\":\"azMz\",\"mod_revision\":\"2\",\"value\":\"MzM=\",\"version\":\"1\"},\"type\":\"DELETE\"},{\"kv\":{\"key\":\"azM0\",\"mod_revision\":\"3\"},\"prev_kv\":{\"create_revision\":\"2\",\"key\":\"azM0\",\"mod_revision\":\"2\",\"value\":\"MzQ=\",\"version\":\"1\"},\"type\":\"DELETE\"},{\"kv\":{\"key\":\"azM1\",\"mod_revision\":\"3\"},\"prev_kv\":{\"create_revision\":\"2\",\"key\":\"azM1\",\"mod_revision\":\"2\",\"value\":\"MzU=\",\"version\":\"1\"},\"type\":\"DELETE\"},{\"kv\":{\"key\":\"azM2\",\"mod_revision\":\"3\"},\"prev_kv\":{\"create_revision\":\"2\",\"key\":\"azM2\",\"mod_revision\":\"2\",\"value\":\"MzY=\",\"version\":\"1\"},\"type\":\"DELETE\"},{\"kv\":{\"key\":\"azM3\",\"mod_revision\":\"3\"},\"prev_kv\":{\"create_revision\":\"2\",\"key\":\"azM3\",\"mod_revision\":\"2\",\"value\":\"Mzc=\",\"version\":\"1\"},\"type\":\"DELETE\"},{\"kv\":{\"key\":\"azM4\",\"mod_revision\":\"3\"},\"prev_kv\":{\"create_revision\":\"2\",\"key\":\"azM4\",\"mod_revision\":\"2\",\"value\":\"Mzg=\",\"version\":\"1\"},\"type\":\"DELETE\"},{\"kv\":{\"key\":\"azM5\",\"mod_revision\":\"3\"},\"prev_kv\":{\"create_revision\":\"2\",\"key\":\"azM5\",\"mod_revision\":\"2\",\"value\":\"Mzk=\",\"version\":\"1\"},\"type\":\"DELETE\"}],\"header\":{\"cluster_id\":\"7\",\"member_id\":\"1\",\"raft_term\":\"1\",\"revision\":\"3\"},\"watch_id\":\"1\"}}\n"
    ∷ take "one" 1 ⇒ answer 204 ""
    ∷ []

alone_one : IsAnsweredAlone (opening 7 1024 1) "one" lines_1 8
unfolding model_on_literals
alone_one = (refl, refl)
