-- Made by tools/make-row-theorems of the row txn_limits.
use Rattle.std.proofs.Common.{List, [], ◌∷◌, refl}
use Rattle.etcd_model.specs.Machine.{opening}
use Rattle.etcd_model.specs.Alone.{Turn}
use Rattle.row_theorems.proofs.OnLiterals.{model_on_literals}
use Rattle.row_theorems.proofs.Terms.{◌⇒◌, call, answer, IsAnsweredAlone}

abbrev lines_1 : List Turn
lines_1 =
    call "POST" "/t/one/v3/kv/txn" "{\"success\":[{\"request_put\":{\"key\":\"AQ==\"}},{\"request_put\":{\"key\":\"Ag==\"}},{\"request_put\":{\"key\":\"Aw==\"}},{\"request_put\":{\"key\":\"BA==\"}},{\"request_put\":{\"key\":\"BQ==\"}},{\"request_put\":{\"key\":\"Bg==\"}},{\"request_put\":{\"key\":\"Bw==\"}},{\"request_put\":{\"key\":\"CA==\"}},{\"request_put\":{\"key\":\"CQ==\"}},{\"request_put\":{\"key\":\"Cg==\"}},{\"request_put\":{\"key\":\"Cw==\"}},{\"request_put\":{\"key\":\"DA==\"}},{\"request_put\":{\"key\":\"DQ==\"}},{\"request_put\":{\"key\":\"Dg==\"}},{\"request_put\":{\"key\":\"Dw==\"}},{\"request_put\":{\"key\":\"EA==\"}},{\"request_put\":{\"key\":\"EQ==\"}},{\"request_put\":{\"key\":\"Eg==\"}},{\"request_put\":{\"key\":\"Ew==\"}},{\"request_put\":{\"key\":\"FA==\"}},{\"request_put\":{\"key\":\"FQ==\"}},{\"request_put\":{\"key\":\"Fg==\"}},{\"request_put\":{\"key\":\"Fw==\"}},{\"request_put\":{\"key\":\"GA==\"}},{\"request_put\":{\"key\":\"GQ==\"}},{\"request_put\":{\"key\":\"Gg==\"}},{\"request_put\":{\"key\":\"Gw==\"}},{\"request_put\":{\"key\":\"HA==\"}},{\"request_put\":{\"key\":\"HQ==\"}},{\"request_put\":{\"key\":\"Hg==\"}},{\"request_put\":{\"key\":\"Hw==\"}},{\"request_put\":{\"key\":\"IA==\"}},{\"request_put\":{\"key\":\"IQ==\"}},{\"request_put\":{\"key\":\"Ig==\"}},{\"request_put\":{\"key\":\"Iw==\"}},{\"request_put\":{\"key\":\"JA==\"}},{\"request_put\":{\"key\":\"JQ==\"}},{\"request_put\":{\"key\":\"Jg==\"}},{\"request_put\":{\"key\":\"Jw==\"}},{\"request_put\":{\"key\":\"KA==\"}},{\"request_put\":{\"key\":\"KQ==\"}},{\"request_put\":{\"key\":\"Kg==\"}},{\"request_put\":{\"key\":\"Kw==\"}},{\"request_put\":{\"key\":\"LA==\"}},{\"request_put\":{\"key\":\"LQ==\"}},{\"request_put\":{\"key\":\"Lg==\"}},{\"request_put\":{\"key\":\"Lw==\"}},{\"request_put\":{\"key\":\"MA==\"}},{\"request_put\":{\"key\":\"MQ==\"}},{\"request_put\":{\"key\":\"Mg==\"}},{\"request_put\":{\"key\":\"Mw==\"}},{\"request_put\":{\"key\":\"NA==\"}},{\"request_put\":{\"key\":\"NQ==\"}},{\"request_put\":{\"key\":\"Ng==\"}},{\"request_put\":{\"key\":\"Nw==\"}},{\"request_put\":{\"key\":\"OA==\"}},{\"request_put\":{\"key\":\"OQ==\"}},{\"request_put\":{\"key\":\"Og==\"}},{\"request_put\":{\"key\":\"Ow==\"}},{\"request_put\":{\"key\":\"PA==\"}},{\"request_put\":{\"key\":\"PQ==\"}},{\"request_put\":{\"key\":\"Pg==\"}},{\"request_put\":{\"key\":\"Pw==\"}},{\"request_put\":{\"key\":\"QA==\"}},{\"request_put\":{\"key\":\"QQ==\"}},{\"request_put\":{\"key\":\"Qg==\"}},{\"request_put\":{\"key\":\"Qw==\"}},{\"request_put\":{\"key\":\"RA==\"}},{\"request_put\":{\"key\":\"RQ==\"}},{\"request_put\":{\"key\":\"Rg==\"}},{\"request_put\":{\"key\":\"Rw==\"}},{\"request_put\":{\"key\":\"SA==\"}},{\"request_put\":{\"key\":\"SQ==\"}},{\"request_put\":{\"key\":\"Sg==\"}},{\"request_put\":{\"key\":\"Sw==\"}},{\"request_put\":{\"key\":\"TA==\"}},{\"request_put\":{\"key\":\"TQ==\"}},{\"request_put\":{\"key\":\"Tg==\"}},{\"request_put\":{\"key\":\"Tw==\"}},{\"request_put\":{\"key\":\"UA==\"}},{\"request_put\":{\"key\":\"UQ==\"}},{\"request_put\":{\"key\":\"Ug==\"}},{\"request_put\":{\"key\":\"Uw==\"}},{\"request_put\":{\"key\":\"VA==\"}},{\"request_put\":{\"key\":\"VQ==\"}},{\"request_put\":{\"key\":\"Vg==\"}},{\"request_put\":{\"key\":\"Vw==\"}},{\"request_put\":{\"key\":\"WA==\"}},{\"request_put\":{\"key\":\"WQ==\"}},{\"request_put\":{\"key\":\"Wg==\"}},{\"request_put\":{\"key\":\"Ww==\"}},{\"request_put\":{\"key\":\"XA==\"}},{\"request_put\":{\"key\":\"XQ==\"}},{\"request_put\":{\"key\":\"Xg==\"}},{\"request_put\":{\"key\":\"Xw==\"}},{\"request_put\":{\"key\":\"YA==\"}},{\"request_put\":{\"key\":\"YQ==\"}},{\"request_put\":{\"key\":\"Yg==\"}},{\"request_put\":{\"key\":\"Yw==\"}},{\"request_put\":{\"key\":\"ZA==\"}},{\"request_put\":{\"key\":\"ZQ==\"}},{\"request_put\":{\"key\":\"Zg==\"}},{\"request_put\":{\"key\":\"Zw==\"}},{\"request_put\":{\"key\":\"aA==\"}},{\"request_put\":{\"key\":\"aQ==\"}},{\"request_put\":{\"key\":\"ag==\"}},{\"request_put\":{\"key\":\"aw==\"}},{\"request_put\":{\"key\":\"bA==\"}},{\"request_put\":{\"key\":\"bQ==\"}},{\"request_put\":{\"key\":\"bg==\"}},{\"request_put\":{\"key\":\"bw==\"}},{\"request_put\":{\"key\":\"cA==\"}},{\"request_put\":{\"key\":\"cQ==\"}},{\"request_put\":{\"key\":\"cg==\"}},{\"request_put\":{\"key\":\"cw==\"}},{\"request_put\":{\"key\":\"dA==\"}},{\"request_put\":{\"key\":\"dQ==\"}},{\"request_put\":{\"key\":\"dg==\"}},{\"request_put\":{\"key\":\"dw==\"}},{\"request_put\":{\"key\":\"eA==\"}},{\"request_put\":{\"key\":\"eQ==\"}},{\"request_put\":{\"key\":\"eg==\"}},{\"request_put\":{\"key\":\"ew==\"}},{\"request_put\":{\"key\":\"fA==\"}},{\"request_put\":{\"key\":\"fQ==\"}},{\"request_put\":{\"key\":\"fg==\"}},{\"request_put\":{\"key\":\"fw==\"}},{\"request_put\":{\"key\":\"gA==\"}}]}" ⇒ answer 200 "{\"header\":{\"cluster_id\":\"7\",\"member_id\":\"1\",\"raft_term\":\"1\",\"revision\":\"2\"},\"responses\":[{\"response_put\":{\"header\":{\"revision\":\"2\"}}},{\"response_put\":{\"header\":{\"revision\":\"2\"}}},{\"response_put\":{\"header\":{\"revision\":\"2\"}}},{\"response_put\":{\"header\":{\"revision\":\"2\"}}},{\"response_put\":{\"header\":{\"revision\":\"2\"}}},{\"response_put\":{\"header\":{\"revision\":\"2\"}}},{\"response_put\":{\"header\":{\"revision\":\"2\"}}},{\"response_put\":{\"header\":{\"revision\":\"2\"}}},{\"response_put\":{\"header\":{\"revision\":\"2\"}}},{\"response_put\":{\"header\":{\"revision\":\"2\"}}},{\"response_put\":{\"header\":{\"revision\":\"2\"}}},{\"response_put\":{\"header\":{\"revision\":\"2\"}}},{\"response_put\":{\"header\":{\"revision\":\"2\"}}},{\"response_put\":{\"header\":{\"revision\":\"2\"}}},{\"response_put\":{\"header\":{\"revision\":\"2\"}}},{\"response_put\":{\"header\":{\"revision\":\"2\"}}},{\"response_put\":{\"header\":{\"revision\":\"2\"}}},{\"response_put\":{\"header\":{\"revision\":\"2\"}}},{\"response_put\":{\"header\":{\"revision\":\"2\"}}},{\"response_put\":{\"header\":{\"revision\":\"2\"}}},{\"response_put\":{\"header\":{\"revision\":\"2\"}}},{\"response_put\":{\"header\":{\"revision\":\"2\"}}},{\"response_put\":{\"header\":{\"revision\":\"2\"}}},{\"response_put\":{\"header\":{\"revision\":\"2\"}}},{\"response_put\":{\"header\":{\"revision\":\"2\"}}},{\"response_put\":{\"header\":{\"revision\":\"2\"}}},{\"response_put\":{\"header\":{\"revision\":\"2\"}}},{\"response_put\":{\"header\":{\"revision\":\"2\"}}},{\"response_put\":{\"header\":{\"revision\":\"2\"}}},{\"response_put\":{\"header\":{\"revision\":\"2\"}}},{\"response_put\":{\"header\":{\"revision\":\"2\"}}},{\"response_put\":{\"header\":{\"revision\":\"2\"}}},{\"response_put\":{\"header\":{\"revision\":\"2\"}}},{\"response_put\":{\"header\":{\"revision\":\"2\"}}},{\"response_put\":{\"header\":{\"revision\":\"2\"}}},{\"response_put\":{\"header\":{\"revision\":\"2\"}}},{\"response_put\":{\"header\":{\"revision\":\"2\"}}},{\"response_put\":{\"header\":{\"revision\":\"2\"}}},{\"response_put\":{\"header\":{\"revision\":\"2\"}}},{\"response_put\":{\"header\":{\"revision\":\"2\"}}},{\"response_put\":{\"header\":{\"revision\":\"2\"}}},{\"response_put\":{\"header\":{\"revision\":\"2\"}}},{\"response_put\":{\"header\":{\"revision\":\"2\"}}},{\"response_put\":{\"header\":{\"revision\":\"2\"}}},{\"response_put\":{\"header\":{\"revision\":\"2\"}}},{\"response_put\":{\"header\":{\"revision\":\"2\"}}},{\"response_put\":{\"header\":{\"revision\":\"2\"}}},{\"response_put\":{\"header\":{\"revision\":\"2\"}}},{\"response_put\":{\"header\":{\"revision\":\"2\"}}},{\"response_put\":{\"header\":{\"revision\":\"2\"}}},{\"response_put\":{\"header\":{\"revision\":\"2\"}}},{\"response_put\":{\"header\":{\"revision\":\"2\"}}},{\"response_put\":{\"header\":{\"revision\":\"2\"}}},{\"response_put\":{\"header\":{\"revision\":\"2\"}}},{\"response_put\":{\"header\":{\"revision\":\"2\"}}},{\"response_put\":{\"header\":{\"revision\":\"2\"}}},{\"response_put\":{\"header\":{\"revision\":\"2\"}}},{\"response_put\":{\"header\":{\"revision\":\"2\"}}},{\"response_put\":{\"header\":{\"revision\":\"2\"}}},{\"response_put\":{\"header\":{\"revision\":\"2\"}}},{\"response_put\":{\"header\":{\"revision\":\"2\"}}},{\"response_put\":{\"header\":{\"revision\":\"2\"}}},{\"response_put\":{\"header\":{\"revision\":\"2\"}}},{\"response_put\":{\"header\":{\"revision\":\"2\"}}},{\"response_put\":{\"header\":{\"revision\":\"2\"}}},{\"response_put\":{\"header\":{\"revision\":\"2\"}}},{\"response_put\":{\"header\":{\"revision\":\"2\"}}},{\"response_put\":{\"header\":{\"revision\":\"2\"}}},{\"response_put\":{\"header\":{\"revision\":\"2\"}}},{\"response_put\":{\"header\":{\"revision\":\"2\"}}},{\"response_put\":{\"header\":{\"revision\":\"2\"}}},{\"response_put\":{\"header\":{\"revision\":\"2\"}}},{\"response_put\":{\"header\":{\"revision\":\"2\"}}},{\"response_put\":{\"header\":{\"revision\":\"2\"}}},{\"response_put\":{\"header\":{\"revision\":\"2\"}}},{\"response_put\":{\"header\":{\"revision\":\"2\"}}},{\"response_put\":{\"header\":{\"revision\":\"2\"}}},{\"response_put\":{\"header\":{\"revision\":\"2\"}}},{\"response_put\":{\"header\":{\"revision\":\"2\"}}},{\"response_put\":{\"header\":{\"revision\":\"2\"}}},{\"response_put\":{\"header\":{\"revision\":\"2\"}}},{\"response_put\":{\"header\":{\"revision\":\"2\"}}},{\"response_put\":{\"header\":{\"revision\":\"2\"}}},{\"response_put\":{\"header\":{\"revision\":\"2\"}}},{\"response_put\":{\"header\":{\"revision\":\"2\"}}},{\"response_put\":{\"header\":{\"revision\":\"2\"}}},{\"response_put\":{\"header\":{\"revision\":\"2\"}}},{\"response_put\":{\"header\":{\"revision\":\"2\"}}},{\"response_put\":{\"header\":{\"revision\":\"2\"}}},{\"response_put\":{\"header\":{\"revision\":\"2\"}}},{\"response_put\":{\"header\":{\"revision\":\"2\"}}},{\"response_put\":{\"header\":{\"revision\":\"2\"}}},{\"response_put\":{\"header\":{\"revision\":\"2\"}}},{\"response_put\":{\"header\":{\"revision\":\"2\"}}},{\"response_put\":{\"header\":{\"revision\":\"2\"}}},{\"response_put\":{\"header\":{\"revision\":\"2\"}}},{\"response_put\":{\"header\":{\"revision\":\"2\"}}},{\"response_put\":{\"header\":{\"revision\":\"2\"}}},{\"response_put\":{\"header\":{\"revision\":\"2\"}}},{\"response_put\":{\"header\":{\"revision\":\"2\"}}},{\"response_put\":{\"header\":{\"revision\":\"2\"}}},{\"response_put\":{\"header\":{\"revision\":\"2\"}}},{\"response_put\":{\"header\":{\"revision\":\"2\"}}},{\"response_put\":{\"header\":{\"revision\":\"2\"}}},{\"response_put\":{\"header\":{\"revision\":\"2\"}}},{\"response_put\":{\"header\":{\"revision\":\"2\"}}},{\"response_put\":{\"header\":{\"revision\":\"2\"}}},{\"response_put\":{\"header\":{\"revision\":\"2\"}}},{\"response_put\":{\"header\":{\"revision\":\"2\"}}},{\"response_put\":{\"header\":{\"revision\":\"2\"}}},{\"response_put\":{\"header\":{\"revision\":\"2\"}}},{\"response_put\":{\"header\":{\"revision\":\"2\"}}},{\"response_put\":{\"header\":{\"revision\":\"2\"}}},{\"response_put\":{\"header\":{\"revision\":\"2\"}}},{\"response_put\":{\"header\":{\"revision\":\"2\"}}},{\"response_put\":{\"header\":{\"revision\":\"2\"}}},{\"response_put\":{\"header\":{\"revision\":\"2\"}}},{\"response_put\":{\"header\":{\"revision\":\"2\"}}},{\"response_put\":{\"header\":{\"revision\":\"2\"}}},{\"response_put\":{\"header\":{\"revision\":\"2\"}}},{\"response_put\":{\"header\":{\"revision\":\"2\"}}},{\"response_put\":{\"header\":{\"revision\":\"2\"}}},{\"response_put\":{\"header\":{\"revision\":\"2\"}}},{\"response_put\":{\"header\":{\"revision\":\"2\"}}},{\"response_put\":{\"header\":{\"revision\":\"2\"}}},{\"response_put\":{\"header\":{\"revision\":\"2\"}}},{\"response_put\":{\"header\":{\"revision\":\"2\"}}},{\"response_put\":{\"header\":{\"revision\":\"2\"}}}],\"succeeded\":true}"
    ∷ call "POST" "/t/one/v3/kv/txn" "{\"success\":[{\"request_range\":{\"key\":\"YQ==\"}},{\"request_range\":{\"key\":\"YQ==\"}},{\"request_range\":{\"key\":\"YQ==\"}},{\"request_range\":{\"key\":\"YQ==\"}},{\"request_range\":{\"key\":\"YQ==\"}},{\"request_range\":{\"key\":\"YQ==\"}},{\"request_range\":{\"key\":\"YQ==\"}},{\"request_range\":{\"key\":\"YQ==\"}},{\"request_range\":{\"key\":\"YQ==\"}},{\"request_range\":{\"key\":\"YQ==\"}},{\"request_range\":{\"key\":\"YQ==\"}},{\"request_range\":{\"key\":\"YQ==\"}},{\"request_range\":{\"key\":\"YQ==\"}},{\"request_range\":{\"key\":\"YQ==\"}},{\"request_range\":{\"key\":\"YQ==\"}},{\"request_range\":{\"key\":\"YQ==\"}},{\"request_range\":{\"key\":\"YQ==\"}},{\"request_range\":{\"key\":\"YQ==\"}},{\"request_range\":{\"key\":\"YQ==\"}},{\"request_range\":{\"key\":\"YQ==\"}},{\"request_range\":{\"key\":\"YQ==\"}},{\"request_range\":{\"key\":\"YQ==\"}},{\"request_range\":{\"key\":\"YQ==\"}},{\"request_range\":{\"key\":\"YQ==\"}},{\"request_range\":{\"key\":\"YQ==\"}},{\"request_range\":{\"key\":\"YQ==\"}},{\"request_range\":{\"key\":\"YQ==\"}},{\"request_range\":{\"key\":\"YQ==\"}},{\"request_range\":{\"key\":\"YQ==\"}},{\"request_range\":{\"key\":\"YQ==\"}},{\"request_range\":{\"key\":\"YQ==\"}},{\"request_range\":{\"key\":\"YQ==\"}},{\"request_range\":{\"key\":\"YQ==\"}},{\"request_range\":{\"key\":\"YQ==\"}},{\"request_range\":{\"key\":\"YQ==\"}},{\"request_range\":{\"key\":\"YQ==\"}},{\"request_range\":{\"key\":\"YQ==\"}},{\"request_range\":{\"key\":\"YQ==\"}},{\"request_range\":{\"key\":\"YQ==\"}},{\"request_range\":{\"key\":\"YQ==\"}},{\"request_range\":{\"key\":\"YQ==\"}},{\"request_range\":{\"key\":\"YQ==\"}},{\"request_range\":{\"key\":\"YQ==\"}},{\"request_range\":{\"key\":\"YQ==\"}},{\"request_range\":{\"key\":\"YQ==\"}},{\"request_range\":{\"key\":\"YQ==\"}},{\"request_range\":{\"key\":\"YQ==\"}},{\"request_range\":{\"key\":\"YQ==\"}},{\"request_range\":{\"key\":\"YQ==\"}},{\"request_range\":{\"key\":\"YQ==\"}},{\"request_range\":{\"key\":\"YQ==\"}},{\"request_range\":{\"key\":\"YQ==\"}},{\"request_range\":{\"key\":\"YQ==\"}},{\"request_range\":{\"key\":\"YQ==\"}},{\"request_range\":{\"key\":\"YQ==\"}},{\"request_range\":{\"key\":\"YQ==\"}},{\"request_range\":{\"key\":\"YQ==\"}},{\"request_range\":{\"key\":\"YQ==\"}},{\"request_range\":{\"key\":\"YQ==\"}},{\"request_range\":{\"key\":\"YQ==\"}},{\"request_range\":{\"key\":\"YQ==\"}},{\"request_range\":{\"key\":\"YQ==\"}},{\"request_range\":{\"key\":\"YQ==\"}},{\"request_range\":{\"key\":\"YQ==\"}},{\"request_range\":{\"key\":\"YQ==\"}},{\"request_range\":{\"key\":\"YQ==\"}},{\"request_range\":{\"key\":\"YQ==\"}},{\"request_range\":{\"key\":\"YQ==\"}},{\"request_range\":{\"key\":\"YQ==\"}},{\"request_range\":{\"key\":\"YQ==\"}},{\"request_range\":{\"key\":\"YQ==\"}},{\"request_range\":{\"key\":\"YQ==\"}},{\"request_range\":{\"key\":\"YQ==\"}},{\"request_range\":{\"key\":\"YQ==\"}},{\"request_range\":{\"key\":\"YQ==\"}},{\"request_range\":{\"key\":\"YQ==\"}},{\"request_range\":{\"key\":\"YQ==\"}},{\"request_range\":{\"key\":\"YQ==\"}},{\"request_range\":{\"key\":\"YQ==\"}},{\"request_range\":{\"key\":\"YQ==\"}},{\"request_range\":{\"key\":\"YQ==\"}},{\"request_range\":{\"key\":\"YQ==\"}},{\"request_range\":{\"key\":\"YQ==\"}},{\"request_range\":{\"key\":\"YQ==\"}},{\"request_range\":{\"key\":\"YQ==\"}},{\"request_range\":{\"key\":\"YQ==\"}},{\"request_range\":{\"key\":\"YQ==\"}},{\"request_range\":{\"key\":\"YQ==\"}},{\"request_range\":{\"key\":\"YQ==\"}},{\"request_range\":{\"key\":\"YQ==\"}},{\"request_range\":{\"key\":\"YQ==\"}},{\"request_range\":{\"key\":\"YQ==\"}},{\"request_range\":{\"key\":\"YQ==\"}},{\"request_range\":{\"key\":\"YQ==\"}},{\"request_range\":{\"key\":\"YQ==\"}},{\"request_range\":{\"key\":\"YQ==\"}},{\"request_range\":{\"key\":\"YQ==\"}},{\"request_range\":{\"key\":\"YQ==\"}},{\"request_range\":{\"key\":\"YQ==\"}},{\"request_range\":{\"key\":\"YQ==\"}},{\"request_range\":{\"key\":\"YQ==\"}},{\"request_range\":{\"key\":\"YQ==\"}},{\"request_range\":{\"key\":\"YQ==\"}},{\"request_range\":{\"key\":\"YQ==\"}},{\"request_range\":{\"key\":\"YQ==\"}},{\"request_range\":{\"key\":\"YQ==\"}},{\"request_range\":{\"key\":\"YQ==\"}},{\"request_range\":{\"key\":\"YQ==\"}},{\"request_range\":{\"key\":\"YQ==\"}},{\"request_range\":{\"key\":\"YQ==\"}},{\"request_range\":{\"key\":\"YQ==\"}},{\"request_range\":{\"key\":\"YQ==\"}},{\"request_range\":{\"key\":\"YQ==\"}},{\"request_range\":{\"key\":\"YQ==\"}},{\"request_range\":{\"key\":\"YQ==\"}},{\"request_range\":{\"key\":\"YQ==\"}},{\"request_range\":{\"key\":\"YQ==\"}},{\"request_range\":{\"key\":\"YQ==\"}},{\"request_range\":{\"key\":\"YQ==\"}},{\"request_range\":{\"key\":\"YQ==\"}},{\"request_range\":{\"key\":\"YQ==\"}},{\"request_range\":{\"key\":\"YQ==\"}},{\"request_range\":{\"key\":\"YQ==\"}},{\"request_range\":{\"key\":\"YQ==\"}},{\"request_range\":{\"key\":\"YQ==\"}},{\"request_range\":{\"key\":\"YQ==\"}},{\"request_range\":{\"key\":\"YQ==\"}},{\"request_range\":{\"key\":\"YQ==\"}},{\"request_range\":{\"key\":\"YQ==\"}}]}" ⇒ answer 400 "{\"code\":3,\"error\":\"etcdserver: too many operations in txn request\",\"message\":\"etcdserver: too many operations in txn request\"}"
    ∷ call "POST" "/t/one/v3/kv/txn" "{\"failure\":[{\"request_range\":{\"key\":\"YQ==\"}},{\"request_range\":{\"key\":\"YQ==\"}},{\"request_range\":{\"key\":\"YQ==\"}},{\"request_range\":{\"key\":\"YQ==\"}},{\"request_range\":{\"key\":\"YQ==\"}},{\"request_range\":{\"key\":\"YQ==\"}},{\"request_range\":{\"key\":\"YQ==\"}},{\"request_range\":{\"key\":\"YQ==\"}},{\"request_range\":{\"key\":\"YQ==\"}},{\"request_range\":{\"key\":\"YQ==\"}},{\"request_range\":{\"key\":\"YQ==\"}},{\"request_range\":{\"key\":\"YQ==\"}},{\"request_range\":{\"key\":\"YQ==\"}},{\"request_range\":{\"key\":\"YQ==\"}},{\"request_range\":{\"key\":\"YQ==\"}},{\"request_range\":{\"key\":\"YQ==\"}},{\"request_range\":{\"key\":\"YQ==\"}},{\"request_range\":{\"key\":\"YQ==\"}},{\"request_range\":{\"key\":\"YQ==\"}},{\"request_range\":{\"key\":\"YQ==\"}},{\"request_range\":{\"key\":\"YQ==\"}},{\"request_range\":{\"key\":\"YQ==\"}},{\"request_range\":{\"key\":\"YQ==\"}},{\"request_range\":{\"key\":\"YQ==\"}},{\"request_range\":{\"key\":\"YQ==\"}},{\"request_range\":{\"key\":\"YQ==\"}},{\"request_range\":{\"key\":\"YQ==\"}},{\"request_range\":{\"key\":\"YQ==\"}},{\"request_range\":{\"key\":\"YQ==\"}},{\"request_range\":{\"key\":\"YQ==\"}},{\"request_range\":{\"key\":\"YQ==\"}},{\"request_range\":{\"key\":\"YQ==\"}},{\"request_range\":{\"key\":\"YQ==\"}},{\"request_range\":{\"key\":\"YQ==\"}},{\"request_range\":{\"key\":\"YQ==\"}},{\"request_range\":{\"key\":\"YQ==\"}},{\"request_range\":{\"key\":\"YQ==\"}},{\"request_range\":{\"key\":\"YQ==\"}},{\"request_range\":{\"key\":\"YQ==\"}},{\"request_range\":{\"key\":\"YQ==\"}},{\"request_range\":{\"key\":\"YQ==\"}},{\"request_range\":{\"key\":\"YQ==\"}},{\"request_range\":{\"key\":\"YQ==\"}},{\"request_range\":{\"key\":\"YQ==\"}},{\"request_range\":{\"key\":\"YQ==\"}},{\"request_range\":{\"key\":\"YQ==\"}},{\"request_range\":{\"key\":\"YQ==\"}},{\"request_range\":{\"key\":\"YQ==\"}},{\"request_range\":{\"key\":\"YQ==\"}},{\"request_range\":{\"key\":\"YQ==\"}},{\"request_range\":{\"key\":\"YQ==\"}},{\"request_range\":{\"key\":\"YQ==\"}},{\"request_range\":{\"key\":\"YQ==\"}},{\"request_range\":{\"key\":\"YQ==\"}},{\"request_range\":{\"key\":\"YQ==\"}},{\"request_range\":{\"key\":\"YQ==\"}},{\"request_range\":{\"key\":\"YQ==\"}},{\"request_range\":{\"key\":\"YQ==\"}},{\"request_range\":{\"key\":\"YQ==\"}},{\"request_range\":{\"key\":\"YQ==\"}},{\"request_range\":{\"key\":\"YQ==\"}},{\"request_range\":{\"key\":\"YQ==\"}},{\"request_range\":{\"key\":\"YQ==\"}},{\"request_range\":{\"key\":\"YQ==\"}},{\"request_range\":{\"key\":\"YQ==\"}},{\"request_range\":{\"key\":\"YQ==\"}},{\"request_range\":{\"key\":\"YQ==\"}},{\"request_range\":{\"key\":\"YQ==\"}},{\"request_range\":{\"key\":\"YQ==\"}},{\"request_range\":{\"key\":\"YQ==\"}},{\"request_range\":{\"key\":\"YQ==\"}},{\"request_range\":{\"key\":\"YQ==\"}},{\"request_range\":{\"key\":\"YQ==\"}},{\"request_range\":{\"key\":\"YQ==\"}},{\"request_range\":{\"key\":\"YQ==\"}},{\"request_range\":{\"key\":\"YQ==\"}},{\"request_range\":{\"key\":\"YQ==\"}},{\"request_range\":{\"key\":\"YQ==\"}},{\"request_range\":{\"key\":\"YQ==\"}},{\"request_range\":{\"key\":\"YQ==\"}},{\"request_range\":{\"key\":\"YQ==\"}},{\"request_range\":{\"key\":\"YQ==\"}},{\"request_range\":{\"key\":\"YQ==\"}},{\"request_range\":{\"key\":\"YQ==\"}},{\"request_range\":{\"key\":\"YQ==\"}},{\"request_range\":{\"key\":\"YQ==\"}},{\"request_range\":{\"key\":\"YQ==\"}},{\"request_range\":{\"key\":\"YQ==\"}},{\"request_range\":{\"key\":\"YQ==\"}},{\"request_range\":{\"key\":\"YQ==\"}},{\"request_range\":{\"key\":\"YQ==\"}},{\"request_range\":{\"key\":\"YQ==\"}},{\"request_range\":{\"key\":\"YQ==\"}},{\"request_range\":{\"key\":\"YQ==\"}},{\"request_range\":{\"key\":\"YQ==\"}},{\"request_range\":{\"key\":\"YQ==\"}},{\"request_range\":{\"key\":\"YQ==\"}},{\"request_range\":{\"key\":\"YQ==\"}},{\"request_range\":{\"key\":\"YQ==\"}},{\"request_range\":{\"key\":\"YQ==\"}},{\"request_range\":{\"key\":\"YQ==\"}},{\"request_range\":{\"key\":\"YQ==\"}},{\"request_range\":{\"key\":\"YQ==\"}},{\"request_range\":{\"key\":\"YQ==\"}},{\"request_range\":{\"key\":\"YQ==\"}},{\"request_range\":{\"key\":\"YQ==\"}},{\"request_range\":{\"key\":\"YQ==\"}},{\"request_range\":{\"key\":\"YQ==\"}},{\"request_range\":{\"key\":\"YQ==\"}},{\"request_range\":{\"key\":\"YQ==\"}},{\"request_range\":{\"key\":\"YQ==\"}},{\"request_range\":{\"key\":\"YQ==\"}},{\"request_range\":{\"key\":\"YQ==\"}},{\"request_range\":{\"key\":\"YQ==\"}},{\"request_range\":{\"key\":\"YQ==\"}},{\"request_range\":{\"key\":\"YQ==\"}},{\"request_range\":{\"key\":\"YQ==\"}},{\"request_range\":{\"key\":\"YQ==\"}},{\"request_range\":{\"key\":\"YQ==\"}},{\"request_range\":{\"key\":\"YQ==\"}},{\"request_range\":{\"key\":\"YQ==\"}},{\"request_range\":{\"key\":\"YQ==\"}},{\"request_range\":{\"key\":\"YQ==\"}},{\"request_range\":{\"key\":\"YQ==\"}},{\"request_range\":{\"key\":\"YQ==\"}},{\"request_range\":{\"key\":\"YQ==\"}},{\"request_range\":{\"key\":\"YQ==\"}},{\"request_range\":{\"key\":\"YQ==\"}},{\"request_range\":{\"key\":\"YQ==\"}}]}" ⇒ answer 400 "{\"code\":3,\"error\":\"etcdserver: too many operations in txn request\",\"message\":\"etcdserver: too many operations in txn request\"}"
    ∷ call "POST" "/t/one/v3/kv/txn" "{}" ⇒ answer 200 "{\"header\":{\"cluster_id\":\"7\",\"member_id\":\"1\",\"raft_term\":\"1\",\"revision\":\"2\"},\"succeeded\":true}"
    ∷ []

alone_one : IsAnsweredAlone (opening 7 1024 1) "one" lines_1 4
unfolding model_on_literals
alone_one = (refl, refl)
