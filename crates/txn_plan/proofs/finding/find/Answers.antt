use Rattle.std.proofs.Common.{◌∙◌, ap, map, refl}
use Rattle.etcd_types.specs.Rows.{op_reply_of}
use Rattle.txn_plan.proofs.Found.{found_is_txn}
use Rattle.txn_plan.proofs.finding.find.Goals as goal

pub returns : goal.returns
returns c = λ t is.
    let told = ap (map (op_reply_of (λ rows. rows))) c.from_vec-responses.ensures ∙ c.in_ok-find_ranges.ensures.replies in
    found_is_txn c.args.store.now t _ c.args.branch is c.requires refl told
