use Rattle.std.proofs.Common.{◌≡◌, ◌∙◌, ap, subst, sym}
use Rattle.std.specs.Prelude.{◌==◌, length, not}
use Rattle.std.proofs.lemmas.Bool.{and_parts}
use Rattle.etcd_types.specs.declared.reply.Reply.TheVariants.{Range as RangeReply}
use Rattle.etcd_types.specs.declared.step.Step.TheVariants.{Range}
use Rattle.etcd_types.specs.declared.txn.Op.TheVariants.{Range as RangeOp}
use Rattle.etcd_model.specs.Operations.{op_reply}
use Rattle.revision_store.specs.InPlace.{is_found}
use Rattle.revision_store.specs.Stored.{StoreState, reads}
use Rattle.tenant_machine.specs.Plans.{Plans}
use Rattle.tenant_machine.specs.Tenants.{MachineState}
use Rattle.tenant_machine.specs.declared.planned.Effect.TheVariants.{Nothing}
use Rattle.tenant_machine.proofs.FindingRows.{has_key, range_plans}
use Rattle.tenant_machine.proofs.machine.Machine.find_range.Goals as goal

pub find_rows-requires : goal.find_rows-requires
find_rows-requires c =
    let m = c.args.self.now in
    let q = c.args.request.now in
    ap (λ (s : MachineState). is_found s.store q) c.self.view_is ∙ (and_parts (not (length q.key == 0)) (is_found m.store q) c.requires).1

pub returns : goal.returns
returns c =
    let m = c.args.self.now in
    let q = c.args.request.now in
    let range = c.in_ok-range.range in
    let same : c.self.inside.store ≡ m.store = ap (λ (s : MachineState). s.store) c.self.view_is in
    let parts = and_parts (not (length q.key == 0)) (is_found m.store q) c.requires in
    let told = c.in_ok-range.ensures ∙ ap (λ (s : StoreState). op_reply (reads s) s.kept.current (RangeOp q)) same in
    subst (λ header. Plans m (Range q) (record { effect = Nothing; reply = RangeReply header range.count range.rows range.more })) (sym c.header-header.ensures)
    (range_plans m q range (has_key q.key parts.0) parts.1 told)
