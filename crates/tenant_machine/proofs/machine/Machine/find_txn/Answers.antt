use Rattle.std.proofs.Common.{◌≡◌, ◌∙◌, ap, map, subst, sym}
use Rattle.std.specs.Prelude.{is_none}
use Rattle.std.proofs.lemmas.Bool.{and_parts}
use Rattle.etcd_types.specs.declared.reply.Reply.TheVariants.{Txn as TxnReply}
use Rattle.etcd_types.specs.declared.step.Step.TheVariants.{Txn}
use Rattle.etcd_types.specs.Rows.{op_reply_of}
use Rattle.revision_store.specs.Stored.{StoreState}
use Rattle.std.specs.List.{list_all}
use Rattle.txn_plan.specs.Finding.{found_plan as found_txn, is_found_op, is_found_txn}
use Rattle.txn_plan.specs.Planned.{IsTaken, IsTxn}
use Rattle.tenant_machine.specs.Deciding.{early_refusal}
use Rattle.tenant_machine.specs.Plans.{Plans}
use Rattle.tenant_machine.specs.Tenants.{MachineState, tenant}
use Rattle.tenant_machine.specs.declared.planned.Effect.TheVariants.{Nothing}
use Rattle.tenant_machine.proofs.FindingRows.{not_early, txn_plans}
use Rattle.tenant_machine.proofs.machine.Machine.find_txn.Goals as goal

pub find-requires : goal.find-requires
find-requires c = ap (λ (s : MachineState). list_all (is_found_op s.store) c.args.branch.ops.now) c.self.view_is ∙ c.requires

pub returns : goal.returns
returns c = λ t taken finds.
    let m = c.args.self.now in
    let found = c.in_ok-found.found in
    let same : c.self.inside.store ≡ m.store = ap (λ (s : MachineState). s.store) c.self.view_is in
    let parts = and_parts (is_found_txn m.store t) (is_none (early_refusal (tenant m) (Txn t))) finds in
    let taken-inside = subst (λ (s : StoreState). IsTaken s t c.args.branch) (sym same) taken in
    let is = subst (λ (s : StoreState). IsTxn s t (found_txn s found)) same (c.in_ok-found.ensures t taken-inside) in
    subst (λ header. Plans m (Txn t) (record { effect = Nothing; reply = TxnReply header found.succeeded (map (op_reply_of (λ rows. rows)) found.responses) })) (sym c.header.ensures)
    (txn_plans m t found (not_early (early_refusal (tenant m) (Txn t)) parts.1) parts.0 is)
