use Rattle.std.proofs.Common.{◌≡◌, ◌∙◌, ◌+◌, ◌<◌, false, map, pos, ap, arith, length, nat_eq, of_z, rules, subst, sym, to_z, true, w64}
use Rattle.std.proofs.lemmas.Bool.Decides.{nat_tests}
use Rattle.std.proofs.lemmas.Int.{to_z_pos}
use Rattle.etcd_model.specs.Operations.{has_lease}
use Rattle.lease_book.specs.Attached.{heads_of}
use Rattle.model_laws.specs.Space.{finished}
use Rattle.revision_store.specs.Stored.{cells, row_at}
use Rattle.tenant_machine.specs.Tenants.{MachineState}
use Rattle.tenant_machine.proofs.LeaseEnds.{heads_show, next_fits, next_one, same_revision}
use Rattle.tenant_machine.proofs.machine.Machine.revision_after.Goals as goal

pub returns-then-is_empty : goal.returns-then-is_empty
returns-then-is_empty c =
    let bits : to_z w64 (of_z w64 c.args.id) ≡ c.args.id = search rules in
    let book = c.self.inside.leases in
    let has = subst (λ (m : MachineState). has_lease m.leases.leases c.args.id ≡ true) (sym c.self.view_is) c.requires in
    let shown = ap (map (row_at (cells c.self.inside.store))) (c.keys_of.ensures ∙ ap (heads_of book.attachments) bits)
    ∙ heads_show c.self.inside.store book c.self.inside.moment c.args.id c.self.invariant.0.keeps has in
    let e : nat_eq (length c.keys_of.result) 0 ≡ true = sym c.is_empty.ensures ∙ c.if-is_empty.true in
    let none : length c.keys_of.result ≡ 0 = grind (arith, nat_tests) in
    to_z_pos w64 c.current-current.result (omega (arith, c.current-current.ensures.short))
    ∙ ap pos (c.current-current.ensures.current ∙ sym (same_revision c.self.inside.store c.keys_of.result c.args.id shown none))
    ∙ ap (λ (m : MachineState). pos (finished m.store.kept c.args.id).current) c.self.view_is

pub returns-else-is_empty : goal.returns-else-is_empty
returns-else-is_empty c =
    let bits : to_z w64 (of_z w64 c.args.id) ≡ c.args.id = search rules in
    let book = c.self.inside.leases in
    let has = subst (λ (m : MachineState). has_lease m.leases.leases c.args.id ≡ true) (sym c.self.view_is) c.requires in
    let shown = ap (map (row_at (cells c.self.inside.store))) (c.keys_of.ensures ∙ ap (heads_of book.attachments) bits)
    ∙ heads_show c.self.inside.store book c.self.inside.moment c.args.id c.self.invariant.0.keeps has in
    let e : nat_eq (length c.keys_of.result) 0 ≡ false = sym c.is_empty.ensures ∙ c.if-is_empty.false in
    let some : 0 < length c.keys_of.result = grind (arith, nat_tests) in
    let fits = next_fits c.self.inside.store c.self.inside.leases c.self.inside.moment c.self.inside.quota c.self.invariant.0 in
    to_z_pos w64 (c.current-current.result + 1) (omega (arith, fits, c.current-current.ensures.current))
    ∙ ap pos (ap (λ n. n + 1) c.current-current.ensures.current ∙ sym (next_one c.self.inside.store c.keys_of.result c.args.id shown some))
    ∙ ap (λ (m : MachineState). pos (finished m.store.kept c.args.id).current) c.self.view_is
