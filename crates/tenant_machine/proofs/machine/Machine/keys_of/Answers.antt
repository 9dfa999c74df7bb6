use Rattle.std.proofs.Common.{◌≡◌, ◌∙◌, List, ap, length, map, of_z, rules, subst, sym, to_z, true, w64}
use Rattle.std.specs.Prelude.{ℕ, IsSome}
use Rattle.std.specs.List.{AllByRecursion}
use Rattle.std.proofs.lemmas.List.{length-map, nil_from_length}
use Rattle.etcd_model.specs.Leases.{attached}
use Rattle.etcd_model.specs.Operations.{has_lease}
use Rattle.lease_book.specs.Attached.{heads_of}
use Rattle.model_laws.specs.Attached.{leased_rows}
use Rattle.revision_store.specs.Plans.{key_at}
use Rattle.revision_store.specs.Stored.{cells, reads}
use Rattle.revision_store.proofs.PendingStores.{if_ok}
use Rattle.tenant_machine.specs.Tenants.{MachineState}
use Rattle.tenant_machine.proofs.LeaseEnds.{heads_show, heads_there, keys_told}
use Rattle.tenant_machine.proofs.machine.Machine.keys_of.Goals as goal

pub keys_under-requires : goal.keys_under-requires
keys_under-requires c =
    let bits : to_z w64 (of_z w64 c.args.id) ≡ c.args.id = search rules in
    let store = c.self.inside.store in
    let book = c.self.inside.leases in
    let has = subst (λ (m : MachineState). has_lease m.leases.leases c.args.id ≡ true) (sym c.self.view_is) c.requires in
    let shown = heads_show store book c.self.inside.moment c.args.id c.self.invariant.0.keeps has in
    subst (λ (cs : List ℕ). AllByRecursion (λ c'. IsSome (cells store c')) cs) (sym (c.keys_of.ensures ∙ ap (heads_of book.attachments) bits))
    (heads_there (cells store) (heads_of book.attachments c.args.id) (leased_rows store.kept c.args.id) shown)

pub returns-clause-keys : goal.returns-clause-keys
returns-clause-keys c =
    let bits : to_z w64 (of_z w64 c.args.id) ≡ c.args.id = search rules in
    let store = c.self.inside.store in
    let book = c.self.inside.leases in
    let has = subst (λ (m : MachineState). has_lease m.leases.leases c.args.id ≡ true) (sym c.self.view_is) c.requires in
    let shown = heads_show store book c.self.inside.moment c.args.id c.self.invariant.0.keeps has in
    if_ok (λ keys. keys ≡ map (key_at (cells store)) c.keys_of.result) (λ keys. keys ≡ attached (reads c.args.self.now.store) c.args.id) c.keys_under.result
    (λ keys is.
    is
    ∙ ap (map (key_at (cells store))) (c.keys_of.ensures ∙ ap (heads_of book.attachments) bits)
    ∙ keys_told store (heads_of book.attachments c.args.id) (leased_rows store.kept c.args.id) shown
    ∙ ap (λ (m : MachineState). attached (reads m.store) c.args.id) c.self.view_is) c.keys_under.ensures.keys

pub returns-clause-sure : goal.returns-clause-sure
returns-clause-sure c = λ none.
    let bits : to_z w64 (of_z w64 c.args.id) ≡ c.args.id = search rules in
    let store = c.self.inside.store in
    let book = c.self.inside.leases in
    let has = subst (λ (m : MachineState). has_lease m.leases.leases c.args.id ≡ true) (sym c.self.view_is) c.requires in
    let shown = heads_show store book c.self.inside.moment c.args.id c.self.invariant.0.keeps has in
    let told : map (key_at (cells store)) c.keys_of.result ≡ attached (reads c.args.self.now.store) c.args.id =
    ap (map (key_at (cells store))) (c.keys_of.ensures ∙ ap (heads_of book.attachments) bits)
    ∙ keys_told store (heads_of book.attachments c.args.id) (leased_rows store.kept c.args.id) shown
    ∙ ap (λ (m : MachineState). attached (reads m.store) c.args.id) c.self.view_is in
    c.keys_under.ensures.sure (nil_from_length c.keys_of.result (sym (length-map c.keys_of.result (key_at (cells store))) ∙ ap length (told ∙ none)))
