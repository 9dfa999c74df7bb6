use Rattle.std.proofs.Common.{◌≡◌, ◌∙◌, ◌+◌, ◌++◌, ◌∷◌, [], sym, ap, subst, refl, suc, length, arith}
use Rattle.std.proofs.lemmas.List.{length-append}
use Rattle.tenant_audit.specs.declared.comparing.Sheet.{Sheet}
use Rattle.tenant_audit.specs.Closed.{AreLawful, given_of}
use Rattle.tenant_registry.specs.Registries.{tenants_of}
use Rattle.tenant_audit.proofs.ClosedLemmas.{lawful_more}
use Rattle.tenant_registry.proofs.CloseLemmas.{given_step, left_is_among}
use Rattle.tenant_registry.proofs.close.sheets_of.Goals as goal

pub loop-name-preserved : goal.loop-name-preserved
loop-name-preserved c =
    let s : Sheet = record { name = c.in-Some.name; opening = c.in-Some.tenant.opening; audit = c.in-Some-audit_of.audit } in
    let cut : c.loop-name.name-iterator ≡ (c.in-Some.name, c.in-Some.tenant) ∷ c.next.new.self = c.in-Some.ensures.steps in
    let left : length c.loop-name.name-iterator ≡ suc (length c.next.new.self) = ap length cut in
    let more : length c.push_reserved.new.self.items ≡ length c.loop-name.sheets.items + 1 = ap length c.push_reserved.ensures.items ∙ length-append {A = Sheet} c.loop-name.sheets.items (s ∷ []) in
    record {
      given = ap (λ xs. given_of xs ++ tenants_of c.next.new.self) c.push_reserved.ensures.items
          ∙ given_step c.loop-name.sheets.items s c.in-Some.name c.in-Some.tenant c.loop-name.name-iterator c.next.new.self _ c.loop-name.invariant.given
          cut refl refl;
      lawful = subst AreLawful (sym c.push_reserved.ensures.items) (lawful_more c.loop-name.sheets.items s c.loop-name.invariant.lawful c.in-Some-audit_of.ensures);
      room = omega (arith, c.loop-name.invariant.room, left, more, c.push_reserved.ensures.capacity);
    }

pub returns-in_default-clause-lent : goal.returns-in_default-clause-lent
returns-in_default-clause-lent c =
    left_is_among c.loop-name.sheets.items c.in-Some.name c.in-Some.tenant c.loop-name.name-iterator c.next.new.self _ c.loop-name.invariant.given c.in-Some.ensures.steps
