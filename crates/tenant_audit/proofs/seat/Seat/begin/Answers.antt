use Rattle.std.proofs.Common.{◌≡◌, ◌∙◌, sym, ap, is_some, refl, None}
use Rattle.std.specs.Map.{lookup}
use Rattle.etcd_model.proofs.NamedLaws.{absent, test}
use Rattle.tenant_audit.proofs.SeatLemmas.{found, goes_last, kept_begun}
use Rattle.tenant_audit.proofs.seat.Seat.begin.Goals as goal

pub returns-then-contains_key-clause-there : goal.returns-then-contains_key-clause-there
returns-then-contains_key-clause-there c =
    ap is_some (found c.self.inside.number c.args.tenant.now c.self.inside.tallies.entries c.args.self.now _ c.self.view_is refl) ∙ sym c.contains_key.ensures ∙ c.if-contains_key.true

pub returns-clause-keeps : goal.returns-clause-keeps
returns-clause-keeps c =
    let t = c.args.tenant.now in
    let es = c.self.inside.tallies.entries in
    let none : lookup (test t) es ≡ None = absent _ (sym c.contains_key.ensures ∙ c.if-contains_key.false) in
    (kept_begun c.self.inside.number t es c.args.self.now c.insert.new.self.entries c.insert.new.self.entries c.in_ok-name.name c.new.result c.self.view_is (sym none) c.in_ok-name.ensures.items
    (c.in_ok-insert.ensures.entries ∙ goes_last es c.in_ok-name.name c.new.result t c.in_ok-name.ensures.items none) refl c.new.ensures.calls c.new.ensures.missed).0

pub returns-clause-there : goal.returns-clause-there
returns-clause-there c =
    let t = c.args.tenant.now in
    let es = c.self.inside.tallies.entries in
    let none : lookup (test t) es ≡ None = absent _ (sym c.contains_key.ensures ∙ c.if-contains_key.false) in
    (kept_begun c.self.inside.number t es c.args.self.now c.insert.new.self.entries c.insert.new.self.entries c.in_ok-name.name c.new.result c.self.view_is (sym none) c.in_ok-name.ensures.items
    (c.in_ok-insert.ensures.entries ∙ goes_last es c.in_ok-name.name c.new.result t c.in_ok-name.ensures.items none) refl c.new.ensures.calls c.new.ensures.missed).1
