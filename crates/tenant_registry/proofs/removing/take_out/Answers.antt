use Rattle.std.proofs.Common.{◌∙◌, sym, ap, true≢false, is_some, Some}
use Rattle.std.specs.Option.{option_copied, option_map}
use Rattle.std.proofs.lemmas.Map.Made.{lookup_key_passes}
use Rattle.etcd_model.proofs.NamedLaws.{test}
use Rattle.tenant_registry.specs.declared.tenant.Tenant.{Tenant}
use Rattle.tenant_registry.specs.Registries.{tenants_of}
use Rattle.tenant_registry.proofs.RegistryLemmas.{found_shown, shown}
use Rattle.tenant_registry.proofs.RemovingLemmas.{same_name, shown_without}
use Rattle.tenant_registry.proofs.removing.take_out.Goals as goal

pub unreachable-requires : goal.unreachable-requires
unreachable-requires c =
    let none = sym c.get.ensures.value ∙ ap option_copied c.in_default.is in
    true≢false (sym c.requires.there ∙ sym (found_shown c.args.name.now c.args.tenants.now.entries) ∙ ap is_some none)

pub returns-clause-gone : goal.returns-clause-gone
returns-clause-gone c = ap tenants_of c.shift_remove_full.ensures.entries ∙ shown_without c.args.name.now c.args.tenants.now.entries

pub returns-clause-name : goal.returns-clause-name
returns-clause-name c =
    same_name c.args.name.now c.in-Some-shift_remove_full.name.items (lookup_key_passes (test c.args.name.now) c.args.tenants.now.entries c.in-Some-shift_remove_full.name (sym c.in-Some-shift_remove_full.ensures.key))

pub returns-clause-opening : goal.returns-clause-opening
returns-clause-opening c =
    shown c.args.name.now c.args.tenants.now.entries ∙ ap (option_map (λ (t : Tenant). t.opening)) (sym c.in-Some.ensures.value) ∙ ap Some (sym c.in_ok-ended.ensures.opening)
