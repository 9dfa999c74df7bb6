use Rattle.std.specs.Prelude.{option_map}
use Rattle.std.proofs.Common.{◌∙◌, ap, refl, sym}
use Rattle.gateway_json.specs.Paths.{target_view}
use Rattle.gateway_http.proofs.routing.route.Goals as goal

pub returns-in_default-found : goal.returns-in_default-found
returns-in_default-found g c = (
  (target_view c.in-Some.target).tenant,
  c.in-Some-call_of.call,
  record {
    place = target_view c.in-Some.target;
    found = sym c.target_of.ensures ∙ ap (λ t. option_map target_view t) c.in-Some.is;
    whose = refl;
    named = sym c.call_of.ensures ∙ c.in-Some-call_of.is;
  },
)
