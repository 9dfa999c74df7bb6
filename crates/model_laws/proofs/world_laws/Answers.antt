use Rattle.std.proofs.lemmas.List.Elements.{filter-append}
use Rattle.etcd_model.specs.Alone.{is_own}
use Rattle.model_laws.proofs.WorldLaws.{own_of_own, two_worlds}
use Rattle.model_laws.proofs.world_laws.Goals as goal

pub returns : goal.returns
returns c = record {
  own_of_own = own_of_own;
  own_of_appended = λ tenant. filter-append (is_own tenant);
  two_worlds = two_worlds;
}
