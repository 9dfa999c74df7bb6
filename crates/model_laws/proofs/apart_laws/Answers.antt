use Rattle.model_laws.proofs.ApartLaws.{changes_apart, kept_apart, recorded_apart, last_of_own, kept_by_last}
use Rattle.model_laws.proofs.apart_laws.Goals as goal

pub returns : goal.returns
returns c = record {
  changes_apart = changes_apart;
  kept_apart = kept_apart;
  recorded_apart = recorded_apart;
  last_of_own = last_of_own;
  kept_by_last = kept_by_last;
}
