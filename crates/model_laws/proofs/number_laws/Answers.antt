use Rattle.model_laws.proofs.NumberLaws.{changes_have_numbers, kept_have_numbers, recorded_have_numbers, live_is_within}
use Rattle.model_laws.proofs.number_laws.Goals as goal

pub returns : goal.returns
returns c = record {
  changes_have_numbers = changes_have_numbers;
  kept_have_numbers = kept_have_numbers;
  recorded_have_numbers = recorded_have_numbers;
  live_is_within = live_is_within;
}
