use Rattle.model_laws.proofs.AttachedLaws.{leased_ascend, leased_after_put, leased_after_delete, leased_by_ended, leased_by_others, leased_after_ends, run_out_has, leased_after_compaction, put_in_gap, put_in_place}
use Rattle.model_laws.proofs.attached_laws.Goals as goal

pub returns : goal.returns
returns c = record {
  leased_ascend = leased_ascend;
  leased_after_put = leased_after_put;
  leased_after_delete = leased_after_delete;
  leased_by_ended = leased_by_ended;
  leased_by_others = leased_by_others;
  leased_after_ends = leased_after_ends;
  run_out_has = run_out_has;
  leased_after_compaction = leased_after_compaction;
  put_in_gap = put_in_gap;
  put_in_place = put_in_place;
}
