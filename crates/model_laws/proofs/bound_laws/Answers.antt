use Rattle.model_laws.proofs.BoundLaws.{opening_has_revisions, write_has_revisions, finish_has_revisions, ends_have_revisions, compaction_has_revisions, end_has_a_revision, granted_are_leases, others_are_leases, later_are_leases, leases_end_by, grant_has_id}
use Rattle.model_laws.proofs.bound_laws.Goals as goal

pub returns : goal.returns
returns c = record {
  opening_has_revisions = opening_has_revisions;
  write_has_revisions = write_has_revisions;
  finish_has_revisions = finish_has_revisions;
  ends_have_revisions = ends_have_revisions;
  compaction_has_revisions = compaction_has_revisions;
  end_has_a_revision = end_has_a_revision;
  granted_are_leases = granted_are_leases;
  others_are_leases = others_are_leases;
  later_are_leases = later_are_leases;
  leases_end_by = leases_end_by;
  grant_has_id = grant_has_id;
}
