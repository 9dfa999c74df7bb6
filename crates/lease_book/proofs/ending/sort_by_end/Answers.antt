use Rattle.std.proofs.Common.{rules}
use Rattle.std.specs.Ordering.{is_lt}
use Rattle.std.proofs.lemmas.List.Sorted.{ranks_by}
use Rattle.std.proofs.lemmas.Fn.{always_returns_same}
use Rattle.etcd_model.specs.declared.state.Lease.{Lease}
use Rattle.etcd_model.specs.Leases.{end_cmp}
use Rattle.model_laws.proofs.LeaseLaws.{end_cmp_total}
use Rattle.lease_book.proofs.Ended.{sorted_ends}
use Rattle.lease_book.proofs.ending.sort_by_end.Goals as goal

pub returns : goal.returns
returns c =
    sorted_ends _ _ c.requires c.sort_unstable_by.ensures.permutation
    (c.sort_unstable_by.ensures.sorted (λ (a : Lease) (b : Lease). is_lt (end_cmp a b)) (ranks_by end_cmp_total (λ (l : Lease). l)) (always_returns_same _ _ _ (λ a r g called. (search rules, search rules))))
