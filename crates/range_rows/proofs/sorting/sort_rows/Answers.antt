use Rattle.std.proofs.Common.{rules}
use Rattle.std.specs.Ordering.{is_lt}
use Rattle.std.proofs.lemmas.List.Sorted.{ranks_by}
use Rattle.std.proofs.lemmas.Fn.{always_returns_same}
use Rattle.etcd_types.specs.declared.key_value.KeyValue.{KeyValue}
use Rattle.model_laws.proofs.SortingLaws.{sorted_is}
use Rattle.range_rows.specs.Taking.{row_order}
use Rattle.range_rows.proofs.SortingRows.{row_total}
use Rattle.range_rows.proofs.sorting.sort_rows.Goals as goal

pub returns : goal.returns
returns c =
    let q = c.args.request.now in
    let total = row_total q.sort_order q.sort_target in
    sorted_is (row_order q) total _ _ c.requires c.sort_unstable_by.ensures.permutation
    (c.sort_unstable_by.ensures.sorted (λ (a : KeyValue) (b : KeyValue). is_lt (row_order q a b)) (ranks_by total (λ (row : KeyValue). row)) (always_returns_same _ _ _ (λ a r g called. (search rules, search rules))))
