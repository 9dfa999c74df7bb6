use Rattle.std.proofs.Common.{◌≡◌, ◌⊎◌, inl, inr, drop, ◌∙◌, arith}
use Rattle.std.specs.Ordering.{nat_cmp}
use Rattle.std.specs.Cmp.Lexicographic.{slice_cmp}
use Rattle.cell_arena.specs.Chain.{chain_bytes}
use Rattle.cell_arena.specs.Part.{part_bytes}
use Rattle.cell_arena.specs.Table.{table_at}
use Rattle.cell_arena.proofs.Comparing.{fronts_here, fronts_all, fronts_ended, part_size}
use Rattle.cell_arena.proofs.reading.compare_fronts.Goals as goal
use Rattle.cell_arena.proofs.reading.compare_fronts.Goals.{then-comparing-test+else-right-gt0, else-comparing-test}

pub returns-in_default : goal.returns-in_default
returns-in_default c =
    let at = table_at c.args.table.now in
    let one = c.first_piece-rest in
    let other = c.first_piece-other_rest in
    fronts_all (part_bytes at c.comparing.left) (part_bytes at c.comparing.right) one.result.0.now (drop one.result.1.from (chain_bytes at one.result.1.cells one.result.1.first)) other.result.0.now (drop other.result.1.from (chain_bytes at other.result.1.cells other.result.1.first)) c.comparing.left.count c.comparing.right.count one.result.1.count other.result.1.count (slice_cmp nat_cmp (part_bytes at c.args.one) (part_bytes at c.args.other)) c.cmp.result c.comparing.invariant.same one.ensures.bytes other.ensures.bytes one.ensures.size other.ensures.size one.ensures.count other.ensures.count c.cmp.ensures c.in_default.not-Equal

pub comparing-preserved : goal.comparing-preserved
comparing-preserved c =
    let at = table_at c.args.table.now in
    let one = c.first_piece-rest in
    let other = c.first_piece-other_rest in
    record {
      left = one.ensures.part;
      left_front = one.ensures.front;
      right = other.ensures.part;
      right_front = other.ensures.front;
      same = fronts_here (part_bytes at c.comparing.left) (part_bytes at c.comparing.right) one.result.0.now (drop one.result.1.from (chain_bytes at one.result.1.cells one.result.1.first)) other.result.0.now (drop other.result.1.from (chain_bytes at other.result.1.cells other.result.1.first)) c.comparing.left.count c.comparing.right.count one.result.1.count other.result.1.count (slice_cmp nat_cmp (part_bytes at c.args.one) (part_bytes at c.args.other)) c.cmp.result c.comparing.invariant.same one.ensures.bytes other.ensures.bytes one.ensures.size other.ensures.size one.ensures.count other.ensures.count c.cmp.ensures c.in-Equal.is;
    }

pub returns : goal.returns
returns c =
    let at = table_at c.args.table.now in
    let ended : (c.comparing.left.count ≡ 0) ⊎ (c.comparing.right.count ≡ 0) = elim c.comparing-test.branch [ then-comparing-test+else-right-gt0 w ↦ inr (omega arith) | else-comparing-test w ↦ inl (omega arith) ] in
    c.cmp-2.ensures
    ∙ fronts_ended (part_bytes at c.comparing.left) (part_bytes at c.comparing.right) _ _ (part_size at c.comparing.left c.comparing.invariant.left) (part_size at c.comparing.right c.comparing.invariant.right) ended
    ∙ c.comparing.invariant.same
