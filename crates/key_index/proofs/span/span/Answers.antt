use Rattle.std.proofs.Common.{◌≡◌, ℕ, ◌+◌, subst, arith}
use Rattle.chunk_list.specs.Chunked.{position_of}
use Rattle.key_index.specs.Index.{IsSpan}
use Rattle.key_index.proofs.Spans.{span_at, span_gap, span_between}
use Rattle.key_index.proofs.span.span.Goals as goal

pub returns-in-Ok : goal.returns-in-Ok
returns-in-Ok g c =
    let item = c.in-Ok.ensures.item in
    record {
      items = record { place_is = record { chunk = item.chunk; offset = omega (arith, item.offset) }; item_is = λ some. item; within = omega (arith, c.in-Ok.ensures.at.in_range) };
      span = span_at _ _ c.args.key.now c.args.range_end.now (position_of c.args.heads.now.sizes c.in-Ok.place) (omega arith) c.requires c.in-Ok.ensures.at;
    }

pub returns-in-Err : goal.returns-in-Err
returns-in-Err g c =
    let at = position_of c.args.heads.now.sizes c.in-Err.place in
    let none : at ≡ at + 0 = omega arith in
    record {
      items = record { place_is = c.in-Err.ensures.place_is.place_is; item_is = λ some. absurd (omega (arith, some)); within = omega (arith, c.in-Err.ensures.gap.in_range) };
      span = subst (λ (n : ℕ). IsSpan (g.R.Records.cells c.args.records.now) c.args.heads.now.items c.args.key.now c.args.range_end.now at n) none (span_gap _ _ c.args.key.now c.args.range_end.now at (omega arith) c.in-Err.ensures.gap);
    }

pub returns-in_default : goal.returns-in_default
returns-in_default g c =
    let f = c.first_from-start.ensures in
    let t = c.end_of-end.ensures in
    let from = position_of c.args.heads.now.sizes c.first_from-start.result in
    let to = position_of c.args.heads.now.sizes c.end_of-end.result in
    let count = c.count_between.ensures in
    record {
      items = record { place_is = f.place_is.place_is; item_is = λ some. f.place_is.item_is (omega (arith, some, count, t.ends.in_range)); within = omega (arith, count, f.from.in_range, t.ends.in_range) };
      span = span_between _ _ c.args.key.now c.args.range_end.now from to (from + c.count_between.result) (omega arith) f.from t.ends (omega arith) (omega (arith, count)) (omega (arith, count, f.from.in_range, t.ends.in_range)) (λ below. omega (arith, below, count)) (λ above. omega (arith, above, count));
    }
