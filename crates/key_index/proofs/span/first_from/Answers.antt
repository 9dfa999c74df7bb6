use Rattle.std.proofs.Common.{refl, arith}
use Rattle.key_index.proofs.Spans.{from_at, from_gap}
use Rattle.key_index.proofs.span.first_from.Goals as goal

pub returns-in-Ok : goal.returns-in-Ok
returns-in-Ok g c =
    let item = c.in-Ok.ensures.item in
    record {
      place_is = record { place_is = record { chunk = item.chunk; offset = omega (arith, item.offset) }; position_is = refl; item_is = λ lt. item };
      from = from_at _ _ _ _ c.requires c.in-Ok.ensures.at;
    }

pub returns-in-Err : goal.returns-in-Err
returns-in-Err g c = record { place_is = c.in-Err.ensures.place_is; from = from_gap _ _ _ _ c.in-Err.ensures.gap }
