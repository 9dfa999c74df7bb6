use Rattle.std.proofs.Common.{◌≡◌, ◌-◌, ◌∙◌, ℕ, List, ap, arith, drop, length, map, take, sym, subst}
use Rattle.std.specs.Prelude.{Some}
use Rattle.std.specs.List.{prefix_len}
use Rattle.std.proofs.lemmas.List.{length-drop}
use Rattle.chunk_list.specs.Chunked.{TurnsAt, position_of}
use Rattle.chunk_list.proofs.Turning.{turn}
use Rattle.chunk_list.proofs.Walks.{rest_whole}
use Rattle.key_index.specs.Links.{change_at}
use Rattle.revision_store.specs.Walking.{is_below}
use Rattle.revision_store.proofs.Walked.{found_at, shown_from, turning}
use Rattle.revision_store.proofs.walking.walk_from.Goals as goal

-- all from the place that was found
rest_of : (items : List ℕ) (at to count : ℕ) (walked : List ℕ) → walked ≡ take count (drop at items) → count ≡ to - at → to ≡ length items → walked ≡ drop at items
rest_of items at to count walked is counted end =
    let all : count ≡ length items - at = omega (arith, counted, end) in
    is ∙ ap (λ (k : ℕ). take k (drop at items)) all ∙ rest_whole at items

pub walk-requires : goal.walk-requires
walk-requires g c =
    let cells = g.R.Records.cells c.args.records.now in
    let items = c.args.order.now.items in
    let n = prefix_len (is_below cells c.args.revision) items in
    let turns = turn (is_below cells c.args.revision) items (turning cells c.args.revision items c.requires.rises c.requires.there) in
    let at = c.search_last-from.ensures.turn n turns in
    record {
      place_is = at.place_is;
      item_is = λ some. at.item_is (omega (arith, some, c.count_between-count.ensures, c.end.ensures.position_is, at.position_is));
      within = omega (arith, c.count_between-count.ensures, c.end.ensures.position_is, at.position_is, turns.in_range);
    }

pub returns-clause-few : goal.returns-clause-few
returns-clause-few g c =
    let items = c.args.order.now.items in
    let at = position_of c.args.order.now.sizes c.search_last-from.result in
    let rest = rest_of items at _ c.count_between-count.result c.walk.result c.walk.ensures c.count_between-count.ensures c.end.ensures.position_is in
    omega (arith, ap length rest, length-drop at items)

pub returns-clause-from : goal.returns-clause-from
returns-clause-from g c =
    let cells = g.R.Records.cells c.args.records.now in
    let items = c.args.order.now.items in
    let at = position_of c.args.order.now.sizes c.search_last-from.result in
    let rest = rest_of items at _ c.count_between-count.result c.walk.result c.walk.ensures c.count_between-count.ensures c.end.ensures.position_is in
    let n = prefix_len (is_below cells c.args.revision) items in
    let turns = turn (is_below cells c.args.revision) items (turning cells c.args.revision items c.requires.rises c.requires.there) in
    let here : TurnsAt (is_below cells c.args.revision) items at = subst (TurnsAt (is_below cells c.args.revision) items) (sym (c.search_last-from.ensures.turn n turns).position_is) turns in
    ap (map (change_at cells)) rest ∙ shown_from cells items at c.requires.there ∙ ap (map Some) (found_at cells c.args.revision items at here)
