use Rattle.std.proofs.Common.{◌≡◌, ℕ, ◌<◌, length, IsSome, refl, sym, subst, ◌∙◌, rules, arith}
use Rattle.std.specs.List.{prefix_len}
use Rattle.std.proofs.lemmas.List.{get_or_default}
use Rattle.chunk_list.specs.Chunked.{HasItem, TurnsAt, position_of}
use Rattle.chunk_list.proofs.Turning.{turn}
use Rattle.etcd_model.specs.Order.{key_cmp}
use Rattle.key_index.specs.Sought.{comes_before, sought_key}
use Rattle.key_index.proofs.Links.{is_some_from, at_equal, at_linked, told}
use Rattle.key_index.proofs.Turned.{failing, gap_at}
use Rattle.key_index.proofs.search.search.Goals as goal

pub search-place-requires : goal.search-place-requires
search-place-requires g c k d lt =
    let there = c.requires.spread.some k lt in
    let is = get_or_default c.args.heads.now.items k d 0 lt in (
      subst (λ (b : ℕ). IsSome (g.R.Records.cells c.args.records.now b)) (sym is) (is_some_from _ there.0 there.1),
      c.requires.sought,
    )

pub returns-then-not-has_item : goal.returns-then-not-has_item
returns-then-not-has_item g c =
    let cells = g.R.Records.cells c.args.records.now in
    let key = sought_key cells c.args.sought.now in
    let items = c.args.heads.now.items in
    let place = c.search-place.result in
    let n = prefix_len (comes_before cells key) items in
    let turns = turn (comes_before cells key) items (failing cells key items c.requires.spread) in
    let at = c.search-place.ensures.turn n turns in
    let gap = gap_at cells key items c.requires.spread n turns (λ e lt has same. (
    let item : HasItem c.args.heads.now.sizes place = at.item_is lt in
    let bad : ⊥ = search rules in
    bad)) in
    record {
      place_is = record { place_is = at.place_is; position_is = refl; item_is = λ lt. at.item_is (omega (arith, lt, at.position_is)) };
      gap = rw at.position_is gap;
    }

pub stands-requires-clause-head : goal.stands-requires-clause-head
stands-requires-clause-head g c =
    let items = c.args.heads.now.items in
    let at = position_of c.args.heads.now.sizes c.search-place.result in
    let lt : at < length items = search rules in
    let there = c.requires.spread.some at lt in
    let is = c.get.ensures ∙ get_or_default items at c.get.result 0 lt in
    subst (λ (b : ℕ). IsSome (g.R.Records.cells c.args.records.now b)) (sym is) (is_some_from _ there.0 there.1)

pub returns-in-Equal : goal.returns-in-Equal
returns-in-Equal g c =
    let cells = g.R.Records.cells c.args.records.now in
    let key = sought_key cells c.args.sought.now in
    let items = c.args.heads.now.items in
    let at = position_of c.args.heads.now.sizes c.search-place.result in
    let lt : at < length items = search rules in
    let item : HasItem c.args.heads.now.sizes c.search-place.result = search rules in
    record {
      item = item;
      at = record {
        in_range = lt;
        of_key = at_equal cells items key at c.stands.result c.requires.spread lt (told cells items key at c.get.result c.stands.result lt c.get.ensures c.stands.ensures) c.in-Equal.is;
      };
    }

pub returns-in_default : goal.returns-in_default
returns-in_default g c =
    let cells = g.R.Records.cells c.args.records.now in
    let key = sought_key cells c.args.sought.now in
    let items = c.args.heads.now.items in
    let place = c.search-place.result in
    let q = position_of c.args.heads.now.sizes place in
    let lt : q < length items = search rules in
    let n = prefix_len (comes_before cells key) items in
    let turns = turn (comes_before cells key) items (failing cells key items c.requires.spread) in
    let at = c.search-place.ensures.turn n turns in
    let turns_here : TurnsAt (comes_before cells key) items q = rw at.position_is turns in
    let says = told cells items key q c.get.result c.stands.result lt c.get.ensures c.stands.ensures in
    record {
      place_is = record { place_is = at.place_is; position_is = refl; item_is = λ lt. at.item_is (omega (arith, lt, at.position_is)) };
      gap = gap_at cells key items c.requires.spread q turns_here (λ e within has same. c.in_default.not-Equal (at_linked _ (λ x. c.stands.result ≡ key_cmp x.change.key key) e has says ∙ same));
    }
