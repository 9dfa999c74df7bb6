use Rattle.std.proofs.Common.{◌≡◌, ℕ, ◌<◌, length, IsSome, sym, subst, ◌∙◌, rules}
use Rattle.std.proofs.lemmas.List.{get_or_default}
use Rattle.chunk_list.specs.Chunked.{HasItem, position_of}
use Rattle.key_index.specs.Sought.{sought_key}
use Rattle.key_index.proofs.Links.{is_some_from, at_equal, told}
use Rattle.key_index.proofs.search.search_near.Goals as goal

pub stands-requires-clause-head : goal.stands-requires-clause-head
stands-requires-clause-head g c =
    let items = c.args.heads.now.items in
    let at = position_of c.args.heads.now.sizes c.args.near in
    let lt : at < length items = search rules in
    let there = c.requires.spread.some at lt in
    let is = c.get.ensures ∙ get_or_default items at c.get.result 0 lt in
    subst (λ (b : ℕ). IsSome (g.R.Records.cells c.args.records.now b)) (sym is) (is_some_from _ there.0 there.1)

pub returns-in-Equal : goal.returns-in-Equal
returns-in-Equal g c =
    let cells = g.R.Records.cells c.args.records.now in
    let key = sought_key cells c.args.sought.now in
    let items = c.args.heads.now.items in
    let at = position_of c.args.heads.now.sizes c.args.near in
    let lt : at < length items = search rules in
    let item : HasItem c.args.heads.now.sizes c.args.near = search rules in
    record {
      item = item;
      at = record {
        in_range = lt;
        of_key = at_equal cells items key at c.stands.result c.requires.spread lt (told cells items key at c.get.result c.stands.result lt c.get.ensures c.stands.ensures) c.in-Equal.is;
      };
    }
