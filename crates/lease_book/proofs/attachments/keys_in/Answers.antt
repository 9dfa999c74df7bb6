use Rattle.std.proofs.Common.{◌≡◌, take, drop, map, sym, ap, ◌∙◌, arith, rules}
use Rattle.std.proofs.lemmas.List.Sums.{prefix_len-le-length}
use Rattle.std.specs.Prelude.{int_le}
use Rattle.chunk_list.specs.Chunked.{position_of}
use Rattle.lease_book.specs.declared.attachments.Attachment.{Attachment}
use Rattle.lease_book.specs.Attached.{keys_below, keys_up_to}
use Rattle.lease_book.proofs.Stretch.{below_within, stretch}
use Rattle.lease_book.proofs.attachments.keys_in.Goals as goal

pub walk-requires : goal.walk-requires
walk-requires c =
    let list = c.args.list.now in
    let low : position_of list.sizes c.first_of-first.result ≡ keys_below list.items c.args.id = search rules in
    let high : position_of list.sizes c.end_of.result ≡ keys_up_to list.items c.args.id = search rules in
    let all = prefix_len-le-length (λ (a : Attachment). int_le a.id c.args.id) list.items in
    record {
      place_is = c.first_of-first.ensures.place_is;
      item_is = λ some. c.first_of-first.ensures.item_is (omega (arith, c.first_of-first.ensures.position_is, high, all, c.count_between-count.ensures, some));
      within = omega (arith, low, high, all, below_within c.args.id list.items, c.count_between-count.ensures);
    }

pub returns : goal.returns
returns c =
    let list = c.args.list.now in
    let count = c.count_between-count.result in
    let low : position_of list.sizes c.first_of-first.result ≡ keys_below list.items c.args.id = search rules in
    let high : position_of list.sizes c.end_of.result ≡ keys_up_to list.items c.args.id = search rules in
    let is = stretch c.args.id list.items count c.requires (omega (arith, low, high, below_within c.args.id list.items, c.count_between-count.ensures)) in
    ap (map (λ (a : Attachment). a.head)) (c.walk.ensures ∙ ap (λ n. take count (drop n list.items)) low ∙ sym is)
