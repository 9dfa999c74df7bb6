use Rattle.std.proofs.Common.{rules, ◌≡◌, ◌+◌, ◌<◌, true, false, get_or, length, sym, ap, subst, arith, ◌∙◌}
use Rattle.std.proofs.lemmas.List.{get_or_default, length-set}
use Rattle.chunk_list.specs.Chunked.{HasItem, position_of}
use Rattle.key_index.specs.Compaction.{Remains}
use Rattle.key_index.proofs.Costs.{gives_then}
use Rattle.key_index.proofs.Chains.{going_done, going_newest, going_dropped, going_kept}
use Rattle.key_index.proofs.compaction.cut_chains.Goals.{then-cut_chain, else-cut_chain}
use Rattle.key_index.proofs.compaction.cut_chains.Goals as goal

pub cut_chain-requires-clause-newest : goal.cut_chain-requires-clause-newest
cut_chain-requires-clause-newest g c =
    let xs = c.cutting.heads.items in
    let within : c.cutting._read < length xs = omega (arith, c.len-read-end.ensures.len, c.cutting.invariant.length_is) in
    let lt : c.cutting._read < length c.args.heads.now.items = omega (arith, c.len-read-end.ensures.len) in
    let is = sym (c.get-head.ensures ∙ ap (λ n. get_or xs n c.get-head.result) c.cutting.invariant.read ∙ get_or_default xs c.cutting._read c.get-head.result 0 within) in
    going_newest (g.R.Records.cells c.args.records.now) (g.R.Records.cells c.cutting.records) c.args.heads.now.items xs c.args.revision (position_of c.cutting.heads.sizes c.cutting.left) c.cutting._read c.requires.newest c.cutting.invariant.length_is c.cutting.invariant.going c.get-head.result lt is

pub cutting-preserved : goal.cutting-preserved
cutting-preserved g c =
    let m = g.R.Records.cells c.args.records.now in
    let now = g.R.Records.cells c.cutting.records in
    let new = g.R.Records.cells c.cut_chain.new.records in
    let xs = c.cutting.heads.items in
    let h = c.get-head.result in
    let k = position_of c.cutting.heads.sizes c.cutting.left in
    let going = c.cutting.invariant.going in
    let within : c.cutting._read < length xs = omega (arith, c.len-read-end.ensures.len, c.cutting.invariant.length_is) in
    let lt : c.cutting._read < length c.args.heads.now.items = omega (arith, c.len-read-end.ensures.len) in
    let is = sym (c.get-head.ensures ∙ ap (λ n. get_or xs n h) c.cutting.invariant.read ∙ get_or_default xs c.cutting._read h 0 within) in
    let gives = gives_then g.R.RecordsMut.cost m now (g.R.RecordsMut.free c.args.records.now) (g.R.RecordsMut.free c.cutting.records) c.cutting.invariant.gives new (g.R.RecordsMut.free c.cut_chain.new.records) (λ b e has. let f = going.so_far.back b e has in (f.0, f.1)) c.cut_chain.ensures.free in
    let rest = g.met.R.RecordsMut.joins _ _ _ c.cutting.invariant.rest c.cut_chain.ensures.rest in
    elim c.if-cut_chain.branch [
      | then-cut_chain w ↦
          let left : c.cut_chain.result ≡ true = first_of (cc, search rules) in
          let n = ap length w.set.ensures.items ∙ length-set xs k h in
          let s = ap (λ ys. position_of ys c.next-read.result) w.set.ensures.sizes in
          let t = ap (λ ys. position_of ys c.cutting.left) w.set.ensures.sizes in
          let at : position_of w.set.new.self.sizes w.next-left.result ≡ k + 1 = omega (arith, w.next-left.ensures.position_is, t) in
          let goes = going_kept m now c.args.heads.now.items xs c.args.revision k c.cutting._read c.requires.newest c.cutting.invariant.length_is going h lt is new c.cut_chain.ensures.compacted (λ e there. subst (Remains new e.change.key h) left (c.cut_chain.ensures.remains e there)) in
          rw (w.heads-is, w.left-is) (record {
            going = rw (w.set.ensures.items, at) goes;
            length_is = n ∙ c.cutting.invariant.length_is;
            room = w.set.ensures.room ∙ c.cutting.invariant.room;
            read = omega (arith, s, c.next-read.ensures.position_is, c.cutting.invariant.read);
            read_is = λ more. subst (λ ys. HasItem ys c.next-read.result) (sym w.set.ensures.sizes) (c.next-read.ensures.item_is (omega (arith, more, n, c.cutting.invariant.read)));
            left_in = w.next-left.ensures.place_is;
            left_is = λ more. w.next-left.ensures.item_is (omega (arith, more, w.next-left.ensures.position_is));
            chained = c.cut_chain.ensures.chained;
            gives = gives;
            rest = rest;
          })
      | else-cut_chain w ↦
          let none : c.cut_chain.result ≡ false = first_of (cc, search rules) in
          let goes = going_dropped m now c.args.heads.now.items xs c.args.revision k c.cutting._read c.requires.newest c.cutting.invariant.length_is going h lt is new c.cut_chain.ensures.compacted (λ e there. subst (Remains new e.change.key h) none (c.cut_chain.ensures.remains e there)) in
          rw (w.heads-is, w.left-is) (record {
            going = goes;
            length_is = c.cutting.invariant.length_is;
            room = c.cutting.invariant.room;
            read = omega (arith, c.next-read.ensures.position_is, c.cutting.invariant.read);
            read_is = λ more. c.next-read.ensures.item_is (omega (arith, more, c.cutting.invariant.read));
            left_in = c.cutting.invariant.left_in;
            left_is = c.cutting.invariant.left_is;
            chained = c.cut_chain.ensures.chained;
            gives = gives;
            rest = rest;
          })
    ]

pub returns-clause-done : goal.returns-clause-done
returns-clause-done g c =
    going_done (g.R.Records.cells c.args.records.now) (g.R.Records.cells c.cutting.records) c.args.heads.now.items c.cutting.heads.items c.args.revision (position_of c.cutting.heads.sizes c.cutting.left) c.cutting._read c.requires.newest c.cutting.invariant.length_is c.cutting.invariant.going (omega (arith, c.len-read-end.ensures.len)) (omega (arith, c.len-read-end.ensures.len))
