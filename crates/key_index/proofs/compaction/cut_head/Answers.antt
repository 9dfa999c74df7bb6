use Rattle.std.proofs.Common.{◌≡◌, ℕ, List, Some, true, false, sym, subst, ◌∙◌, arith, rules}
use Rattle.std.specs.List.{insert, remove}
use Rattle.std.proofs.lemmas.List.{get_or_default}
use Rattle.std.proofs.lemmas.List.Edits.{length-remove}
use Rattle.chunk_list.specs.Chunked.{position_of}
use Rattle.key_index.specs.Links.{IsNewest}
use Rattle.key_index.specs.Index.{AreParted}
use Rattle.key_index.specs.Compaction.{IsCompactedAt, Remains}
use Rattle.key_index.proofs.Parting.{insert_back}
use Rattle.key_index.proofs.Whole.{parted_dropped, parted_kept}
use Rattle.key_index.proofs.compaction.cut_head.Goals as goal

pub cut_chain-requires-clause-newest : goal.cut_chain-requires-clause-newest
cut_chain-requires-clause-newest g c =
    let xs = c.args.heads.now.items in
    let k = position_of c.args.heads.now.sizes c.args.place in
    let is = c.get-head.ensures ∙ get_or_default xs k c.get-head.result 0 c.requires.within in
    subst (IsNewest (g.R.Records.cells c.args.records.now)) (sym is) (c.requires.newest.newest k c.requires.within)

pub returns-then-not-cut_chain-clause-parted : goal.returns-then-not-cut_chain-clause-parted
returns-then-not-cut_chain-clause-parted g c = λ put others parted.
    let m = g.R.Records.cells c.args.records.now in
    let new = g.R.Records.cells c.cut_chain.new.records in
    let xs = c.args.heads.now.items in
    let h = c.get-head.result in
    let k = position_of c.args.heads.now.sizes c.args.place in
    let is = c.get-head.ensures ∙ get_or_default xs k h 0 c.requires.within in
    let n = c.requires.newest.newest k c.requires.within in
    let at : m h ≡ Some n.0 = subst (λ (x : ℕ). m x ≡ Some n.0) (sym is) n.1 in
    let back : insert (remove xs k) k h ≡ xs = insert_back xs k h c.requires.within (sym is) in
    let long = length-remove xs k c.requires.within in
    let none : c.cut_chain.result ≡ false = search rules in
    let left = subst (Remains new n.0.change.key h) none (c.cut_chain.ensures.remains n.0 at) in
    rw c.remove.ensures.items (parted_dropped m new c.args.revision n.0 (c.cut_chain.ensures.compacted n.0 at) put (remove xs k) others k h (omega (arith, long, c.requires.within)) (subst (λ (ys : List ℕ). AreParted m put ys others) (sym back) parted) at left)

pub returns-then-not-cut_chain-clause-compacted : goal.returns-then-not-cut_chain-clause-compacted
returns-then-not-cut_chain-clause-compacted g c = λ key of.
    let m = g.R.Records.cells c.args.records.now in
    let k = position_of c.args.heads.now.sizes c.args.place in
    let is = c.get-head.ensures ∙ get_or_default c.args.heads.now.items k c.get-head.result 0 c.requires.within in
    let at : m c.get-head.result ≡ Some of.0 = subst (λ (x : ℕ). m x ≡ Some of.0) (sym is) of.1 in
    subst (IsCompactedAt m (g.R.Records.cells c.cut_chain.new.records) c.args.revision) of.2 (c.cut_chain.ensures.compacted of.0 at)

pub returns-else-not-cut_chain-clause-parted : goal.returns-else-not-cut_chain-clause-parted
returns-else-not-cut_chain-clause-parted g c = λ put others parted.
    let m = g.R.Records.cells c.args.records.now in
    let new = g.R.Records.cells c.cut_chain.new.records in
    let xs = c.args.heads.now.items in
    let h = c.get-head.result in
    let k = position_of c.args.heads.now.sizes c.args.place in
    let is = c.get-head.ensures ∙ get_or_default xs k h 0 c.requires.within in
    let n = c.requires.newest.newest k c.requires.within in
    let at : m h ≡ Some n.0 = subst (λ (x : ℕ). m x ≡ Some n.0) (sym is) n.1 in
    let back : insert (remove xs k) k h ≡ xs = insert_back xs k h c.requires.within (sym is) in
    let long = length-remove xs k c.requires.within in
    let some : c.cut_chain.result ≡ true = search rules in
    let left = subst (Remains new n.0.change.key h) some (c.cut_chain.ensures.remains n.0 at) in
    subst (λ (ys : List ℕ). AreParted new put ys others) back (parted_kept m new c.args.revision n.0 (c.cut_chain.ensures.compacted n.0 at) put (remove xs k) others k h (omega (arith, long, c.requires.within)) (subst (λ (ys : List ℕ). AreParted m put ys others) (sym back) parted) at left)

pub returns-else-not-cut_chain-clause-compacted : goal.returns-else-not-cut_chain-clause-compacted
returns-else-not-cut_chain-clause-compacted g c = λ key of.
    let m = g.R.Records.cells c.args.records.now in
    let k = position_of c.args.heads.now.sizes c.args.place in
    let is = c.get-head.ensures ∙ get_or_default c.args.heads.now.items k c.get-head.result 0 c.requires.within in
    let at : m c.get-head.result ≡ Some of.0 = subst (λ (x : ℕ). m x ≡ Some of.0) (sym is) of.1 in
    subst (IsCompactedAt m (g.R.Records.cells c.cut_chain.new.records) c.args.revision) of.2 (c.cut_chain.ensures.compacted of.0 at)
