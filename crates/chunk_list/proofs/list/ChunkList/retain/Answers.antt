use Rattle.std.proofs.Common.{arith, ◌≡◌, true, false, length, get_or, sym, ap, subst, ◌∙◌}
use Rattle.std.proofs.lemmas.List.{length-set}
use Rattle.std.proofs.lemmas.List.Filters.{FiltersInPlace-more_no}
use Rattle.chunk_list.specs.Chunked.{position_of, HasItem}
use Rattle.chunk_list.proofs.Walks.{kept_read, kept_more}
use Rattle.chunk_list.proofs.list.ChunkList.retain.Goals as goal
use Rattle.chunk_list.proofs.list.ChunkList.retain.Goals.{then-holds, else-holds}

pub holds-requires : goal.holds-requires
holds-requires g c =
    let test = g.S.Test.test c.args.test.now in
    let read : c.get-item.result ≡ get_or c.keeping.self.items c.keeping._read c.get-item.result = c.get-item.ensures ∙ ap (λ n. get_or c.keeping.self.items n c.get-item.result) c.keeping.invariant.read in
    let e : c.get-item.result ≡ get_or c.args.self.now.items c.keeping._read c.get-item.result = read ∙ kept_read test c.args.self.now.items c.keeping.self.items _ c.keeping._read c.get-item.result c.keeping.invariant.kept in
    subst (g.S.Test.can c.args.test.now) (sym e) (c.requires c.keeping._read c.get-item.result (omega arith))

pub keeping-preserved : goal.keeping-preserved
keeping-preserved g c =
    let test = g.S.Test.test c.args.test.now in
    let read = c.get-item.ensures ∙ ap (λ n. get_or c.keeping.self.items n c.get-item.result) c.keeping.invariant.read in
    elim c.if-holds.branch [
      | then-holds w ↦
          let holds : test c.get-item.result ≡ true = cc in
          let n = ap length w.set.ensures.items ∙ length-set c.keeping.self.items (position_of c.keeping.self.sizes c.keeping.write) c.get-item.result in
          let s = ap (λ xs. position_of xs c.next-read.result) w.set.ensures.sizes in
          let t = ap (λ xs. position_of xs c.keeping.write) w.set.ensures.sizes in
          rw (w.self-is, w.write-is) (record {
            room = w.set.ensures.room ∙ c.keeping.invariant.room;
            kept = kept_more test c.args.self.now.items c.keeping.self.items w.set.new.self.items (position_of c.keeping.self.sizes c.keeping.write) _ c.keeping._read c.get-item.result c.keeping.invariant.kept (omega (arith, c.keeping.invariant.kept.long)) holds read w.set.ensures.items (omega (arith, w.next-write.ensures.position_is, t));
            read = omega (arith, s, c.next-read.ensures.position_is, c.keeping.invariant.read);
            read_is = λ h. subst (λ xs. HasItem xs c.next-read.result) (sym w.set.ensures.sizes) (c.next-read.ensures.item_is (omega (arith, h, n, c.keeping.invariant.read)));
            write_in = w.next-write.ensures.place_is;
            write_is = λ h. w.next-write.ensures.item_is (omega (arith, h, w.next-write.ensures.position_is));
          })
      | else-holds w ↦
          let fails : test c.get-item.result ≡ false = cc in
          rw (w.self-is, w.write-is) (record {
            room = c.keeping.invariant.room;
            kept = FiltersInPlace-more_no c.keeping.invariant.kept (omega (arith, c.keeping.invariant.kept.long)) fails read;
            read = omega (arith, c.next-read.ensures.position_is, c.keeping.invariant.read);
            read_is = λ h. c.next-read.ensures.item_is (omega (arith, h, c.keeping.invariant.read));
            write_in = c.keeping.invariant.write_in;
            write_is = c.keeping.invariant.write_is;
          })
    ]

pub keeping-smaller : goal.keeping-smaller
keeping-smaller g c =
    omega arith
