-- A compaction of the live heads, and then of the others.
use Rattle.std.proofs.Common.{◌≡◌, ◌≢◌, ℕ, ◌<◌, List, length, get_or, Some, Bool, true, false, refl, sym, ap, subst, ◌∙◌, arith}
use Rattle.std.specs.Prelude.{not, filter}
use Rattle.std.proofs.lemmas.List.Elements.{filter_passes}
use Rattle.key_index.specs.Links.{Cells, Linked, IsChained, IsNewest}
use Rattle.key_index.specs.Index.{AreParted, is_kind, is_put_of}
use Rattle.key_index.specs.Compaction.{AreDone, IsBehindNone, IsCompacted, IsDone, IsUntouched}
use Rattle.key_index.proofs.Links.{one_linked}
use Rattle.key_index.proofs.Parting.{filter_place}
use Rattle.key_index.proofs.Parted.{these_newest, others_newest}
use Rattle.key_index.proofs.Whole.{key_of, still_done, then_done}

-- two newest records of one key are one
one_newest : (cells : Cells) → IsChained cells → (a b : ℕ) (n : IsNewest cells a) (l : IsNewest cells b) → n.0.change.key ≡ l.0.change.key → a ≡ b
one_newest cells chained a b n l same =
    let up = l.2 a n.0 n.1 same in
    let down = n.2 b l.0 l.1 (sym same) in
    chained.unique a b n.0 l.0 n.1 l.1 same (omega (arith, up, down))

module _ (old mid new : Cells) (revision : ℕ) (live dead : List ℕ) (chained : IsChained old) (parted : AreParted old true live dead) (first : AreDone old mid live revision (length live)) (second : AreDone mid new dead revision (length dead)) where
  -- no key is both of a live head and of another one
  apart : (i j : ℕ) → i < length live → j < length dead → (e f : Linked) → old (get_or live i 0) ≡ Some e → old (get_or dead j 0) ≡ Some f → e.change.key ≢ f.change.key
  apart i j lt_i lt_j e f has_e has_f same =
      let n = (these_newest old true live dead parted).newest i lt_i in
      let l = (others_newest old true live dead parted).newest j lt_j in
      let key_e = ap (λ (x : Linked). x.change.key) (one_linked (old (get_or live i 0)) n.0 e n.1 has_e) in
      let key_f = ap (λ (x : Linked). x.change.key) (one_linked (old (get_or dead j 0)) l.0 f l.1 has_f) in
      let one : get_or live i 0 ≡ get_or dead j 0 = one_newest old chained (get_or live i 0) (get_or dead j 0) n l (key_e ∙ same ∙ sym key_f) in
      let lt_h : i < length (filter (is_kind old true) parted.heads) = omega (arith, lt_i, ap length parted.these_are) in
      let lt_d : j < length (filter (is_kind old false) parted.heads) = omega (arith, lt_j, ap length parted.others_are) in
      let put : is_put_of (old (get_or live i 0)) ≡ true = subst (λ (xs : List ℕ). is_put_of (old (get_or xs i 0)) ≡ true) (sym parted.these_are) (filter_passes (is_kind old true) parted.heads i 0 lt_h) in
      let none : not (is_put_of (old (get_or dead j 0))) ≡ true = subst (λ (xs : List ℕ). not (is_put_of (old (get_or xs j 0))) ≡ true) (sym parted.others_are) (filter_passes (is_kind old false) parted.heads j 0 lt_d) in
      let there : is_put_of (old (get_or dead j 0)) ≡ true = subst (λ (x : ℕ). is_put_of (old x) ≡ true) one put in
      let not_none : not (is_put_of (old (get_or dead j 0))) ≡ false = ap not there in
      cc (none, not_none)

  live_done : (key : List ℕ) (i : ℕ) (e : Linked) → i < length live → old (get_or live i 0) ≡ Some e → e.change.key ≡ key → IsDone old new revision key
  live_done key i e lt has is =
      let none : IsBehindNone mid dead (length dead) key = λ j f lt_j has_f same. (
      let b = first.back (get_or dead j 0) f has_f in
      apart i j lt lt_j e b.0 has b.1 (is ∙ sym same ∙ sym (key_of b.0 f b.2))) in
      subst (IsDone old new revision) is (still_done old mid new revision e.change.key (first.done i e lt has) (subst (IsUntouched mid new) (sym is) (second.others key none)))

  dead_done : (key : List ℕ) (j : ℕ) (f : Linked) → j < length dead → old (get_or dead j 0) ≡ Some f → f.change.key ≡ key → IsDone old new revision key
  dead_done key j f lt has is =
      let none : IsBehindNone old live (length live) key = λ i e lt_i has_e same. apart i j lt_i lt e f has_e has (same ∙ sym is) in
      let untouched = first.others key none in
      let there = untouched.there (get_or dead j 0) f has is in
      then_done old mid new revision key untouched (subst (IsDone mid new revision) is (second.done j f lt there))

  each_done : (key : List ℕ) (c : ℕ) (e : Linked) → old c ≡ Some e → e.change.key ≡ key → IsDone old new revision key
  each_done key c e has is =
      let w = parted.are.whole c e has in
      by (is_put_of (old (get_or parted.heads w.0 0))) w.0 refl w.1 w.2.0 w.2.1 (w.2.2 ∙ is)
    where
      by : (b : Bool) (j : ℕ) → is_put_of (old (get_or parted.heads j 0)) ≡ b → j < length parted.heads → (f : Linked) → old (get_or parted.heads j 0) ≡ Some f → f.change.key ≡ key → IsDone old new revision key
      by true j kind lt f at same =
          let k = filter_place (is_kind old true) parted.heads j lt kind in
          let here : get_or live k.0 0 ≡ get_or parted.heads j 0 = ap (λ (xs : List ℕ). get_or xs k.0 0) parted.these_are ∙ k.2 in
          live_done key k.0 f (omega (arith, k.1, ap length parted.these_are)) (subst (λ (x : ℕ). old x ≡ Some f) (sym here) at) same
      by false j kind lt f at same =
          let k = filter_place (is_kind old false) parted.heads j lt (ap not kind) in
          let here : get_or dead k.0 0 ≡ get_or parted.heads j 0 = ap (λ (xs : List ℕ). get_or xs k.0 0) parted.others_are ∙ k.2 in
          dead_done key k.0 f (omega (arith, k.1, ap length parted.others_are)) (subst (λ (x : ℕ). old x ≡ Some f) (sym here) at) same

  pub both_compacted : IsCompacted old new revision
  both_compacted = record {
    stays = λ c e has kept. (each_done e.change.key c e has refl).stays c e has refl kept;
    only = λ c e has.
        let f = second.back c e has in
        let g = first.back c f.0 f.1 in
        (each_done e.change.key c g.0 g.1 (key_of g.0 f.0 g.2 ∙ key_of f.0 e f.2)).only c e has refl;
  }
