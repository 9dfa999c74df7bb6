-- All chains, one after another.
use Rattle.std.proofs.Common.{◌≡◌, ℕ, suc, ◌+◌, ◌<◌, ◌≤◌, List, [], ◌∷◌, ◌++◌, length, get_or, set, take, drop, Some, Bool, true, false, sym, ap, ◌∙◌, refl, subst, arith, inl, inr, append_assoc, get_or-set_other}
use Rattle.std.specs.List.{insert}
use Rattle.std.proofs.Math.Seq.{take-suc-set, drop-cons}
use Rattle.std.proofs.lemmas.Bool.{cases_eq}
use Rattle.std.proofs.lemmas.List.{drop-set-lt, length-take-le, length-append, take-append-drop}
use Rattle.key_index.specs.Links.{Cells, Linked, IsNewest}
use Rattle.key_index.specs.Index.{AreNewest, AreParted, StayParted}
use Rattle.key_index.specs.Compaction.{AreDone, IsBehindNone, IsDone, IsCompactedAt, IsUntouched, Remains}
use Rattle.key_index.proofs.Links.{one_linked, not_less}
use Rattle.key_index.proofs.Parting.{insert_seam}
use Rattle.key_index.proofs.Whole.{compacted_done, others_untouched, parted_dropped, parted_kept, still_done, then_done, was_at}

pub so_far_start : (m : Cells) (heads : List ℕ) (revision : ℕ) → AreDone m m heads revision 0
so_far_start m heads revision = record {
  done = λ j e lt has. absurd (omega (arith, lt));
  others = λ key ahead. record { there = λ c g at is. at; back = λ c g at is. at };
  back = λ c e has. (e, has, refl);
}

module _ (m now : Cells) (heads : List ℕ) (revision : ℕ) (heads_are : AreNewest m heads) (i : ℕ) (lt : i < length heads) (e : Linked) (at : m (get_or heads i 0) ≡ Some e) (so_far : AreDone m now heads revision i) where
  -- the heads before have other keys
  behind_none : IsBehindNone m heads i e.change.key
  behind_none j f below has key = not_less f.change.key e.change.key key (heads_are.sorted j i f e below lt has at)

  untouched : IsUntouched m now e.change.key
  untouched = so_far.others e.change.key behind_none

  -- the next head is untouched
  pub still_there : now (get_or heads i 0) ≡ Some e
  still_there = untouched.there (get_or heads i 0) e at refl

  pub still_newest : IsNewest now (get_or heads i 0)
  still_newest =
      let n = heads_are.newest i lt in
      let one : n.0 ≡ e = one_linked (m (get_or heads i 0)) n.0 e n.1 at in
      (e, still_there, λ b g has key. omega (arith, n.2 b g (untouched.back b g has key) (key ∙ ap (λ (x : Linked). x.change.key) (sym one)), ap (λ (x : Linked). x.change.revision) one))

  pub so_far_step : (new : Cells) → IsCompactedAt now new revision e.change.key → AreDone m new heads revision (i + 1)
  so_far_step new compacted = record {
    done = λ j f below has. elim (cases_eq j i) [
      | inl eq ↦
          let one : e ≡ f = one_linked (m (get_or heads i 0)) e f at (subst (λ (x : ℕ). m (get_or heads x 0) ≡ Some f) eq has) in
          subst (λ (x : Linked). IsDone m new revision x.change.key) one (then_done m now new revision e.change.key untouched (compacted_done now new revision e.change.key compacted))
      | inr other ↦
          let less : j < i = omega (arith, below, other) in
          still_done m now new revision f.change.key (so_far.done j f less has)
          (others_untouched now new revision e.change.key f.change.key compacted (λ same. behind_none j f less has (sym same)))
    ];
    others = λ key none.
        let u = so_far.others key (λ j f below has. none j f (omega (arith, below)) has) in
        let v = others_untouched now new revision e.change.key key compacted (none i e (omega arith) at) in
        record {
          there = λ c g is same. v.there c g (u.there c g is same) same;
          back = λ c g is same. u.back c g (v.back c g is same) same;
        };
    back = λ c g has.
        let f = was_at now new revision e.change.key compacted c g has in
        let b = so_far.back c f.0 f.1 in
        (b.0, b.1, b.2 ∙ f.2);
  }

-- ---- the heads that are left, and those ahead

module _ (xs : List ℕ) (k i h : ℕ) (le : k ≤ i) (lt : i < length xs) (is : get_or xs i 0 ≡ h) where
  next_one : drop i xs ≡ h ∷ drop (i + 1) xs
  next_one = let e : i + 1 ≡ suc i = omega arith in rw e (drop-cons xs i 0 lt ∙ ap (λ (x : ℕ). x ∷ drop (suc i) xs) is)

  -- the list is the one without the next head, with it
  pub parts_insert : take k xs ++ drop i xs ≡ insert (take k xs ++ drop (i + 1) xs) k h
  parts_insert =
      ap (λ (ys : List ℕ). take k xs ++ ys) next_one ∙ sym (insert_seam (take k xs) (drop (i + 1) xs) k h (length-take-le k xs (omega (arith, le, lt))))

  pub parts_room : k ≤ length (take k xs ++ drop (i + 1) xs)
  parts_room = omega (arith, length-append (take k xs) (drop (i + 1) xs), length-take-le k xs (omega (arith, le, lt)))

  -- the head that is moved to the front is where it was in the list
  pub parts_kept : take (k + 1) (set xs k h) ++ drop (i + 1) (set xs k h) ≡ take k xs ++ drop i xs
  parts_kept =
      let e : k + 1 ≡ suc k = omega arith in
      let front : take (k + 1) (set xs k h) ≡ take k xs ++ (h ∷ []) = rw e (take-suc-set xs k h (omega (arith, le, lt))) in
      let back : drop (i + 1) (set xs k h) ≡ drop (i + 1) xs = drop-set-lt (i + 1) xs k h (omega (arith, le)) in
      ap (λ (ys : List ℕ). ys ++ drop (i + 1) (set xs k h)) front ∙ ap (λ (ys : List ℕ). (take k xs ++ (h ∷ [])) ++ ys) back ∙ append_assoc (take k xs) (h ∷ []) (drop (i + 1) xs) ∙ ap (λ (ys : List ℕ). take k xs ++ ys) (sym next_one)

-- Of the places of some heads the first i were done, and those that are left of them are moved to the first k.
pub record IsGoing (m now : Cells) (heads xs : List ℕ) (revision k i : ℕ) : Type 0 where
  pub front : k ≤ i
  pub ahead : (j : ℕ) → i ≤ j → get_or xs j 0 ≡ get_or heads j 0
  pub part : StayParted m heads now (take k xs ++ drop i xs)
  pub so_far : AreDone m now heads revision i

pub going_start : (m : Cells) (heads : List ℕ) (revision : ℕ) → IsGoing m m heads heads revision 0 0
going_start m heads revision = record {
  front = omega arith;
  ahead = λ j le. refl;
  part = λ put others parted. subst (λ (ys : List ℕ). AreParted m put ys others) (sym (take-append-drop 0 heads)) parted;
  so_far = so_far_start m heads revision;
}

module _ (m now : Cells) (heads xs : List ℕ) (revision k i : ℕ) (heads_are : AreNewest m heads) (same_length : length xs ≡ length heads) (going : IsGoing m now heads xs revision k i) where
  pub going_done : length heads ≤ i → i ≤ length heads → AreDone m now heads revision (length heads)
  going_done all most = let same : i ≡ length heads = omega (arith, all, most) in subst (AreDone m now heads revision) same going.so_far

  module _ (h : ℕ) (lt : i < length heads) (is : get_or xs i 0 ≡ h) where
    below : i < length xs
    below = omega (arith, lt, same_length)

    head : get_or heads i 0 ≡ h
    head = sym (going.ahead i (omega arith)) ∙ is

    e : Linked
    e = (heads_are.newest i lt).0

    head_at : m (get_or heads i 0) ≡ Some (heads_are.newest i lt).0
    head_at = (heads_are.newest i lt).1

    pub going_newest : IsNewest now h
    going_newest = subst (IsNewest now) head (still_newest m now heads revision heads_are i lt (heads_are.newest i lt).0 head_at going.so_far)

    now_head : now h ≡ Some (heads_are.newest i lt).0
    now_head = subst (λ (x : ℕ). now x ≡ Some (heads_are.newest i lt).0) head (still_there m now heads revision heads_are i lt (heads_are.newest i lt).0 head_at going.so_far)

    ahead_more : (j : ℕ) → i + 1 ≤ j → get_or xs j 0 ≡ get_or heads j 0
    ahead_more j le = going.ahead j (omega (arith, le))

    module _ (new : Cells) (compacted : (f : Linked) → now h ≡ Some f → IsCompactedAt now new revision f.change.key) where
      step : AreDone m new heads revision (i + 1)
      step = so_far_step m now heads revision heads_are i lt (heads_are.newest i lt).0 head_at going.so_far new (compacted (heads_are.newest i lt).0 now_head)

      parted : (put : Bool) (others : List ℕ) → AreParted m put heads others → AreParted now put (insert (take k xs ++ drop (i + 1) xs) k h) others
      parted put others before = subst (λ (ys : List ℕ). AreParted now put ys others) (parts_insert xs k i h going.front below is) (going.part put others before)

      room : k ≤ length (take k xs ++ drop (i + 1) xs)
      room = parts_room xs k i h going.front below is

      pub going_dropped : ((f : Linked) → now h ≡ Some f → Remains new f.change.key h false) → IsGoing m new heads xs revision k (i + 1)
      going_dropped none = record {
        front = omega (arith, going.front);
        ahead = ahead_more;
        part = λ put others before.
            parted_dropped now new revision (heads_are.newest i lt).0 (compacted (heads_are.newest i lt).0 now_head) put (take k xs ++ drop (i + 1) xs) others k h room (parted put others before) now_head (none (heads_are.newest i lt).0 now_head);
        so_far = step;
      }

      pub going_kept : ((f : Linked) → now h ≡ Some f → Remains new f.change.key h true) → IsGoing m new heads (set xs k h) revision (k + 1) (i + 1)
      going_kept newest = record {
        front = omega (arith, going.front);
        ahead = λ j le. get_or-set_other xs k j h 0 (λ eq. omega (arith, eq, le, going.front)) ∙ ahead_more j le;
        part = λ put others before.
            subst (λ (ys : List ℕ). AreParted new put ys others) (sym (parts_insert xs k i h going.front below is) ∙ sym (parts_kept xs k i h going.front below is))
            (parted_kept now new revision (heads_are.newest i lt).0 (compacted (heads_are.newest i lt).0 now_head) put (take k xs ++ drop (i + 1) xs) others k h room (parted put others before) now_head (newest (heads_are.newest i lt).0 now_head));
        so_far = step;
      }
