-- The compaction of one key, and what it leaves of the heads.
use Rattle.std.proofs.Common.{◌≡◌, ◌≢◌, ℕ, ◌+◌, ◌-◌, ◌<◌, ◌≤◌, List, length, get_or, Option, Some, Bool, true, false, sym, ap, ◌∙◌, refl, subst, arith, inl, inr, ◌⊎◌}
use Rattle.std.specs.declared.cmp.Ordering.TheVariants.{Less}
use Rattle.std.specs.List.{insert}
use Rattle.std.specs.Prelude.{not, filter, is_some}
use Rattle.std.specs.Str.{bytes_eq}
use Rattle.std.proofs.lemmas.Bool.{cases_eq, cases_lt, cases_order}
use Rattle.std.proofs.lemmas.List.Edits.{length-insert, get_or-insert_below, get_or-insert_at, get_or-insert_above}
use Rattle.std.proofs.lemmas.Slice.Eq.{bytes_eq-Decides}
use Rattle.etcd_model.specs.Order.{key_cmp}
use Rattle.etcd_model.specs.Changes.{Recorded}
use Rattle.key_index.specs.Links.{Cells, Linked, IsNewest}
use Rattle.key_index.specs.Index.{AreHeads, AreParted, is_kind, is_put_of}
use Rattle.key_index.specs.Compaction.{IsDone, IsKept, IsCompactedAt, IsUntouched}
use Rattle.key_index.proofs.Links.{one_linked, not_less}
use Rattle.key_index.proofs.Compacted.{linked_some, change_some}
use Rattle.key_index.proofs.Parting.{StandsAmong, stands_among, filter-alike}
use Rattle.key_index.proofs.PutOrNot.{all_from_places, other_kind, same_kind}

-- two keys are one or not
pub same_or_not : (a b : List ℕ) → (a ≡ b) ⊎ (a ≢ b)
same_or_not a b = go (bytes_eq a b) refl
  where
    go : (t : Bool) → bytes_eq a b ≡ t → (a ≡ b) ⊎ (a ≢ b)
    go true is = inl ((bytes_eq-Decides a b).0 is)
    go false is = inr (λ same. let yes : bytes_eq a b ≡ true = (bytes_eq-Decides a b).1 same in let bad : ⊥ = cc (yes, is) in bad)

-- a record that is left was there with its change
pub was_at : (m new : Cells) (revision : ℕ) (key : List ℕ) → IsCompactedAt m new revision key → (c : ℕ) (g : Linked) → new c ≡ Some g → (f : Linked) × (m c ≡ Some f) × (f.change ≡ g.change)
was_at m new revision key compacted c g has = elim (same_or_not g.change.key key) [
  | inl same ↦ linked_some m c g.change (compacted.only c g has same).0
  | inr other ↦ (g, compacted.no_others c g other has, refl)
]

pub key_of : (f g : Linked) → f.change ≡ g.change → f.change.key ≡ g.change.key
key_of f g same = ap (λ (x : Recorded). x.key) same

module _ (m new : Cells) (revision : ℕ) (e : Linked) (compacted : IsCompactedAt m new revision e.change.key) where
  module _ (heads : List ℕ) (p : ℕ) (index : AreHeads m heads) (lt : p < length heads) (at : m (get_or heads p 0) ≡ Some e) where
    -- another place has another key
    apart : (j : ℕ) (f : Linked) → j ≢ p → j < length heads → m (get_or heads j 0) ≡ Some f → f.change.key ≢ e.change.key
    apart j f differs below has key = elim (cases_order j p) [
      | inl eq ↦ differs eq
      | inr o ↦ elim o [
        | inl low ↦ not_less f.change.key e.change.key key (index.sorted j p f e low lt has at)
        | inr high ↦ not_less e.change.key f.change.key (sym key) (index.sorted p j e f high below at has)
      ]
    ]

    -- so its head is still the newest
    newest_there : (j : ℕ) → j ≢ p → j < length heads → IsNewest new (get_or heads j 0)
    newest_there j differs below =
        let n = index.newest j below in
        let other = apart j n.0 differs below n.1 in (
          n.0,
          compacted.others (get_or heads j 0) n.0 other n.1,
          λ b g has key. n.2 b g (compacted.no_others b g (λ same. other (sym key ∙ same)) has) key,
        )

    -- the order of two places stays
    still_sorted : (i j : ℕ) (x y : Linked) → i < j → j < length heads → new (get_or heads i 0) ≡ Some x → new (get_or heads j 0) ≡ Some y → key_cmp x.change.key y.change.key ≡ Less
    still_sorted i j x y below within has_x has_y =
        let f = was_at m new revision e.change.key compacted (get_or heads i 0) x has_x in
        let g = was_at m new revision e.change.key compacted (get_or heads j 0) y has_y in
        let less : key_cmp f.0.change.key g.0.change.key ≡ Less = index.sorted i j f.0 g.0 below within f.1 g.1 in
        subst (λ (k : List ℕ). key_cmp x.change.key k ≡ Less) (key_of g.0 y g.2) (subst (λ (k : List ℕ). key_cmp k g.0.change.key ≡ Less) (key_of f.0 x f.2) less)

    pub index_kept : IsNewest new (get_or heads p 0) → AreHeads new heads
    index_kept newest_here =
        let newest : (j : ℕ) → j < length heads → IsNewest new (get_or heads j 0) = λ j below.
        elim (cases_eq j p) [
          | inl eq ↦ subst (λ (x : ℕ). IsNewest new (get_or heads x 0)) (sym eq) newest_here
          | inr differs ↦ newest_there j differs below
        ] in
        record {
          newest = newest;
          sorted = still_sorted;
          whole = λ c g has.
              let f = was_at m new revision e.change.key compacted c g has in
              let q = index.whole c f.0 f.1 in
              let n = newest q.0 q.1 in
              let w = was_at m new revision e.change.key compacted (get_or heads q.0 0) n.0 n.1 in
              let one : w.0 ≡ q.2.0 = one_linked (m (get_or heads q.0 0)) w.0 q.2.0 w.1 q.2.1 in
              (q.0, q.1, (n.0, n.1, sym (key_of w.0 n.0 w.2) ∙ ap (λ (x : Linked). x.change.key) one ∙ q.2.2 ∙ key_of f.0 g f.2));
        }

  module _ (ys : List ℕ) (p h : ℕ) (le : p ≤ length ys) (index : AreHeads m (insert ys p h)) (at : m h ≡ Some e) (none : (c : ℕ) (g : Linked) → new c ≡ Some g → g.change.key ≢ e.change.key) where
    longer : length (insert ys p h) ≡ length ys + 1
    longer = length-insert ys p h le

    here : get_or (insert ys p h) p 0 ≡ h
    here = get_or-insert_at ys p h 0 le

    at_place : m (get_or (insert ys p h) p 0) ≡ Some e
    at_place = subst (λ (x : ℕ). m x ≡ Some e) (sym here) at

    in_range : p < length (insert ys p h)
    in_range = let l = longer in omega (arith, le, l)

    -- where a place was before one was taken out
    pub record Was (j : ℕ) : Type 0 where
      pub place : ℕ
      pub within : place < length (insert ys p h)
      pub other : place ≢ p
      pub is : get_or (insert ys p h) place 0 ≡ get_or ys j 0
      pub low : j < p → place ≡ j
      pub high : p ≤ j → place ≡ j + 1

    was : (j : ℕ) → j < length ys → Was j
    was j lt =
        let l = longer in
        elim (cases_lt j p) [
          | inl below ↦ record {
            place = j;
            within = omega (arith, lt, l);
            other = λ eq. omega (arith, eq, below);
            is = get_or-insert_below ys p h 0 j below le;
            low = λ _. refl;
            high = λ ge. absurd (omega (arith, ge, below));
          }
          | inr above ↦ record {
            place = j + 1;
            within = omega (arith, lt, l);
            other = λ eq. omega (arith, eq, above);
            is = get_or-insert_above ys p h 0 j above le;
            low = λ less. absurd (omega (arith, less, above));
            high = λ _. refl;
          }
        ]

    rises : (i j : ℕ) (x : Was i) (y : Was j) → i < j → x.place < y.place
    rises i j x y lt = elim (cases_lt i p) [
      | inl low ↦ elim (cases_lt j p) [
        | inl below ↦ omega (arith, lt, x.low low, y.low below)
        | inr above ↦ omega (arith, lt, x.low low, y.high above)
      ]
      | inr high ↦ elim (cases_lt j p) [
        | inl below ↦ absurd (omega (arith, lt, high, below))
        | inr above ↦ omega (arith, lt, x.high high, y.high above)
      ]
    ]

    pub index_dropped : AreHeads new ys
    index_dropped = record {
      newest = λ j lt.
          let w = was j lt in
          subst (λ (x : ℕ). IsNewest new x) w.is (newest_there (insert ys p h) p index in_range at_place w.place w.other w.within);
      sorted = λ i j x y below lt has_x has_y.
          let w = was i (omega (arith, below, lt)) in
          let v = was j lt in
          still_sorted (insert ys p h) p index in_range at_place w.place v.place x y (rises i j w v below) v.within
          (subst (λ (c : ℕ). new c ≡ Some x) (sym w.is) has_x) (subst (λ (c : ℕ). new c ≡ Some y) (sym v.is) has_y);
      whole = λ c g has.
          let other : g.change.key ≢ e.change.key = none c g has in
          let q = index.whole c g (compacted.no_others c g other has) in
          let x = q.2.0 in
          let not_here : q.0 ≢ p = λ eq. (
          let one : x ≡ e = one_linked (m (get_or (insert ys p h) p 0)) x e (subst (λ (i : ℕ). m (get_or (insert ys p h) i 0) ≡ Some x) eq q.2.1) at_place in
          other (sym q.2.2 ∙ ap (λ (y : Linked). y.change.key) one)) in
          let there : new (get_or (insert ys p h) q.0 0) ≡ Some x = compacted.others (get_or (insert ys p h) q.0 0) x (λ same. other (sym q.2.2 ∙ same)) q.2.1 in
          let l = longer in
          elim (cases_lt q.0 p) [
            | inl below ↦ (q.0, omega (arith, le, below), (x, subst (λ (i : ℕ). new i ≡ Some x) (get_or-insert_below ys p h 0 q.0 below le) there, q.2.2))
            | inr above ↦
                let back_one : q.0 - 1 + 1 ≡ q.0 = omega (arith, above, not_here) in
                let lower : p ≤ q.0 - 1 = omega (arith, above, not_here) in
                let is : get_or (insert ys p h) q.0 0 ≡ get_or ys (q.0 - 1) 0 = ap (λ (i : ℕ). get_or (insert ys p h) i 0) (sym back_one) ∙ get_or-insert_above ys p h 0 (q.0 - 1) lower le in
                (q.0 - 1, omega (arith, q.1, l, above, not_here), (x, subst (λ (i : ℕ). new i ≡ Some x) is there, q.2.2))
          ];
    }

-- ---- what was done so far

-- what is kept of a key that was untouched is the same before and now
kept_now : (m now : Cells) (revision : ℕ) (key : List ℕ) → IsUntouched m now key → (x : Recorded) → x.key ≡ key → IsKept m revision x → IsKept now revision x
kept_now m now revision key untouched x is kept = elim kept [
  | inl from ↦ inl from
  | inr p ↦ inr (p.0, λ b g has same low. p.1 b g (untouched.back b g has (same ∙ is)) same low)
]

kept_before : (m now : Cells) (revision : ℕ) (key : List ℕ) → IsUntouched m now key → (x : Recorded) → x.key ≡ key → IsKept now revision x → IsKept m revision x
kept_before m now revision key untouched x is kept = elim kept [
  | inl from ↦ inl from
  | inr p ↦ inr (p.0, λ b g has same low. p.1 b g (untouched.there b g has (same ∙ is)) same low)
]

-- what is done of a key that was untouched is done
pub then_done : (m now new : Cells) (revision : ℕ) (key : List ℕ) → IsUntouched m now key → IsDone now new revision key → IsDone m new revision key
then_done m now new revision key untouched done = record {
  stays = λ c g has is kept. done.stays c g (untouched.there c g has is) is (kept_now m now revision key untouched g.change is kept);
  only = λ c g has is.
      let o = done.only c g has is in
      let f = linked_some now c g.change o.0 in
      let there = untouched.back c f.0 f.1 (key_of f.0 g f.2 ∙ is) in
      (change_some m c f.0 there ∙ ap (λ (x : Recorded). let q : Option Recorded = Some x in q) f.2, kept_before m now revision key untouched g.change is o.1);
}

-- and what was done of a key that is untouched then stays done
pub still_done : (m now new : Cells) (revision : ℕ) (key : List ℕ) → IsDone m now revision key → IsUntouched now new key → IsDone m new revision key
still_done m now new revision key done untouched = record {
  stays = λ c g has is kept.
      let f = linked_some now c g.change (done.stays c g has is kept) in
      let there = untouched.there c f.0 f.1 (key_of f.0 g f.2 ∙ is) in
      change_some new c f.0 there ∙ ap (λ (x : Recorded). let q : Option Recorded = Some x in q) f.2;
  only = λ c g has is. done.only c g (untouched.back c g has is) is;
}

-- the other keys are untouched where one was compacted
pub others_untouched : (now new : Cells) (revision : ℕ) (compacted_key key : List ℕ) → IsCompactedAt now new revision compacted_key → compacted_key ≢ key → IsUntouched now new key
others_untouched now new revision compacted_key key compacted differs = record {
  there = λ c g has is. compacted.others c g (λ same. differs (sym same ∙ is)) has;
  back = λ c g has is. compacted.no_others c g (λ same. differs (sym same ∙ is)) has;
}

pub compacted_done : (now new : Cells) (revision : ℕ) (key : List ℕ) → IsCompactedAt now new revision key → IsDone now new revision key
compacted_done now new revision key compacted = record { stays = compacted.stays; only = compacted.only }

-- ---- lists of heads, where one key was compacted

module _ (m new : Cells) (revision : ℕ) (e : Linked) (compacted : IsCompactedAt m new revision e.change.key) (put : Bool) (ys others : List ℕ) (k h : ℕ) (le : k ≤ length ys) (parted : AreParted m put (insert ys k h) others) (at : m h ≡ Some e) where
  stands : StandsAmong (is_kind m put) (is_kind m (not put)) parted.heads ys k h
  stands = stands_among (is_kind m put) (is_kind m (not put)) (other_kind m put) parted.heads ys k h le (sym parted.these_are)

  whole : AreHeads m (insert stands.rest stands.at h)
  whole = subst (AreHeads m) stands.all_is parted.are

  -- a head that is left is of its kind as before
  alike : (kind : Bool) (c : ℕ) → IsNewest new c → is_kind m kind c ≡ is_kind new kind c
  alike kind c n =
      let f = was_at m new revision e.change.key compacted c n.0 n.1 in
      same_kind kind (m c) (new c) (ap is_put_of f.1 ∙ ap (λ (x : Recorded). is_some x.row) f.2 ∙ sym (ap is_put_of n.1))

  filters : (kind : Bool) (xs : List ℕ) → AreHeads new xs → filter (is_kind m kind) xs ≡ filter (is_kind new kind) xs
  filters kind xs are = filter-alike (is_kind m kind) (is_kind new kind) xs (all_from_places (λ c. is_kind m kind c ≡ is_kind new kind c) xs (λ i lt. alike kind (get_or xs i 0) (are.newest i lt)))

  pub parted_dropped : ((c : ℕ) (g : Linked) → new c ≡ Some g → g.change.key ≢ e.change.key) → AreParted new put ys others
  parted_dropped none =
      let are : AreHeads new stands.rest = index_dropped m new revision e compacted stands.rest stands.at h stands.within whole at none in
      record {
        heads = stands.rest;
        are = are;
        these_are = sym stands.these ∙ filters put stands.rest are;
        others_are = parted.others_are ∙ sym stands.others ∙ filters (not put) stands.rest are;
      }

  pub parted_kept : IsNewest new h → AreParted new put (insert ys k h) others
  parted_kept newest =
      let here : get_or (insert stands.rest stands.at h) stands.at 0 ≡ h = get_or-insert_at stands.rest stands.at h 0 stands.within in
      let longer = length-insert stands.rest stands.at h stands.within in
      let kept : AreHeads new (insert stands.rest stands.at h) = index_kept m new revision e compacted (insert stands.rest stands.at h) stands.at whole (omega (arith, longer, stands.within))
      (subst (λ (x : ℕ). m x ≡ Some e) (sym here) at) (subst (IsNewest new) (sym here) newest) in
      let are : AreHeads new parted.heads = subst (AreHeads new) (sym stands.all_is) kept in
      record {
        heads = parted.heads;
        are = are;
        these_are = parted.these_are ∙ filters put parted.heads are;
        others_are = parted.others_are ∙ filters (not put) parted.heads are;
      }
