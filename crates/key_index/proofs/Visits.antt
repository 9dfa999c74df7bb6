-- One visit after another, in both lists of the order.
use Rattle.std.proofs.Common.{◌≡◌, ℕ, ◌+◌, ◌-◌, ◌<◌, ◌≤◌, List, [], ◌∷◌, ◌++◌, length, get_or, Option, Some, None, IsSome, IfSome, is_some, true, false, sym, ap, ◌∙◌, refl, subst, arith}
use Rattle.std.specs.List.{All, AllByRecursion}
use Rattle.std.proofs.lemmas.Bool.{leb-true}
use Rattle.std.proofs.lemmas.Bool.Decides.{nat_tests}
use Rattle.std.proofs.lemmas.List.{get_or-append_right, get_or_append_left, length-append}
use Rattle.std.proofs.lemmas.List.Elements.{All-tail, filter_map-append, filter_passes}
use Rattle.chunk_list.specs.Chunked.{TurnsAt}
use Rattle.etcd_model.specs.Changes.{Recorded, Rises}
use Rattle.key_index.specs.declared.visiting.Until.TheVariants.{Before, Through}
use Rattle.key_index.specs.Links.{Cells, Linked, IsChained, change_at}
use Rattle.key_index.specs.Compaction.{AreDone, times}
use Rattle.key_index.specs.Order.{AreAll, AreSettled, IsInOrder, changes_in, with_records}
use Rattle.key_index.specs.Visiting.{Visits, has_within, is_within}
use Rattle.key_index.proofs.Counting.{within_is}
use Rattle.key_index.proofs.Order.{changes_none, changes_some, which}
use Rattle.key_index.proofs.OrderKept.{changes_left}
use Rattle.key_index.proofs.Passed.{all_pass}
use Rattle.key_index.proofs.Leaving.{link_once, order_visited}
use Rattle.key_index.proofs.Visited.{AreOf, done_with_cut, done_with_gone, none_visited}

-- ---- the front and the end of an order

pub some_front : (P : ℕ → Type 0) (xs ys : List ℕ) → All P (xs ++ ys) → All P xs
some_front P xs ys all k d lt = subst P (get_or_append_left xs ys d k lt) (all k d (omega (arith, lt, length-append xs ys)))

pub some_behind : (P : ℕ → Type 0) (xs ys : List ℕ) → All P (xs ++ ys) → All P ys
some_behind P xs ys all k d lt =
    let same : length xs + k - length xs ≡ k = omega arith in
    subst P (get_or-append_right xs ys (length xs) (length xs + k) d refl (omega arith) ∙ ap (λ (n : ℕ). get_or ys n d) same) (all (length xs + k) d (omega (arith, lt, length-append xs ys)))

all_front : (P : Recorded → Type 0) (xs ys : List Recorded) → AllByRecursion P (xs ++ ys) → AllByRecursion P xs
all_front P [] ys all = tt
all_front P (x ∷ xs) ys all = (all.0, all_front P xs ys all.1)

rises_front : (xs ys : List Recorded) → Rises (xs ++ ys) → Rises xs
rises_front [] ys rises = tt
rises_front (x ∷ xs) ys rises = (all_front (λ y. x.revision ≤ y.revision) xs ys rises.0, rises_front xs ys rises.1)

rises_behind : (xs ys : List Recorded) → Rises (xs ++ ys) → Rises ys
rises_behind [] ys rises = rises
rises_behind (x ∷ xs) ys rises = rises_behind xs ys rises.1

pub order_front : (cells : Cells) (xs ys : List ℕ) → IsInOrder cells (xs ++ ys) → IsInOrder cells xs
order_front cells xs ys rises = rises_front (changes_in cells xs) (changes_in cells ys) (subst Rises (filter_map-append (change_at cells) xs ys) rises)

pub order_behind : (cells : Cells) (xs ys : List ℕ) → IsInOrder cells (xs ++ ys) → IsInOrder cells ys
order_behind cells xs ys rises = rises_behind (changes_in cells xs) (changes_in cells ys) (subst Rises (filter_map-append (change_at cells) xs ys) rises)

-- ---- fewer records in order

module _ (m now : Cells) (back : AreOf m now) where
  all_fewer : (P : Recorded → Type 0) (xs : List ℕ) → All (λ c. IsSome (m c)) xs → AllByRecursion P (changes_in m xs) → AllByRecursion P (changes_in now xs)
  all_fewer P [] some all = tt
  all_fewer P (c ∷ cs) some all =
      let e = which (m c) (some 0 0 (omega arith)) in
      let parts = subst (AllByRecursion P) (changes_some m c e.0 cs e.1) all in
      by (now c) refl (all_fewer P cs (All-tail (λ x. is_some (m x) ≡ true) c cs some) parts.1) e parts.0
    where
      by : (o : Option Linked) → now c ≡ o → AllByRecursion P (changes_in now cs) → (e : (x : Linked) × (m c ≡ Some x)) → P e.0.change → AllByRecursion P (changes_in now (c ∷ cs))
      by None at rest e here = subst (AllByRecursion P) (sym (changes_none now c cs at)) rest
      by (Some f) at rest e here =
          let g = back c f at in
          let same : g.0 ≡ e.0 = let h = g.1 in let k = e.1 in cc in
          let change : e.0.change ≡ f.change = ap (λ (x : Linked). x.change) (sym same) ∙ g.2 in
          subst (AllByRecursion P) (sym (changes_some now c f cs at)) (subst P change here, rest)

  rises_fewer : (xs : List ℕ) → All (λ c. IsSome (m c)) xs → Rises (changes_in m xs) → Rises (changes_in now xs)
  rises_fewer [] some rises = tt
  rises_fewer (c ∷ cs) some rises =
      let e = which (m c) (some 0 0 (omega arith)) in
      let parts = subst Rises (changes_some m c e.0 cs e.1) rises in
      let tail = All-tail (λ x. is_some (m x) ≡ true) c cs some in
      by (now c) refl (rises_fewer cs tail parts.1) e (all_fewer (λ y. e.0.change.revision ≤ y.revision) cs tail parts.0)
    where
      by : (o : Option Linked) → now c ≡ o → Rises (changes_in now cs) → (e : (x : Linked) × (m c ≡ Some x)) → AllByRecursion (λ y. e.0.change.revision ≤ y.revision) (changes_in now cs) → Rises (changes_in now (c ∷ cs))
      by None at rest e here = subst Rises (sym (changes_none now c cs at)) rest
      by (Some f) at rest e here =
          let g = back c f at in
          let same : g.0 ≡ e.0 = let h = g.1 in let k = e.1 in cc in
          let change : e.0.change ≡ f.change = ap (λ (x : Linked). x.change) (sym same) ∙ g.2 in
          subst Rises (sym (changes_some now c f cs at)) (subst (λ (x : Recorded). AllByRecursion (λ y. x.revision ≤ y.revision) (changes_in now cs)) change here, rest)

  pub order_fewer : (xs : List ℕ) → All (λ c. IsSome (m c)) xs → IsInOrder m xs → IsInOrder now (with_records now xs)
  order_fewer xs some rises = subst Rises (sym (changes_left now xs)) (rises_fewer xs some rises)

-- ---- what counts

within_before : (r a : ℕ) → is_within (Before r) a ≡ false → r ≤ a
within_before r a off = grind (arith, nat_tests, off)

within_through : (r a : ℕ) → is_within (Through r) a ≡ true → a ≤ r
within_through r a on = leb-true a r on

beyond_through : (r a : ℕ) → is_within (Through r) a ≡ false → r < a
beyond_through r a off = grind (arith, nat_tests, off)

below_before : (r a : ℕ) → is_within (Before r) a ≡ true → a < r
below_before r a on = grind (arith, nat_tests, on)

module _ (m : Cells) (cs : List ℕ) (r n : ℕ) where
  pub low_through : TurnsAt (has_within m (Through r)) cs n → (j : ℕ) (e : Linked) → j < n → m (get_or cs j 0) ≡ Some e → e.change.revision ≤ r
  low_through turns j e lt at = within_through r e.change.revision (sym (within_is m (Through r) (get_or cs j 0) e at) ∙ turns.before j 0 lt)

  pub later_through : TurnsAt (has_within m (Through r)) cs n → (j : ℕ) (e : Linked) → n ≤ j → j < length cs → m (get_or cs j 0) ≡ Some e → r < e.change.revision
  later_through turns j e le lt at = beyond_through r e.change.revision (sym (within_is m (Through r) (get_or cs j 0) e at) ∙ turns.after j 0 le lt)

  pub below_before_at : TurnsAt (has_within m (Before r)) cs n → (j : ℕ) (e : Linked) → j < n → m (get_or cs j 0) ≡ Some e → e.change.revision < r
  below_before_at turns j e lt at = below_before r e.change.revision (sym (within_is m (Before r) (get_or cs j 0) e at) ∙ turns.before j 0 lt)

  pub from_before : All (λ c. IsSome (m c)) cs → TurnsAt (has_within m (Before r)) cs n → (j : ℕ) → n ≤ j → j < length cs → (e : Linked) × (m (get_or cs j 0) ≡ Some e) × (r ≤ e.change.revision)
  from_before some turns j le lt =
      let e = which (m (get_or cs j 0)) (some j 0 lt) in
      (e.0, e.1, within_before r e.0.change.revision (sym (within_is m (Before r) (get_or cs j 0) e.0 e.1) ∙ turns.after j 0 le lt))

-- ---- a visit

-- so many of some cells were visited, and the settled ones that are left are those with records
pub record IsVisiting (m now : Cells) (st cs left : List ℕ) (revision i : ℕ) : Type 0 where
  pub done : AreDone m now cs revision i
  pub order : left ≡ with_records now st

-- before the first, all of them have records
pub visiting_none : (m : Cells) (st cs : List ℕ) (revision : ℕ) → AreAll m (st ++ cs) → IsVisiting m m st cs st revision 0
visiting_none m st cs revision all = record {
  done = none_visited m cs revision;
  order = sym (all_pass (λ c. is_some (m c)) st (λ j lt. some_front (λ c. IsSome (m c)) st cs all.some j 0 lt));
}

module _ (m now : Cells) (st cs left : List ℕ) (revision i : ℕ) (chained_m : IsChained m) (chained : IsChained now) (all : AreAll m (st ++ cs)) (rises : IsInOrder m (st ++ cs)) (settled : AreSettled m st) (visiting : IsVisiting m now st cs left revision i) where
  pub left_some : All (λ c. IsSome (now c)) left
  left_some = subst (All (λ c. IsSome (now c))) (sym visiting.order) (filter_passes (λ c. is_some (now c)) st)

  pub left_rises : IsInOrder now left
  left_rises = subst (IsInOrder now) (sym visiting.order) (order_fewer m now visiting.done.back st (some_front (λ c. IsSome (m c)) st cs all.some) (order_front m st cs rises))

  module _ (lt : i < length cs) (c : ℕ) (is : get_or cs i 0 ≡ c) (low : (e : Linked) → m (get_or cs i 0) ≡ Some e → e.change.revision ≤ revision) where
    low_now : (f : Linked) → now c ≡ Some f → f.change.revision ≤ revision
    low_now f at =
        let e = visiting.done.back c f at in
        let le = low e.0 (subst (λ (x : ℕ). m x ≡ Some e.0) (sym is) e.1) in
        omega (arith, le, ap (λ (x : Recorded). x.revision) e.2)

    pub linked_once : IfSome (now c) (λ e. IfSome e.older (λ d. times d left ≡ 1))
    linked_once = by (now c) refl
      where
        by_link : (f : Linked) → now c ≡ Some f → (o : Option ℕ) → f.older ≡ o → IfSome o (λ d. times d left ≡ 1)
        by_link f at None link = tt
        by_link f at (Some d) link = subst (λ (xs : List ℕ). times d xs ≡ 1) (sym visiting.order) (link_once m now st cs revision i chained_m chained all rises settled visiting.done lt c f is at (low_now f at) d link)

        by : (o : Option Linked) → now c ≡ o → IfSome o (λ e. IfSome e.older (λ d. times d left ≡ 1))
        by None at = tt
        by (Some f) at = by_link f at f.older refl

    pub visited : (new : Cells) (after : List ℕ) → Visits (now c) now new revision left after → IsVisiting m new st cs after revision (i + 1)
    visited new after visits = by (now c) refl visits
      where
        by : (o : Option Linked) → now c ≡ o → Visits o now new revision left after → IsVisiting m new st cs after revision (i + 1)
        by None at v = subst (λ (x : Cells). IsVisiting m x st cs after revision (i + 1)) (sym v.0) (record {
          done = done_with_gone m now cs revision i visiting.done c is at;
          order = v.1 ∙ visiting.order;
        })
        by (Some f) at v = record {
          done = done_with_cut m now cs revision i visiting.done new c f is at v.0;
          order = order_visited m now st cs revision i chained_m chained all rises settled visiting.done lt c f is at (low_now f at) new v.0 left after visiting.order v.1;
        }
