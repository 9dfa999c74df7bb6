-- Attachments stay in order while the changes under their cells stay.
use Rattle.std.proofs.Common.{◌≡◌, ℕ, List, [], ◌∷◌, refl, sym, ap, ◌∙◌}
use Rattle.std.specs.Prelude.{ℤ, Bool, true, false, cond, map, Option, Some, None, IsSome, option_map}
use Rattle.std.specs.List.{AllByRecursion}
use Rattle.std.specs.List.Sorted.{IsStrictlySortedBy}
use Rattle.std.specs.Ordering.{int_cmp, int_eq, ordering_then}
use Rattle.std.specs.declared.cmp.Ordering.TheVariants.{Less}
use Rattle.etcd_types.specs.declared.key_value.KeyValue.{KeyValue}
use Rattle.etcd_model.specs.Changes.{Recorded}
use Rattle.etcd_model.specs.Order.{key_cmp}
use Rattle.key_index.specs.Links.{Cells, Linked, change_at}
use Rattle.key_index.specs.Sought.{entry_key}
use Rattle.lease_book.specs.declared.attachments.Attachment.{Attachment}
use Rattle.lease_book.specs.Attached.{AreAttached, HoldRows, attachment_cmp, heads_of}
use Rattle.lease_book.proofs.Stretch.{of_id}

record KeepsKey (o p : Option Linked) : Type 0 where
  some : IsSome p
  key : entry_key p ≡ entry_key o

keeps_key : (o p : Option Linked) → IsSome o → ((x : Recorded) → option_map (λ e. e.change) o ≡ Some x → option_map (λ e. e.change) p ≡ Some x) → KeepsKey o p
keeps_key None p has stays = let bad : ⊥ = cc in absurd bad
keeps_key (Some e) None has stays = let none : None ≡ Some e.change = stays e.change refl in let bad : ⊥ = cc in absurd bad
keeps_key (Some e) (Some f) has stays =
    let both : Some f.change ≡ Some e.change = stays e.change refl in
    let same : f.change ≡ e.change = cc in
    record { some = refl; key = ap (λ x. x.key) same }

module _ (old new : Cells) (stay : (c : ℕ) (x : Recorded) → change_at old c ≡ Some x → change_at new c ≡ Some x) where
  at : (c : ℕ) → IsSome (old c) → KeepsKey (old c) (new c)
  at c has = keeps_key (old c) (new c) has (stay c)

  all_some : (list : List Attachment) → AllByRecursion (λ a. IsSome (old a.head)) list → AllByRecursion (λ a. IsSome (new a.head)) list
  all_some [] all = tt
  all_some (a ∷ list) all = ((at a.head all.0).some, all_some list all.1)

  all_less : (a : Attachment) (list : List Attachment) → IsSome (old a.head) → AllByRecursion (λ b. IsSome (old b.head)) list → AllByRecursion (λ b. attachment_cmp old a b ≡ Less) list → AllByRecursion (λ b. attachment_cmp new a b ≡ Less) list
  all_less a [] has some all = tt
  all_less a (b ∷ list) has some all = (
    ap (λ k. ordering_then (int_cmp a.id b.id) (key_cmp k (entry_key (new b.head)))) (at a.head has).key
        ∙ ap (λ k. ordering_then (int_cmp a.id b.id) (key_cmp (entry_key (old a.head)) k)) (at b.head some.0).key
        ∙ all.0,
    all_less a list has some.1 all.1,
  )

  all_ascend : (list : List Attachment) → AllByRecursion (λ a. IsSome (old a.head)) list → IsStrictlySortedBy (attachment_cmp old) list → IsStrictlySortedBy (attachment_cmp new) list
  unfolding IsStrictlySortedBy
  all_ascend [] some up = tt
  all_ascend (a ∷ list) some up = (all_less a list some.0 some.1 up.0, all_ascend list some.1 up.1)

  pub attached_still : (list : List Attachment) → AreAttached old list → AreAttached new list
  attached_still list is = record { some = all_some list is.some; ascend = all_ascend list is.some is.ascend }

  -- ---- and so do the rows under them

  change_stays : (c : ℕ) → IsSome (old c) → change_at new c ≡ change_at old c
  change_stays c has = go (old c) refl has
    where
      go : (o : Option Linked) → old c ≡ o → IsSome o → change_at new c ≡ change_at old c
      go None is some = let bad : ⊥ = cc in absurd bad
      go (Some e) is some =
          let before : change_at old c ≡ Some e.change = ap (option_map (λ (x : Linked). x.change)) is in
          stay c e.change before ∙ sym before

  module _ (row : Option Recorded → Option KeyValue) where
    heads_still : (list : List Attachment) (id : ℤ) → AllByRecursion (λ a. IsSome (old a.head)) list → map (λ c. row (change_at new c)) (heads_of list id) ≡ map (λ c. row (change_at old c)) (heads_of list id)
    heads_still [] id some = refl
    heads_still (a ∷ list) id some = step (int_eq a.id id) (heads_still list id some.1)
      where
        step : (b : Bool) → map (λ c. row (change_at new c)) (heads_of list id) ≡ map (λ c. row (change_at old c)) (heads_of list id) → map (λ c. row (change_at new c)) (map (λ (x : Attachment). x.head) (cond b (a ∷ of_id id list) (of_id id list))) ≡ map (λ c. row (change_at old c)) (map (λ (x : Attachment). x.head) (cond b (a ∷ of_id id list) (of_id id list)))
        step true rest =
            ap (λ y. row y ∷ map (λ c. row (change_at new c)) (heads_of list id)) (change_stays a.head some.0)
            ∙ ap (λ ys. row (change_at old a.head) ∷ ys) rest
        step false rest = rest

    pub rows_still : (list : List Attachment) (rows : List KeyValue) → AreAttached old list → HoldRows (λ c. row (change_at old c)) list rows → HoldRows (λ c. row (change_at new c)) list rows
    rows_still list rows is holds id used = heads_still list id is.some ∙ holds id used
