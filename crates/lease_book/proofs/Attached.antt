-- Attachments in order, by the records that are lent.
use Rattle.std.proofs.Common.{◌≡◌, ◌⊎◌, ◌<◌, ◌≤◌, List, [], ◌∷◌, length, get_or, set, refl, sym, ap, ◌∙◌, arith, inl, inr}
use Rattle.std.specs.Prelude.{ℤ, ◌<ℤ◌, Bool, true, false, filter, int_le, Option, Some, None, IsSome, IfSome}
use Rattle.std.specs.Cmp.{IsTotalOrder}
use Rattle.std.specs.List.{AllByRecursion, insert, remove}
use Rattle.std.specs.List.Sorted.{IsStrictlySortedBy}
use Rattle.std.specs.Ordering.{int_cmp, is_eq, ordering_then}
use Rattle.std.specs.declared.cmp.Ordering.{Ordering}
use Rattle.std.specs.declared.cmp.Ordering.TheVariants.{Less, Equal, Greater}
use Rattle.std.proofs.lemmas.Bool.{true≢false}
use Rattle.std.proofs.lemmas.Cmp.{on_total, then_total, int_cmp_total, nat_list_cmp_total, int_ranked}
use Rattle.std.proofs.lemmas.Int.{ints}
use Rattle.std.proofs.lemmas.List.Kept.{IsStrictlySortedBy-filter}
use Rattle.chunk_list.specs.Chunked.{Chunked, HasItem, IsPlaceAt, position_of}
use Rattle.chunk_list.specs.declared.place.Place.{Place}
use Rattle.etcd_model.specs.Order.{beside, put_in, key_cmp}
use Rattle.etcd_model.proofs.OrderLaws.{sorted-put_in}
use Rattle.key_index.specs.Links.{Cells, Linked}
use Rattle.key_index.specs.Sought.{entry_key}
use Rattle.lease_book.specs.declared.attachments.Attachment.{Attachment}
use Rattle.lease_book.specs.Attached.{AreAttached, RiseById, IsKeyAt, IsKeyGap, attachment_cmp, keys_before, with_attachment}
use Rattle.lease_book.proofs.Ordered.{IsTied, IsUntied, stands}
use Rattle.lease_book.proofs.Stretch.{all_filter}

pub attachment_cmp_total : (cells : Cells) → IsTotalOrder (attachment_cmp cells)
attachment_cmp_total cells = then_total (on_total (λ (a : Attachment). a.id) int_cmp_total) (on_total (λ (a : Attachment). entry_key (cells a.head)) nat_list_cmp_total)

-- how the keys of two records stand, told of the records
pub keys_told : (o p : Option Linked) (r : Ordering) → IsSome o → IsSome p → IfSome o (λ e. IfSome p (λ f. r ≡ key_cmp e.change.key f.change.key)) → r ≡ key_cmp (entry_key o) (entry_key p)
keys_told (Some e) (Some f) r has other told = told
keys_told None p r has other told = let bad : ⊥ = cc in absurd bad
keys_told (Some e) None r has other told = let bad : ⊥ = cc in absurd bad

-- ---- the order stays

all_put : {X : Type 0} (P : X → Type 0) (cmp : X → X → Ordering) (x : X) (ys : List X) → P x → AllByRecursion P ys → AllByRecursion P (put_in cmp ys x)
all_put P cmp x [] is all = (is, tt)
all_put P cmp x (y ∷ ys) is all = elim (cmp x y) as (λ o. AllByRecursion P (beside o x y ys (put_in cmp ys x))) [
  | Less ↦ (is, all)
  | Equal ↦ (is, all.1)
  | Greater ↦ (all.0, all_put P cmp x ys is all.1)
]

pub attached_with : (cells : Cells) (list : List Attachment) (a : Attachment) → AreAttached cells list → IsSome (cells a.head) → AreAttached cells (with_attachment cells list a)
attached_with cells list a is has = record {
  some = all_put (λ (b : Attachment). IsSome (cells b.head)) (attachment_cmp cells) a list has is.some;
  ascend = sorted-put_in (attachment_cmp cells) (attachment_cmp_total cells) a list is.ascend;
}

-- where some go, as by the end of leases
pub attached_filter : (cells : Cells) (p : Attachment → Bool) (list : List Attachment) → AreAttached cells list → AreAttached cells (filter p list)
attached_filter cells p list is = record {
  some = all_filter (λ (b : Attachment). IsSome (cells b.head)) p list is.some;
  ascend = IsStrictlySortedBy-filter (attachment_cmp cells) p list is.ascend;
}

-- ---- their IDs don't fall

up : (a b : ℤ) (o q : Ordering) → o ≡ int_cmp a b → ordering_then o q ≡ Less → int_le a b ≡ true
up a b Less q is less = let h : a <ℤ b = int_ranked a b Less is in grind (arith, ints)
up a b Equal q is less = let h : a ≡ b = int_ranked a b Equal is in grind (arith, ints)
up a b Greater q is less = let bad : ⊥ = cc in absurd bad

all_up : (cells : Cells) (a : Attachment) (list : List Attachment) → AllByRecursion (λ b. attachment_cmp cells a b ≡ Less) list → AllByRecursion (λ b. int_le a.id b.id ≡ true) list
all_up cells a [] all = tt
all_up cells a (b ∷ list) all = (up a.id b.id (int_cmp a.id b.id) (key_cmp (entry_key (cells a.head)) (entry_key (cells b.head))) refl all.0, all_up cells a list all.1)

pub rises : (cells : Cells) (list : List Attachment) → IsStrictlySortedBy (attachment_cmp cells) list → RiseById list
unfolding IsStrictlySortedBy
rises cells [] sorted = tt
rises cells (a ∷ list) sorted = (all_up cells a list sorted.0, rises cells list sorted.1)

-- ---- what a search by lease and key finds

module _ (cells : Cells) (list : Chunked Attachment) (a : Attachment) (place : Place) (is : AreAttached cells list.items) (at : IsPlaceAt list place (keys_before cells list.items a)) where
  stood : IsTied (attachment_cmp cells) (attachment_cmp_total cells) a list.items (keys_before cells list.items a) ⊎ IsUntied (attachment_cmp cells) (attachment_cmp_total cells) a list.items (keys_before cells list.items a)
  stood = stands (attachment_cmp cells) (attachment_cmp_total cells) a list.items is.ascend

  tied : IsTied (attachment_cmp cells) (attachment_cmp_total cells) a list.items (keys_before cells list.items a) → HasItem list.sizes place → IsKeyAt cells list a place
  tied h item = record {
    item = item;
    put = h.put ∙ ap (λ n. set list.items n a) (sym at.position_is);
    gone = h.gone ∙ ap (remove list.items) (sym at.position_is);
  }

  untied : IsUntied (attachment_cmp cells) (attachment_cmp_total cells) a list.items (keys_before cells list.items a) → IsKeyGap cells list a place
  untied f = record {
    place_is = at.place_is;
    put = f.put ∙ ap (λ n. insert list.items n a) (sym at.position_is);
    gone = f.gone;
  }

  module _ (x : Attachment) (lt : position_of list.sizes place < length list.items) (read : x ≡ get_or list.items (position_of list.sizes place) x) where
    read_at : x ≡ get_or list.items (keys_before cells list.items a) x
    read_at = read ∙ ap (λ n. get_or list.items n x) at.position_is

    pub found_key : HasItem list.sizes place → is_eq (attachment_cmp cells x a) ≡ true → IsKeyAt cells list a place
    found_key item same = elim stood [
      | inl h ↦ tied h item
      | inr f ↦
          let later : attachment_cmp cells x a ≡ Greater = ap (λ b. attachment_cmp cells b a) read_at ∙ f.other x (omega (arith, lt, at.position_is)) in
          absurd (true≢false (sym same ∙ ap is_eq later))
    ]

    pub other_key : is_eq (attachment_cmp cells x a) ≡ false → IsKeyGap cells list a place
    other_key other = elim stood [
      | inl h ↦
          let same : attachment_cmp cells x a ≡ Equal = ap (λ b. attachment_cmp cells b a) read_at ∙ h.same x in
          absurd (true≢false (sym (ap is_eq same) ∙ other))
      | inr f ↦ untied f
    ]

  pub none_there : length list.items ≤ position_of list.sizes place → IsKeyGap cells list a place
  none_there end = elim stood [
    | inl h ↦ absurd (omega (arith, h.place, end, at.position_is))
    | inr f ↦ untied f
  ]
