-- The rows under the keys of each lease stay those that have the lease, over a write of one key.
use Rattle.std.proofs.Common.{◌≡◌, ℕ, List, [], ◌∷◌, refl, sym, ap, ◌∙◌}
use Rattle.std.specs.Prelude.{ℤ, pos, Bool, true, false, not, cond, filter, map, Option, Some}
use Rattle.std.specs.List.Sorted.{IsStrictlySortedBy}
use Rattle.std.specs.Cmp.{IsTotalOrder}
use Rattle.std.specs.Ordering.{int_eq, is_eq}
use Rattle.std.specs.declared.cmp.Ordering.{Ordering}
use Rattle.std.specs.declared.cmp.Ordering.TheVariants.{Less, Equal, Greater}
use Rattle.std.proofs.lemmas.Bool.{true≢false}
use Rattle.std.proofs.lemmas.Bool.Decides.{Decides-int_eq}
use Rattle.std.proofs.lemmas.Cmp.{on_total, nat_list_cmp_total}
use Rattle.std.proofs.lemmas.List.Kept.{IsStrictlySortedBy-filter}
use Rattle.etcd_types.specs.declared.key_value.KeyValue.{KeyValue}
use Rattle.etcd_model.specs.Order.{beside, put_in, by_key, key_cmp}
use Rattle.key_index.specs.Links.{Cells}
use Rattle.key_index.specs.Sought.{entry_key}
use Rattle.lease_book.specs.declared.attachments.Attachment.{Attachment}
use Rattle.lease_book.specs.Attached.{AreAttached, HasLease, HoldRows, heads_of, rows_of, rows_without, with_attachment, without_attachment}
use Rattle.lease_book.proofs.HeadLaws.{head_cmp, heads_with, others_with, heads_without, others_without}
use Rattle.lease_book.proofs.Ordered.{filter_put, put_over}

by_key_total : IsTotalOrder by_key
by_key_total = on_total (λ (r : KeyValue). r.key) nat_list_cmp_total

-- ---- rows of other keys

filter_swap : (p q : KeyValue → Bool) (rows : List KeyValue) → filter p (filter q rows) ≡ filter q (filter p rows)
filter_swap p q [] = refl
filter_swap p q (x ∷ rows) = step (p x) (q x) refl refl (filter_swap p q rows)
  where
    step : (b c : Bool) → p x ≡ b → q x ≡ c → filter p (filter q rows) ≡ filter q (filter p rows) → filter p (cond c (x ∷ filter q rows) (filter q rows)) ≡ filter q (cond b (x ∷ filter p rows) (filter p rows))
    step true true e f rest = ap (λ b. cond b (x ∷ filter p (filter q rows)) (filter p (filter q rows))) e ∙ ap (λ ys. x ∷ ys) rest ∙ sym (ap (λ b. cond b (x ∷ filter q (filter p rows)) (filter q (filter p rows))) f)
    step true false e f rest = rest ∙ sym (ap (λ b. cond b (x ∷ filter q (filter p rows)) (filter q (filter p rows))) f)
    step false true e f rest = ap (λ b. cond b (x ∷ filter p (filter q rows)) (filter p (filter q rows))) e ∙ rest
    step false false e f rest = rest

-- where the row of a key has another lease, those of a lease are the same without it
pub same_rows : (key : List ℕ) (lease id : ℤ) (rows : List KeyValue) → int_eq id lease ≡ false → HasLease key lease rows → rows_of id (rows_without rows key) ≡ rows_of id rows
same_rows key lease id [] other has = refl
same_rows key lease id (x ∷ rows) other has = step (is_eq (key_cmp x.key key)) refl (same_rows key lease id rows other has.1)
  where
    step : (b : Bool) → is_eq (key_cmp x.key key) ≡ b → rows_of id (rows_without rows key) ≡ rows_of id rows → rows_of id (cond (not b) (x ∷ rows_without rows key) (rows_without rows key)) ≡ rows_of id (x ∷ rows)
    step true e rest =
        rest
        ∙ sym (ap (λ t. cond t (x ∷ rows_of id rows) (rows_of id rows)) (not_of (int_eq x.lease id) refl (has.0 e)))
      where
        not_of : (t : Bool) → int_eq x.lease id ≡ t → x.lease ≡ lease → int_eq x.lease id ≡ false
        not_of true f is =
            let one : x.lease ≡ id = (Decides-int_eq x.lease id).0 f in
            absurd (true≢false (sym ((Decides-int_eq id lease).1 (sym one ∙ is)) ∙ other))
        not_of false f is = f
    step false e rest = more (int_eq x.lease id) rest
      where
        more : (t : Bool) → rows_of id (rows_without rows key) ≡ rows_of id rows → cond t (x ∷ rows_of id (rows_without rows key)) (rows_of id (rows_without rows key)) ≡ cond t (x ∷ rows_of id rows) (rows_of id rows)
        more true same = ap (λ ys. x ∷ ys) same
        more false same = same

-- ---- heads and their rows

module _ (cells : Cells) (row_at : ℕ → Option KeyValue) (own : (c : ℕ) (x : KeyValue) → row_at c ≡ Some x → entry_key (cells c) ≡ x.key) where
  keys_stand : (c d : ℕ) (x y : KeyValue) → row_at c ≡ Some x → row_at d ≡ Some y → head_cmp cells c d ≡ by_key x y
  keys_stand c d x y e f = ap (λ k. key_cmp k (entry_key (cells d))) (own c x e) ∙ ap (key_cmp x.key) (own d y f)

  put_row : (c : ℕ) (x : KeyValue) → row_at c ≡ Some x → (hs : List ℕ) (rows : List KeyValue) → map row_at hs ≡ map Some rows → map row_at (put_in (head_cmp cells) hs c) ≡ map Some (put_in by_key rows x)
  put_row c x e [] [] same = ap (λ o. o ∷ []) e
  put_row c x e [] (y ∷ rows) same = let bad : ⊥ = cc in absurd bad
  put_row c x e (h ∷ hs) [] same = let bad : ⊥ = cc in absurd bad
  put_row c x e (h ∷ hs) (y ∷ rows) same =
      let first : row_at h ≡ Some y = cc in
      let rest : map row_at hs ≡ map Some rows = cc in
      ap (λ o. map row_at (beside o c h hs (put_in (head_cmp cells) hs c))) (keys_stand c h x y e first)
      ∙ step (by_key x y) first rest (put_row c x e hs rows rest)
    where
      step : (o : Ordering) → row_at h ≡ Some y → map row_at hs ≡ map Some rows → map row_at (put_in (head_cmp cells) hs c) ≡ map Some (put_in by_key rows x) → map row_at (beside o c h hs (put_in (head_cmp cells) hs c)) ≡ map Some (beside o x y rows (put_in by_key rows x))
      step Less first rest more = ap (λ o. o ∷ row_at h ∷ map row_at hs) e ∙ ap (λ o. Some x ∷ o ∷ map row_at hs) first ∙ ap (λ os. Some x ∷ Some y ∷ os) rest
      step Equal first rest more = ap (λ o. o ∷ map row_at hs) e ∙ ap (λ os. Some x ∷ os) rest
      step Greater first rest more = ap (λ o. o ∷ map row_at (put_in (head_cmp cells) hs c)) first ∙ ap (λ os. Some y ∷ os) more

  drop_row : (c : ℕ) (hs : List ℕ) (rows : List KeyValue) → map row_at hs ≡ map Some rows → map row_at (filter (λ d. not (is_eq (head_cmp cells d c))) hs) ≡ map Some (rows_without rows (entry_key (cells c)))
  drop_row c [] [] same = refl
  drop_row c [] (y ∷ rows) same = let bad : ⊥ = cc in absurd bad
  drop_row c (h ∷ hs) [] same = let bad : ⊥ = cc in absurd bad
  drop_row c (h ∷ hs) (y ∷ rows) same =
      let first : row_at h ≡ Some y = cc in
      let rest : map row_at hs ≡ map Some rows = cc in
      let others : List ℕ = filter (λ d. not (is_eq (head_cmp cells d c))) hs in
      ap (λ k. map row_at (cond (not (is_eq (key_cmp k (entry_key (cells c))))) (h ∷ others) others)) (own h y first)
      ∙ step (not (is_eq (key_cmp y.key (entry_key (cells c))))) first (drop_row c hs rows rest)
    where
      step : (b : Bool) → row_at h ≡ Some y → map row_at (filter (λ d. not (is_eq (head_cmp cells d c))) hs) ≡ map Some (rows_without rows (entry_key (cells c))) → map row_at (cond b (h ∷ filter (λ d. not (is_eq (head_cmp cells d c))) hs) (filter (λ d. not (is_eq (head_cmp cells d c))) hs)) ≡ map Some (cond b (y ∷ rows_without rows (entry_key (cells c))) (rows_without rows (entry_key (cells c))))
      step true first more = ap (λ o. o ∷ map row_at (filter (λ d. not (is_eq (head_cmp cells d c))) hs)) first ∙ ap (λ os. Some y ∷ os) more
      step false first more = more

  -- a key that had a lease is detached, by a record of it
  pub detached : (list : List Attachment) (rows : List KeyValue) (a : Attachment) → HoldRows row_at list rows → HasLease (entry_key (cells a.head)) a.id rows → HoldRows row_at (without_attachment cells list a) (rows_without rows (entry_key (cells a.head)))
  detached list rows a holds has id used = by (int_eq id a.id) refl
    where
      by : (b : Bool) → int_eq id a.id ≡ b → map row_at (heads_of (without_attachment cells list a) id) ≡ map Some (rows_of id (rows_without rows (entry_key (cells a.head))))
      by true e =
          let is : id ≡ a.id = (Decides-int_eq id a.id).0 e in
          ap (λ z. map row_at (heads_of (without_attachment cells list a) z)) is
          ∙ ap (map row_at) (heads_without cells a list)
          ∙ ap (λ z. map row_at (filter (λ c. not (is_eq (head_cmp cells c a.head))) (heads_of list z))) (sym is)
          ∙ drop_row a.head (heads_of list id) (rows_of id rows) (holds id used)
          ∙ ap (map Some) (sym (filter_swap (λ (y : KeyValue). int_eq y.lease id) (λ (y : KeyValue). not (is_eq (key_cmp y.key (entry_key (cells a.head))))) rows))
      by false e =
          ap (map row_at) (others_without cells a list id e)
          ∙ holds id used
          ∙ ap (map Some) (sym (same_rows (entry_key (cells a.head)) a.id id rows e has))

  -- a key is attached with its new row; if it has a row, that one has the lease too
  pub attached : (list : List Attachment) (rows : List KeyValue) (a : Attachment) (x : KeyValue) → row_at a.head ≡ Some x → x.lease ≡ a.id → AreAttached cells list → IsStrictlySortedBy by_key rows → HoldRows row_at list rows → HasLease x.key a.id rows → HoldRows row_at (with_attachment cells list a) (put_in by_key rows x)
  attached list rows a x at lease is up holds has id used = by (int_eq id a.id) refl
    where
      sorted_of : IsStrictlySortedBy by_key (rows_of id rows)
      sorted_of = IsStrictlySortedBy-filter by_key (λ (r : KeyValue). int_eq r.lease id) rows up

      puts : (b : Bool) → int_eq x.lease id ≡ b → rows_of id (put_in by_key rows x) ≡ cond b (put_in by_key (rows_of id (rows_without rows x.key)) x) (rows_of id (rows_without rows x.key))
      puts b e = filter_put by_key by_key_total x (λ (r : KeyValue). int_eq r.lease id) rows up ∙ ap (λ c. cond c (put_in by_key (rows_of id (rows_without rows x.key)) x) (rows_of id (rows_without rows x.key))) e

      by : (b : Bool) → int_eq id a.id ≡ b → map row_at (heads_of (with_attachment cells list a) id) ≡ map Some (rows_of id (put_in by_key rows x))
      by true e =
          let same : id ≡ a.id = (Decides-int_eq id a.id).0 e in
          ap (λ z. map row_at (heads_of (with_attachment cells list a) z)) same
          ∙ ap (map row_at) (heads_with cells a list is.ascend)
          ∙ ap (λ z. map row_at (put_in (head_cmp cells) (heads_of list z) a.head)) (sym same)
          ∙ put_row a.head x at (heads_of list id) (rows_of id rows) (holds id used)
          ∙ ap (map Some) (put_over by_key by_key_total x (rows_of id rows) sorted_of
          ∙ ap (λ ys. put_in by_key ys x) (sym (filter_swap (λ (r : KeyValue). int_eq r.lease id) (λ (r : KeyValue). not (is_eq (key_cmp r.key x.key))) rows))
          ∙ sym (puts true ((Decides-int_eq x.lease id).1 (lease ∙ sym same))))
      by false e =
          ap (map row_at) (others_with cells a list id (turned (int_eq a.id id) refl e))
          ∙ holds id used
          ∙ ap (map Some) (sym (puts false (ap (λ z. int_eq z id) lease ∙ turned (int_eq a.id id) refl e) ∙ same_rows x.key a.id id rows e has))
        where
          turned : (b : Bool) → int_eq a.id id ≡ b → int_eq id a.id ≡ false → int_eq a.id id ≡ false
          turned true f other = absurd (true≢false (sym ((Decides-int_eq id a.id).1 (sym ((Decides-int_eq a.id id).0 f))) ∙ other))
          turned false f other = f

  -- a key has a new row without a lease; if it has a row, that one has none either
  pub unattached : (list : List Attachment) (rows : List KeyValue) (x : KeyValue) → x.lease ≡ pos 0 → IsStrictlySortedBy by_key rows → HoldRows row_at list rows → HasLease x.key (pos 0) rows → HoldRows row_at list (put_in by_key rows x)
  unattached list rows x none up holds has id used =
      holds id used
      ∙ ap (map Some) (sym (filter_put by_key by_key_total x (λ (r : KeyValue). int_eq r.lease id) rows up
      ∙ ap (λ b. cond b (put_in by_key (rows_of id (rows_without rows x.key)) x) (rows_of id (rows_without rows x.key))) (ap (λ z. int_eq z id) none ∙ turned (int_eq (pos 0) id) refl)
      ∙ same_rows x.key (pos 0) id rows used has))
    where
      turned : (b : Bool) → int_eq (pos 0) id ≡ b → int_eq (pos 0) id ≡ false
      turned true f = absurd (true≢false (sym ((Decides-int_eq id (pos 0)).1 (sym ((Decides-int_eq (pos 0) id).0 f))) ∙ used))
      turned false f = f
