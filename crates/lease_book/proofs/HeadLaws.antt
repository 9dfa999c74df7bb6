-- What one attachment more or less makes of the keys of each lease.
use Rattle.std.proofs.Common.{◌≡◌, ℕ, List, [], ◌∷◌, refl, sym, ap, ◌∙◌, inl, inr}
use Rattle.std.specs.Prelude.{ℤ, Bool, true, false, not, cond, filter, map}
use Rattle.std.specs.List.Sorted.{IsStrictlySortedBy}
use Rattle.std.specs.Ordering.{int_cmp, int_eq, is_eq, ordering_then}
use Rattle.std.specs.declared.cmp.Ordering.{Ordering}
use Rattle.std.specs.declared.cmp.Ordering.TheVariants.{Less, Equal, Greater}
use Rattle.std.proofs.lemmas.Bool.{true≢false}
use Rattle.std.proofs.lemmas.Bool.Decides.{Decides-int_eq}
use Rattle.std.proofs.lemmas.Cmp.{tied_itself, int_cmp_total}
use Rattle.etcd_model.specs.Order.{beside, put_in, key_cmp}
use Rattle.key_index.specs.Links.{Cells}
use Rattle.key_index.specs.Sought.{entry_key}
use Rattle.lease_book.specs.declared.attachments.Attachment.{Attachment}
use Rattle.lease_book.specs.Attached.{attachment_cmp, with_attachment, without_attachment, heads_of, without_keys}
use Rattle.lease_book.proofs.Standing.{stand}
use Rattle.lease_book.proofs.Attached.{rises}
use Rattle.lease_book.proofs.Stretch.{of_id, all_above, none_of}

-- how the keys of two records stand
abbrev pub head_cmp : Cells → ℕ → ℕ → Ordering
head_cmp cells c d = key_cmp (entry_key (cells c)) (entry_key (cells d))

abbrev heads : List Attachment → List ℕ
heads list = map (λ a. a.head) list

itself : (id : ℤ) → int_eq id id ≡ true
itself id = (Decides-int_eq id id).1 refl

-- ---- a filter of attachments is one of heads, at a lease

module _ (p : Attachment → Bool) (q : ℕ → Bool) (id : ℤ) (same : (b : Attachment) → int_eq b.id id ≡ true → p b ≡ q b.head) where
  pub heads_filter : (list : List Attachment) → heads_of (filter p list) id ≡ filter q (heads_of list id)
  heads_filter [] = refl
  heads_filter (b ∷ list) = step (int_eq b.id id) (p b) refl refl (heads_filter list)
    where
      step : (t u : Bool) → int_eq b.id id ≡ t → p b ≡ u → heads_of (filter p list) id ≡ filter q (heads_of list id) → heads_of (cond u (b ∷ filter p list) (filter p list)) id ≡ filter q (heads (cond t (b ∷ of_id id list) (of_id id list)))
      step true true e f rest =
          ap (λ t. heads (cond t (b ∷ of_id id (filter p list)) (of_id id (filter p list)))) e
          ∙ ap (λ cs. b.head ∷ cs) rest
          ∙ sym (ap (λ t. cond t (b.head ∷ filter q (heads_of list id)) (filter q (heads_of list id))) (sym (same b e) ∙ f))
      step true false e f rest = rest ∙ sym (ap (λ t. cond t (b.head ∷ filter q (heads_of list id)) (filter q (heads_of list id))) (sym (same b e) ∙ f))
      step false true e f rest = ap (λ t. heads (cond t (b ∷ of_id id (filter p list)) (of_id id (filter p list)))) e ∙ rest
      step false false e f rest = rest

all_pass : (cs : List ℕ) → filter (λ c. true) cs ≡ cs
all_pass [] = refl
all_pass (c ∷ cs) = ap (λ ds. c ∷ ds) (all_pass cs)

none_pass : (cs : List ℕ) → filter (λ c. false) cs ≡ []
none_pass [] = refl
none_pass (c ∷ cs) = none_pass cs

-- ---- one goes

not_tied : (a b : ℤ) (q : Ordering) → int_eq a b ≡ false → is_eq (ordering_then (int_cmp a b) q) ≡ false
not_tied a b q other = go (int_cmp a b) refl
  where
    go : (o : Ordering) → int_cmp a b ≡ o → is_eq (ordering_then o q) ≡ false
    go Less e = refl
    go Equal e = absurd (true≢false (sym (ap is_eq e) ∙ other))
    go Greater e = refl

tied_by_key : (a b : ℤ) (q : Ordering) → int_eq a b ≡ true → ordering_then (int_cmp a b) q ≡ q
tied_by_key a b q same =
    let is : a ≡ b = (Decides-int_eq a b).0 same in
    ap (λ z. ordering_then (int_cmp z b) q) is ∙ ap (λ o. ordering_then o q) (tied_itself int_cmp_total b)

module _ (cells : Cells) (a : Attachment) where
  pub heads_without : (list : List Attachment) → heads_of (without_attachment cells list a) a.id ≡ filter (λ c. not (is_eq (head_cmp cells c a.head))) (heads_of list a.id)
  heads_without list = heads_filter (λ b. not (is_eq (attachment_cmp cells b a))) (λ c. not (is_eq (head_cmp cells c a.head))) a.id (λ b e. ap (λ o. not (is_eq o)) (tied_by_key b.id a.id (head_cmp cells b.head a.head) e)) list

  pub others_without : (list : List Attachment) (id : ℤ) → int_eq id a.id ≡ false → heads_of (without_attachment cells list a) id ≡ heads_of list id
  others_without list id other =
      heads_filter (λ b. not (is_eq (attachment_cmp cells b a))) (λ c. true) id (λ b e. ap not (not_tied b.id a.id (head_cmp cells b.head a.head) (ap (λ z. int_eq z a.id) ((Decides-int_eq b.id id).0 e) ∙ other))) list
      ∙ all_pass (heads_of list id)

  -- ---- one comes

  pub heads_with : (list : List Attachment) → IsStrictlySortedBy (attachment_cmp cells) list → heads_of (with_attachment cells list a) a.id ≡ put_in (head_cmp cells) (heads_of list a.id) a.head
  unfolding IsStrictlySortedBy
  heads_with [] up = ap (λ t. heads (cond t (a ∷ []) [])) (itself a.id)
  heads_with (b ∷ list) up = elim (stand b.id a.id) [
    | inl s ↦
        ap (λ o. heads_of (beside (ordering_then o (head_cmp cells a.head b.head)) a b list (with_attachment cells list a)) a.id) s.cmp
        ∙ ap (λ t. heads (cond t (b ∷ of_id a.id (with_attachment cells list a)) (of_id a.id (with_attachment cells list a)))) s.other
        ∙ heads_with list up.1
        ∙ sym (ap (λ t. put_in (head_cmp cells) (heads (cond t (b ∷ of_id a.id list) (of_id a.id list))) a.head) s.other)
    | inr rest ↦ elim rest [
      | inl s ↦
          ap (λ o. heads_of (beside (ordering_then o (head_cmp cells a.head b.head)) a b list (with_attachment cells list a)) a.id) s.cmp
          ∙ beside_same (head_cmp cells a.head b.head) s.same (heads_with list up.1)
          ∙ sym (ap (λ t. put_in (head_cmp cells) (heads (cond t (b ∷ of_id a.id list) (of_id a.id list))) a.head) s.same)
      | inr s ↦
          ap (λ o. heads_of (beside (ordering_then o (head_cmp cells a.head b.head)) a b list (with_attachment cells list a)) a.id) s.cmp
          ∙ ap (λ t. heads (cond t (a ∷ of_id a.id (b ∷ list)) (of_id a.id (b ∷ list)))) (itself a.id)
          ∙ ap (λ cs. a.head ∷ heads cs) (none_of a.id (b ∷ list) (s, all_above b.id a.id list s (rises cells (b ∷ list) up).0))
          ∙ sym (ap (λ cs. put_in (head_cmp cells) (heads cs) a.head) (none_of a.id (b ∷ list) (s, all_above b.id a.id list s (rises cells (b ∷ list) up).0)))
    ]
  ]
    where
      beside_same : (o : Ordering) → int_eq b.id a.id ≡ true → heads_of (with_attachment cells list a) a.id ≡ put_in (head_cmp cells) (heads_of list a.id) a.head → heads_of (beside o a b list (with_attachment cells list a)) a.id ≡ beside o a.head b.head (heads_of list a.id) (put_in (head_cmp cells) (heads_of list a.id) a.head)
      beside_same Less e rest =
          ap (λ t. heads (cond t (a ∷ of_id a.id (b ∷ list)) (of_id a.id (b ∷ list)))) (itself a.id)
          ∙ ap (λ t. a.head ∷ heads (cond t (b ∷ of_id a.id list) (of_id a.id list))) e
      beside_same Equal e rest = ap (λ t. heads (cond t (a ∷ of_id a.id list) (of_id a.id list))) (itself a.id)
      beside_same Greater e rest =
          ap (λ t. heads (cond t (b ∷ of_id a.id (with_attachment cells list a)) (of_id a.id (with_attachment cells list a)))) e
          ∙ ap (λ cs. b.head ∷ cs) rest

  pub others_with : (list : List Attachment) (id : ℤ) → int_eq a.id id ≡ false → heads_of (with_attachment cells list a) id ≡ heads_of list id
  others_with [] id other = ap (λ t. heads (cond t (a ∷ []) [])) other
  others_with (b ∷ list) id other = go (int_cmp a.id b.id) (head_cmp cells a.head b.head) refl (others_with list id other)
    where
      passed : (cs : List Attachment) → heads_of (a ∷ cs) id ≡ heads_of cs id
      passed cs = ap (λ t. heads (cond t (a ∷ of_id id cs) (of_id id cs))) other

      more : (t : Bool) → heads_of (with_attachment cells list a) id ≡ heads_of list id → heads (cond t (b ∷ of_id id (with_attachment cells list a)) (of_id id (with_attachment cells list a))) ≡ heads (cond t (b ∷ of_id id list) (of_id id list))
      more true same = ap (λ cs. b.head ∷ cs) same
      more false same = same

      go : (o q : Ordering) → int_cmp a.id b.id ≡ o → heads_of (with_attachment cells list a) id ≡ heads_of list id → heads_of (beside (ordering_then o q) a b list (with_attachment cells list a)) id ≡ heads_of (b ∷ list) id
      go Less q e rest = passed (b ∷ list)
      go Equal Less e rest = passed (b ∷ list)
      go Equal Equal e rest =
          let tied : a.id ≡ b.id = (Decides-int_eq a.id b.id).0 (ap is_eq e) in
          passed list ∙ sym (ap (λ t. heads (cond t (b ∷ of_id id list) (of_id id list))) (ap (λ z. int_eq z id) (sym tied) ∙ other))
      go Equal Greater e rest = more (int_eq b.id id) rest
      go Greater q e rest = more (int_eq b.id id) rest

-- ---- the keys of a lease go

pub ended_keys : (list : List Attachment) (id : ℤ) → heads_of (without_keys list id) id ≡ []
ended_keys list id = heads_filter (λ b. not (int_eq b.id id)) (λ c. false) id (λ b e. ap not e) list ∙ none_pass (heads_of list id)

pub other_keys : (list : List Attachment) (ended id : ℤ) → int_eq id ended ≡ false → heads_of (without_keys list ended) id ≡ heads_of list id
other_keys list ended id other = heads_filter (λ b. not (int_eq b.id ended)) (λ c. true) id (λ b e. ap not (ap (λ z. int_eq z ended) ((Decides-int_eq b.id id).0 e) ∙ other)) list ∙ all_pass (heads_of list id)
