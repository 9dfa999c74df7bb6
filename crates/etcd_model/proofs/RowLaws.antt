-- The rows of some keys, where a look-up shows a row of each key that it is given.
use Rattle.std.proofs.Common.{◌≡◌, ℕ, List, [], ◌∷◌, refl, ap, ◌∙◌, sym, subst}
use Rattle.std.specs.Prelude.{Bool, true, false, cond, ◌||◌, fold, filter, filter_map, Option, Some, None, slice_get, find}
use Rattle.std.specs.Str.{bytes_eq}
use Rattle.std.specs.Option.{option_to_list}
use Rattle.std.specs.List.{All, AllByRecursion, list_any, cons_option}
use Rattle.std.specs.List.Sorted.{IsStrictlySortedBy}
use Rattle.std.specs.Ordering.{is_eq, ordering_reverse}
use Rattle.std.specs.Cmp.Lexicographic.{nat_list_cmp_total, bytes_decides}
use Rattle.std.specs.declared.cmp.Ordering.{Ordering}
use Rattle.std.specs.declared.cmp.Ordering.TheVariants.{Less, Equal, Greater}
use Rattle.std.proofs.lemmas.Bool.{or_parts, or_from}
use Rattle.std.proofs.lemmas.List.Elements.{All-nil, All-cons}
use Rattle.etcd_types.specs.declared.key_value.KeyValue.{KeyValue}
use Rattle.etcd_model.specs.Order.{beside, put_in, key_cmp, by_key}
use Rattle.etcd_model.proofs.OrderLaws.{below_less, below_tied, sorted-put_in, any-put_in_keys, tied_keys, bytes_eq-key_cmp}

find-filter : {X : Type 0} (test : X → Bool) (xs : List X) → find test xs ≡ slice_get (filter test xs) 0
find-filter test [] = refl
find-filter test (x ∷ xs) = elim (test x) as (λ b. cond b (Some x) (find test xs) ≡ slice_get (cond b (x ∷ filter test xs) (filter test xs)) 0) [
  | true ↦ refl
  | false ↦ find-filter test xs
]

only : {X : Type 0} (o : Option X) → slice_get (option_to_list o) 0 ≡ o
only None = refl
only (Some x) = refl

alone : {X : Type 0} (o : Option X) → cons_option o [] ≡ option_to_list o
alone None = refl
alone (Some x) = refl

-- a filter that nothing passes
pub filter-none : {X : Type 0} (test : X → Bool) (xs : List X) → list_any test xs ≡ false → filter test xs ≡ []
filter-none test [] h = refl
filter-none test (x ∷ xs) h =
    let parts = or_parts (test x) (list_any test xs) h in
    ap (λ b. cond b (x ∷ filter test xs) (filter test xs)) parts.0 ∙ filter-none test xs parts.1

-- a key after another is another
pub later_key : (key k : List ℕ) → key_cmp key k ≡ Less → bytes_eq k key ≡ false
later_key key k e = bytes_eq-key_cmp k key ∙ ap is_eq (nat_list_cmp_total.antisymm k key ∙ ap ordering_reverse e)

-- a key is not among later ones
none_later : (key : List ℕ) (ks : List (List ℕ)) → AllByRecursion (λ z. key_cmp key z ≡ Less) ks → list_any (λ z. bytes_eq z key) ks ≡ false
none_later key [] h = refl
none_later key (k ∷ ks) h = or_from (bytes_eq k key) (list_any (λ z. bytes_eq z key) ks) (later_key key k h.0) (none_later key ks h.1)

module _ (look : List ℕ → Option KeyValue) (own : (k : List ℕ) (r : KeyValue) → look k ≡ Some r → r.key ≡ k) where
  -- what holds of each row that is shown
  pub all_rows : (P : KeyValue → Type 0) → ((k : List ℕ) (r : KeyValue) → look k ≡ Some r → P r) → (ks : List (List ℕ)) → All P (filter_map look ks)
  all_rows P each [] = All-nil P
  all_rows P each (k ∷ ks) = elim (look k) as (λ o. look k ≡ o → All P (cons_option o (filter_map look ks))) [
    | None ↦ λ e. all_rows P each ks
    | Some r ↦ λ e. All-cons P r (filter_map look ks) (each k r e) (all_rows P each ks)
  ] refl

  below_rows : (key : List ℕ) (ks : List (List ℕ)) → AllByRecursion (λ z. key_cmp key z ≡ Less) ks → AllByRecursion (λ row. key_cmp key row.key ≡ Less) (filter_map look ks)
  below_rows key [] h = tt
  below_rows key (k ∷ ks) h = elim (look k) as (λ o. look k ≡ o → AllByRecursion (λ row. key_cmp key row.key ≡ Less) (cons_option o (filter_map look ks))) [
    | None ↦ λ e. below_rows key ks h.1
    | Some r ↦ λ e. (ap (key_cmp key) (own k r e) ∙ h.0, below_rows key ks h.1)
  ] refl

  -- the rows of ascending keys ascend
  pub sorted-rows : (ks : List (List ℕ)) → IsStrictlySortedBy key_cmp ks → IsStrictlySortedBy by_key (filter_map look ks)
  unfolding IsStrictlySortedBy
  sorted-rows [] h = tt
  sorted-rows (k ∷ ks) h = elim (look k) as (λ o. look k ≡ o → IsStrictlySortedBy by_key (cons_option o (filter_map look ks))) [
    | None ↦ λ e. sorted-rows ks h.1
    | Some r ↦ λ e. (subst (λ key. AllByRecursion (λ row. key_cmp key row.key ≡ Less) (filter_map look ks)) (sym (own k r e)) (below_rows k ks h.0), sorted-rows ks h.1)
  ] refl

  filter_more : (test : List ℕ → Bool) (k : List ℕ) (ks : List (List ℕ)) → filter (λ row. test row.key) (filter_map look ks) ≡ filter_map look (filter test ks) → (o : Option KeyValue) (b : Bool) → look k ≡ o → test k ≡ b →
      filter (λ row. test row.key) (cons_option o (filter_map look ks)) ≡ filter_map look (cond b (k ∷ filter test ks) (filter test ks))
  filter_more test k ks more None true e t = more ∙ ap (λ o. cons_option o (filter_map look (filter test ks))) (sym e)
  filter_more test k ks more None false e t = more
  filter_more test k ks more (Some r) true e t =
      let p : KeyValue → Bool = λ row. test row.key in
      ap (λ b. cond b (r ∷ filter p (filter_map look ks)) (filter p (filter_map look ks))) (ap test (own k r e) ∙ t)
      ∙ ap (λ rs. r ∷ rs) more ∙ ap (λ o. cons_option o (filter_map look (filter test ks))) (sym e)
  filter_more test k ks more (Some r) false e t =
      let p : KeyValue → Bool = λ row. test row.key in
      ap (λ b. cond b (r ∷ filter p (filter_map look ks)) (filter p (filter_map look ks))) (ap test (own k r e) ∙ t) ∙ more

  -- the rows whose keys pass are the rows of the keys that pass
  pub filter-rows : (test : List ℕ → Bool) (ks : List (List ℕ)) → filter (λ row. test row.key) (filter_map look ks) ≡ filter_map look (filter test ks)
  filter-rows test [] = refl
  filter-rows test (k ∷ ks) = filter_more test k ks (filter-rows test ks) (look k) (test k) refl refl

  -- of ascending keys, the rows of one key are what is shown of it, if a key that is not among them shows none
  pub rows_of_one : (key : List ℕ) (ks : List (List ℕ)) → IsStrictlySortedBy key_cmp ks → (list_any (λ k. bytes_eq k key) ks ≡ false → look key ≡ None) → filter_map look (filter (λ k. bytes_eq k key) ks) ≡ option_to_list (look key)
  unfolding IsStrictlySortedBy
  rows_of_one key [] h absent = ap option_to_list (sym (absent refl))
  rows_of_one key (k ∷ ks) h absent = elim (bytes_eq k key) as (λ b. bytes_eq k key ≡ b → filter_map look (cond b (k ∷ filter (λ z. bytes_eq z key) ks) (filter (λ z. bytes_eq z key) ks)) ≡ option_to_list (look key)) [
    | true ↦ λ e.
        let same : k ≡ key = (bytes_decides k key).0 e in
        let after : AllByRecursion (λ z. key_cmp key z ≡ Less) ks = subst (λ a. AllByRecursion (λ z. key_cmp a z ≡ Less) ks) same h.0 in
        ap (λ zs. cons_option (look k) (filter_map look zs)) (filter-none (λ z. bytes_eq z key) ks (none_later key ks after)) ∙ alone (look k) ∙ ap (λ a. option_to_list (look a)) same
    | false ↦ λ e. rows_of_one key ks h.1 (λ none. absent (ap (λ b. b || list_any (λ z. bytes_eq z key) ks) e ∙ none))
  ] refl

  -- the row of a key among them
  pub find-rows : (key : List ℕ) (ks : List (List ℕ)) → IsStrictlySortedBy key_cmp ks → (list_any (λ k. bytes_eq k key) ks ≡ false → look key ≡ None) → find (λ row. bytes_eq row.key key) (filter_map look ks) ≡ look key
  find-rows key ks h absent =
      find-filter (λ (row : KeyValue). bytes_eq row.key key) (filter_map look ks)
      ∙ ap (λ (rs : List KeyValue). slice_get rs 0) (filter-rows (λ k. bytes_eq k key) ks ∙ rows_of_one key ks h absent)
      ∙ only (look key)

-- Where a key that is not among the keys shows no row, the keys may as well be more.
module _ (look : List ℕ → Option KeyValue) where
  rows-one_more : (key : List ℕ) (ks : List (List ℕ)) → IsStrictlySortedBy key_cmp ks → (list_any (λ k. bytes_eq k key) ks ≡ false → look key ≡ None) → filter_map look (put_in key_cmp ks key) ≡ filter_map look ks
  unfolding IsStrictlySortedBy
  rows-one_more key [] h absent = ap (λ o. cons_option o []) (absent refl)
  rows-one_more key (k ∷ ks) h absent =
      elim (key_cmp key k) as (λ o. key_cmp key k ≡ o → filter_map look (beside o key k ks (put_in key_cmp ks key)) ≡ filter_map look (k ∷ ks)) [
        | Less ↦ λ e. ap (λ o. cons_option o (filter_map look (k ∷ ks))) (absent (none_later key (k ∷ ks) (e, below_less key_cmp nat_list_cmp_total key k e ks h.0)))
        | Equal ↦ λ e. ap (λ a. cons_option (look a) (filter_map look ks)) (tied_keys key k e)
        | Greater ↦ λ e.
            let apart : bytes_eq k key ≡ false = bytes_eq-key_cmp k key ∙ ap is_eq (nat_list_cmp_total.antisymm k key ∙ ap ordering_reverse e) in
            ap (cons_option (look k)) (rows-one_more key ks h.1 (λ none. absent (or_from (bytes_eq k key) (list_any (λ z. bytes_eq z key) ks) apart none)))
      ] refl

  pub rows-more_keys : (more ks : List (List ℕ)) → IsStrictlySortedBy key_cmp ks → ((key : List ℕ) → list_any (λ k. bytes_eq k key) ks ≡ false → look key ≡ None) → filter_map look (fold (put_in key_cmp) ks more) ≡ filter_map look ks
  rows-more_keys [] ks h absent = refl
  rows-more_keys (key ∷ more) ks h absent =
      rows-more_keys more (put_in key_cmp ks key) (sorted-put_in key_cmp nat_list_cmp_total key ks h)
      (λ k none. absent k (or_parts (bytes_eq key k) (list_any (λ z. bytes_eq z k) ks) (sym (any-put_in_keys (λ z. bytes_eq z k) key ks) ∙ none)).1)
      ∙ rows-one_more key ks h (absent key)

-- Where new is look but for the key of a row x, which it shows:
-- the rows of the keys with that one put in are the rows with x put in.
module _ (look new : List ℕ → Option KeyValue) (x : KeyValue)
    (own : (k : List ℕ) (r : KeyValue) → look k ≡ Some r → r.key ≡ k)
    (there : new x.key ≡ Some x)
    (other : (k : List ℕ) → bytes_eq x.key k ≡ false → new k ≡ look k)
  where
    -- how a look-up at another key, by the order of the keys
    others : (k : List ℕ) (o : Ordering) → key_cmp x.key k ≡ o → is_eq o ≡ false → new k ≡ look k
    others k o e apart = other k (bytes_eq-key_cmp x.key k ∙ ap is_eq e ∙ apart)

    same_rows : (ks : List (List ℕ)) → AllByRecursion (λ k. key_cmp x.key k ≡ Less) ks → filter_map new ks ≡ filter_map look ks
    same_rows [] h = refl
    same_rows (k ∷ ks) h = ap (λ o. cons_option o (filter_map new ks)) (others k Less h.0 refl) ∙ ap (cons_option (look k)) (same_rows ks h.1)

    -- x before rows that are all of later keys
    first : (ks : List (List ℕ)) → AllByRecursion (λ k. key_cmp x.key k ≡ Less) ks → put_in by_key (filter_map look ks) x ≡ x ∷ filter_map look ks
    first [] h = refl
    first (k ∷ ks) h = elim (look k) as (λ o. look k ≡ o → put_in by_key (cons_option o (filter_map look ks)) x ≡ x ∷ cons_option o (filter_map look ks)) [
      | None ↦ λ e. first ks h.1
      | Some r ↦ λ e. ap (λ o. beside o x r (filter_map look ks) (put_in by_key (filter_map look ks) x)) (ap (key_cmp x.key) (own k r e) ∙ h.0)
    ] refl

    -- x in the place of the row of its key
    in_place : (k : List ℕ) (ks : List (List ℕ)) → key_cmp x.key k ≡ Equal → AllByRecursion (λ z. key_cmp x.key z ≡ Less) ks → (o : Option KeyValue) → look k ≡ o →
        put_in by_key (cons_option o (filter_map look ks)) x ≡ x ∷ filter_map look ks
    in_place k ks e h None is = first ks h
    in_place k ks e h (Some r) is = ap (λ o. beside o x r (filter_map look ks) (put_in by_key (filter_map look ks) x)) (ap (key_cmp x.key) (own k r is) ∙ e)

    -- x behind the row of an earlier key
    behind : (k : List ℕ) (ks : List (List ℕ)) → key_cmp x.key k ≡ Greater → (o : Option KeyValue) → look k ≡ o →
        cons_option o (put_in by_key (filter_map look ks) x) ≡ put_in by_key (cons_option o (filter_map look ks)) x
    behind k ks e None is = refl
    behind k ks e (Some r) is = sym (ap (λ o. beside o x r (filter_map look ks) (put_in by_key (filter_map look ks) x)) (ap (key_cmp x.key) (own k r is) ∙ e))

    pub rows-put_in : (ks : List (List ℕ)) → IsStrictlySortedBy key_cmp ks → filter_map new (put_in key_cmp ks x.key) ≡ put_in by_key (filter_map look ks) x
    unfolding IsStrictlySortedBy
    rows-put_in [] h = ap (λ o. cons_option o []) there
    rows-put_in (k ∷ ks) h =
        elim (key_cmp x.key k) as (λ r. key_cmp x.key k ≡ r → filter_map new (beside r x.key k ks (put_in key_cmp ks x.key)) ≡ put_in by_key (cons_option (look k) (filter_map look ks)) x) [
          | Less ↦ λ e.
              let all = below_less key_cmp nat_list_cmp_total x.key k e ks h.0 in
              ap (λ o. cons_option o (filter_map new (k ∷ ks))) there ∙ ap (λ rs. x ∷ rs) (same_rows (k ∷ ks) (e, all)) ∙ sym (first (k ∷ ks) (e, all))
          | Equal ↦ λ e.
              let all = below_tied key_cmp nat_list_cmp_total x.key k e ks h.0 in
              ap (λ o. cons_option o (filter_map new ks)) there ∙ ap (λ rs. x ∷ rs) (same_rows ks all) ∙ sym (in_place k ks e all (look k) refl)
          | Greater ↦ λ e. ap (λ o. cons_option o (filter_map new (put_in key_cmp ks x.key))) (others k Greater e refl) ∙ ap (cons_option (look k)) (rows-put_in ks h.1) ∙ behind k ks e (look k) refl
        ] refl
