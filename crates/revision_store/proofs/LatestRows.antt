-- The rows of an interval that changed last are those that the last changes left.
use Rattle.std.proofs.Common.{◌≡◌, ℕ, ◌==◌, List, [], ◌∷◌, Bool, true, false, IfSome, Option, Some, None, cond, filter, refl, sym, ap, ◌∙◌, subst, inl, inr}
use Rattle.std.specs.Prelude.{◌&&◌, ◌||◌, filter_map, find, is_some, nat_eq, nat_le, option_and_then, if◌then◌else◌}
use Rattle.std.specs.List.{AllByRecursion, IsDistinct, cons_option, list_any}
use Rattle.std.specs.List.Sorted.{IsStrictlySortedBy}
use Rattle.std.specs.Option.{option_or}
use Rattle.std.specs.Ordering.{eq_by_cmp}
use Rattle.std.specs.declared.cmp.Ordering.TheVariants.{Less}
use Rattle.std.specs.Cmp.Lexicographic.{bytes_decides}
use Rattle.std.specs.Str.{bytes_eq}
use Rattle.std.proofs.lemmas.Bool.{and_parts, eq-eqb, eqb-true, false_from_ne_true, true≢false}
use Rattle.std.proofs.lemmas.List.Kept.{IsStrictlySortedBy-filter}
use Rattle.etcd_types.specs.declared.key_value.KeyValue.{KeyValue}
use Rattle.etcd_model.specs.Changes.{Recorded, OwnRow, is_up_to, last, live, or_before, rows, since}
use Rattle.etcd_model.specs.Order.{by_key, in_order, key_cmp}
use Rattle.etcd_model.proofs.OrderLaws.{bytes_eq-key_cmp, sorted-in_order}
use Rattle.model_laws.specs.Apart.{AreApart, is_same_place}
use Rattle.model_laws.specs.Recording.{IsIn}
use Rattle.model_laws.proofs.LastIsLaws.{all_in, last_in}
use Rattle.model_laws.proofs.LastLaws.{last_passes}
use Rattle.model_laws.proofs.RowLaws.{by_key_total, has_key, live-key, not_found, rows_by_their_keys, rows_rise}
use Rattle.range_rows.specs.Taking.{HaveOwnKeys}
use Rattle.range_rows.proofs.RangingCells.{all_kept}
use Rattle.revision_store.specs.Latest.{OwnRevision, row_from, row_left_by}
use Rattle.revision_store.specs.Pending.{row_put_to}
use Rattle.revision_store.proofs.PendingReads.{found_inside}
use Rattle.revision_store.proofs.PendingRows.{find_put_all}

-- ---- the row of a key among those that pass a test

-- a row, if it passes
abbrev if_passes : (KeyValue → Bool) → Option KeyValue → Option KeyValue
if_passes p o = option_and_then (λ row. if p row then Some row else None) o

-- it is that of the key among all, if that passes
find_passing : (key : List ℕ) (p : KeyValue → Bool) (rs : List KeyValue) → IsStrictlySortedBy by_key rs → find (has_key key) (filter p rs) ≡ if_passes p (find (has_key key) rs)
unfolding IsStrictlySortedBy
find_passing key p [] up = refl
find_passing key p (r ∷ rs) up =
    elim (bytes_eq r.key key) as (λ b. bytes_eq r.key key ≡ b → find (has_key key) (cond (p r) (r ∷ filter p rs) (filter p rs)) ≡ if_passes p (cond b (Some r) (find (has_key key) rs))) [
      | true ↦ λ e.
          elim (p r) as (λ b. find (has_key key) (cond b (r ∷ filter p rs) (filter p rs)) ≡ (if b then Some r else None)) [
            | true ↦ ap (λ b. cond b (Some r) (find (has_key key) (filter p rs))) e
            | false ↦
                let is : r.key ≡ key = (bytes_decides r.key key).0 e in
                not_found key (filter p rs) (subst (λ k. AllByRecursion (λ z. key_cmp k z.key ≡ Less) (filter p rs)) is (all_kept (λ z. key_cmp r.key z.key ≡ Less) p rs up.0))
          ]
      | false ↦ λ e.
          let rest = find_passing key p rs up.1 in
          elim (p r) as (λ b. find (has_key key) (cond b (r ∷ filter p rs) (filter p rs)) ≡ if_passes p (find (has_key key) rs)) [
            | true ↦ ap (λ b. cond b (Some r) (find (has_key key) (filter p rs))) e ∙ rest
            | false ↦ rest
          ]
    ] refl

-- ---- what changes left

module _ (xs : List Recorded) (own : AllByRecursion OwnRow xs) (interval : List ℕ → Bool) (r : ℕ) where
  -- the row that a change left
  abbrev left : Recorded → Option KeyValue
  left x = row_left_by interval r xs x

  -- what a row that a change left tells
  record IsLeft (x : Recorded) (row : KeyValue) : Type 0 where
    inside : interval x.key ≡ true
    shown : live x.key r xs ≡ Some row
    revision : row.mod_revision ≡ x.revision

  -- and what tells that
  is_left : (x : Recorded) (row : KeyValue) → left x ≡ Some row → IsLeft x row
  is_left x row h = by (interval x.key) refl h
    where
      from : (o : Option KeyValue) → live x.key r xs ≡ o → option_and_then (row_from x.revision) o ≡ Some row → (live x.key r xs ≡ Some row) × (row.mod_revision ≡ x.revision)
      from None is h = let bad : ⊥ = cc in absurd bad
      from (Some z) is h = test (z.mod_revision == x.revision) refl h
        where
          test : (b : Bool) → (z.mod_revision == x.revision) ≡ b → (if b then Some z else None) ≡ Some row → (live x.key r xs ≡ Some row) × (row.mod_revision ≡ x.revision)
          test true e h = let same : z ≡ row = cc in (is ∙ ap Some same, ap (λ (w : KeyValue). w.mod_revision) (sym same) ∙ eqb-true z.mod_revision x.revision e)
          test false e h = let bad : ⊥ = cc in absurd bad

      by : (b : Bool) → interval x.key ≡ b → (if b then option_and_then (row_from x.revision) (live x.key r xs) else None) ≡ Some row → IsLeft x row
      by true e h = let parts = from (live x.key r xs) refl h in record { inside = e; shown = parts.0; revision = parts.1 }
      by false e h = let bad : ⊥ = cc in absurd bad

  -- and the other way round
  left_is : (x : Recorded) (row : KeyValue) → IsLeft x row → left x ≡ Some row
  left_is x row is =
      ap (λ b. if b then option_and_then (row_from x.revision) (live x.key r xs) else None) is.inside
      ∙ ap (option_and_then (row_from x.revision)) is.shown
      ∙ ap (λ b. if b then Some row else None) (eq-eqb row.mod_revision x.revision is.revision)

  -- the change left a row to the key
  abbrev hits : List ℕ → Recorded → Bool
  hits key x = bytes_eq x.key key && is_some (left x)

  -- of all rows that changes left to a key the last is what it shows
  last_left : (key : List ℕ) (zs : List Recorded) → row_put_to key (filter_map left zs) ≡ (if list_any (hits key) zs then live key r xs else None)
  last_left key [] = refl
  last_left key (x ∷ zs) = by (left x) refl (last_left key zs)
    where
      over : (b : Bool) (o : Option KeyValue) (row : KeyValue) → live key r xs ≡ Some row → o ≡ (if b then live key r xs else None) → or_before o (Some row) ≡ live key r xs
      over true o row is e = ap (λ q. or_before q (Some row)) (e ∙ is) ∙ sym is
      over false o row is e = ap (λ q. or_before q (Some row)) e ∙ sym is

      none : (o : Option KeyValue) → or_before o None ≡ o
      none None = refl
      none (Some z) = refl

      by : (o : Option KeyValue) → left x ≡ o → row_put_to key (filter_map left zs) ≡ (if list_any (hits key) zs then live key r xs else None)
          → row_put_to key (cons_option o (filter_map left zs)) ≡ (if (bytes_eq x.key key && is_some o) || list_any (hits key) zs then live key r xs else None)
      by None e so = so ∙ ap (λ b. if b || list_any (hits key) zs then live key r xs else None) (neither (bytes_eq x.key key))
        where
          neither : (b : Bool) → false ≡ (b && false)
          neither true = refl
          neither false = refl
      by (Some row) e so =
          let is = is_left x row e in
          let same : row.key ≡ x.key = live-key xs own x.key r row is.shown in
          elim (bytes_eq x.key key) as (λ b. bytes_eq x.key key ≡ b → or_before (row_put_to key (filter_map left zs)) (if bytes_eq row.key key then Some row else None) ≡ (if (b && true) || list_any (hits key) zs then live key r xs else None)) [
            | true ↦ λ t.
                ap (λ b. or_before (row_put_to key (filter_map left zs)) (if b then Some row else None)) (ap (λ k. bytes_eq k key) same ∙ t)
                ∙ over (list_any (hits key) zs) (row_put_to key (filter_map left zs)) row (ap (λ k. live k r xs) (sym ((bytes_decides x.key key).0 t)) ∙ is.shown) so
            | false ↦ λ t.
                ap (λ b. or_before (row_put_to key (filter_map left zs)) (if b then Some row else None)) (ap (λ k. bytes_eq k key) same ∙ t)
                ∙ none (row_put_to key (filter_map left zs)) ∙ so
          ] refl

  -- a change that left a row to a key
  record Hit (key : List ℕ) (zs : List Recorded) : Type 0 where
    change : Recorded
    among : IsIn change zs
    of_key : change.key ≡ key
    row : KeyValue
    its : IsLeft change row

  -- where a change passes the test it did
  hit_is : (key : List ℕ) (x : Recorded) → hits key x ≡ true → (row : KeyValue) × IsLeft x row × (x.key ≡ key)
  hit_is key x h = by (left x) refl (and_parts (bytes_eq x.key key) (is_some (left x)) h).1
    where
      by : (o : Option KeyValue) → left x ≡ o → is_some o ≡ true → (row : KeyValue) × IsLeft x row × (x.key ≡ key)
      by None e t = let bad : ⊥ = cc in absurd bad
      by (Some row) e t = (row, is_left x row e, (bytes_decides x.key key).0 (and_parts (bytes_eq x.key key) (is_some (left x)) h).0)

  -- where one passes, one did
  some_hit : (key : List ℕ) (zs : List Recorded) → list_any (hits key) zs ≡ true → Hit key zs
  some_hit key [] any = let bad : ⊥ = cc in absurd bad
  some_hit key (x ∷ zs) any = by (hits key x) refl any (λ t. some_hit key zs t)
    where
      by : (b : Bool) → hits key x ≡ b → (b || list_any (hits key) zs) ≡ true → (list_any (hits key) zs ≡ true → Hit key zs) → Hit key (x ∷ zs)
      by true e t later = let h = hit_is key x e in record { change = x; among = inl refl; of_key = h.2; row = h.0; its = h.1 }
      by false e t later = let h = later t in record { change = h.change; among = inr h.among; of_key = h.of_key; row = h.row; its = h.its }

  -- and one that did is found
  hit_found : (key : List ℕ) (zs : List Recorded) (x : Recorded) → IsIn x zs → hits key x ≡ true → list_any (hits key) zs ≡ true
  hit_found key [] x has h = absurd has
  hit_found key (z ∷ zs) x has h = elim has [
    | inl e ↦ ap (λ b. b || list_any (hits key) zs) (ap (hits key) (sym e) ∙ h)
    | inr t ↦ ap (λ b. hits key z || b) (hit_found key zs x t h) ∙ either (hits key z)
  ]
    where
      either : (b : Bool) → (b || true) ≡ true
      either true = refl
      either false = refl

  -- ---- from a revision on

  module _ (b : ℕ) where
    -- the row changed last at the revision or later
    abbrev lately : KeyValue → Bool
    lately row = nat_le b row.mod_revision

    -- a change of the revision or later is among those from it on
    stays_in : (zs : List Recorded) (x : Recorded) → IsIn x zs → nat_le b x.revision ≡ true → IsIn x (since b zs)
    stays_in [] x has h = absurd has
    stays_in (z ∷ zs) x has h = elim has [
      | inl e ↦ subst (λ t. IsIn x (cond t (z ∷ since b zs) (since b zs))) (sym (ap (λ (y : Recorded). nat_le b y.revision) (sym e) ∙ h)) (inl e)
      | inr t ↦ elim (nat_le b z.revision) as (λ t. IsIn x (cond t (z ∷ since b zs) (since b zs))) [ true ↦ inr (stays_in zs x t h) | false ↦ stays_in zs x t h ]
    ]

    -- and each of those is of the revision or later
    is_since : (zs : List Recorded) (x : Recorded) → IsIn x (since b zs) → nat_le b x.revision ≡ true
    is_since [] x has = absurd has
    is_since (z ∷ zs) x has = by (nat_le b z.revision) refl has (λ h. is_since zs x h)
      where
        by : (t : Bool) → nat_le b z.revision ≡ t → IsIn x (cond t (z ∷ since b zs) (since b zs)) → (IsIn x (since b zs) → nat_le b x.revision ≡ true) → nat_le b x.revision ≡ true
        by true e h later = elim h [ inl is ↦ ap (λ (y : Recorded). nat_le b y.revision) is ∙ e | inr t ↦ later t ]
        by false e h later = later h

    -- the change of what a key shows
    shown_by : AllByRecursion OwnRevision xs → (key : List ℕ) (row : KeyValue) → interval key ≡ true → live key r xs ≡ Some row → lately row ≡ true → list_any (hits key) (since b xs) ≡ true
    shown_by mods key row inside shown late = by (last key r xs) refl shown
      where
        by : (o : Option Recorded) → last key r xs ≡ o → option_and_then (λ (x : Recorded). x.row) o ≡ Some row → list_any (hits key) (since b xs) ≡ true
        by None there h = let bad : ⊥ = cc in absurd bad
        by (Some x) there h =
            let has : IsIn x xs = last_in (is_up_to key r) xs x there in
            let of : bytes_eq x.key key ≡ true = (and_parts (bytes_eq x.key key) (nat_le x.revision r) (last_passes (is_up_to key r) xs x there)).0 in
            let same : x.key ≡ key = (bytes_decides x.key key).0 of in
            let at : row.mod_revision ≡ x.revision = subst (λ o. IfSome o (λ (w : KeyValue). w.mod_revision ≡ x.revision)) h (all_in OwnRevision xs x mods has) in
            let is : IsLeft x row = record { inside = ap interval same ∙ inside; shown = ap (λ k. live k r xs) same ∙ shown; revision = at } in
            let hit : hits key x ≡ true = ap (λ t. t && is_some (left x)) of ∙ ap is_some (left_is x row is) in
            hit_found key (since b xs) x (stays_in xs x has (ap (nat_le b) (sym at) ∙ late)) hit

    module _ (mods : AllByRecursion OwnRevision xs) where
      -- what the changes from the revision on left
      abbrev found : List KeyValue
      found = filter_map left (since b xs)

      -- a key has the same among those as among the interval's rows that changed lately
      both : (key : List ℕ) → option_or (if list_any (hits key) (since b xs) then live key r xs else None) None ≡ if_passes lately (if interval key then live key r xs else None)
      both key =
          elim (interval key) as (λ t. interval key ≡ t → option_or (if list_any (hits key) (since b xs) then live key r xs else None) None ≡ if_passes lately (if t then live key r xs else None)) [
            | false ↦ λ e. ap (λ t. option_or (if t then live key r xs else None) None) (false_from_ne_true (list_any (hits key) (since b xs)) (λ t.
                let h = some_hit key (since b xs) t in true≢false (sym h.its.inside ∙ ap interval h.of_key ∙ e)))
            | true ↦ λ e. by (live key r xs) refl e
          ] refl
        where
          neither : (t : Bool) → ◌≡◌ {A = Option KeyValue} (option_or (if t then None else None) None) None
          neither true = refl
          neither false = refl

          by : (o : Option KeyValue) → live key r xs ≡ o → interval key ≡ true → option_or (if list_any (hits key) (since b xs) then o else None) None ≡ if_passes lately o
          by None is e = neither (list_any (hits key) (since b xs))
          by (Some row) is e =
              elim (lately row) as (λ t. lately row ≡ t → option_or (if list_any (hits key) (since b xs) then Some row else None) None ≡ (if t then Some row else None)) [
                | true ↦ λ t. ap (λ d. option_or (if d then Some row else None) None) (shown_by mods key row e is t)
                | false ↦ λ t. ap (λ d. option_or (if d then Some row else None) None) (false_from_ne_true (list_any (hits key) (since b xs)) (λ any. (
                    let h = some_hit key (since b xs) any in
                    let same : Some row ≡ Some h.row = sym is ∙ ap (λ k. live k r xs) (sym h.of_key) ∙ h.its.shown in
                    let one : row ≡ h.row = cc in
                    true≢false (sym (is_since xs h.change h.among) ∙ ap (nat_le b) (sym h.its.revision) ∙ ap lately (sym one) ∙ t))))
              ] refl

      -- in the order of their keys they are the rows that were put at the revision or later
      pub found_in_order : in_order by_key found ≡ filter lately (rows interval r xs)
      found_in_order =
          rows_by_their_keys (in_order by_key found) (filter lately (rows interval r xs))
          (sorted-in_order by_key by_key_total found)
          (IsStrictlySortedBy-filter by_key lately (rows interval r xs) (rows_rise xs own r interval))
          (λ key.
          find_put_all key found []
          ∙ ap (λ o. option_or o None) (last_left key (since b xs))
          ∙ both key
          ∙ ap (if_passes lately) (sym (found_inside key interval r xs own))
          ∙ sym (find_passing key lately (rows interval r xs) (rows_rise xs own r interval)))

  -- no two changes left one key's row
  own_left : (zs : List Recorded) → AreApart zs → HaveOwnKeys (filter_map left zs)
  unfolding IsDistinct
  own_left [] apart = tt
  own_left (x ∷ zs) apart = by (left x) refl (own_left zs apart.1)
    where
      others : (row : KeyValue) → IsLeft x row → (ys : List Recorded) → AllByRecursion (λ y. is_same_place x y ≡ false) ys → AllByRecursion (λ z. eq_by_cmp by_key row z ≡ false) (filter_map left ys)
      others row is [] all = tt
      others row is (y ∷ ys) all = one (left y) refl (others row is ys all.1)
        where
          one : (o : Option KeyValue) → left y ≡ o → AllByRecursion (λ z. eq_by_cmp by_key row z ≡ false) (filter_map left ys) → AllByRecursion (λ z. eq_by_cmp by_key row z ≡ false) (cons_option o (filter_map left ys))
          one None e rest = rest
          one (Some z) e rest = (
            false_from_ne_true (eq_by_cmp by_key row z) (λ t.
                let its = is_left y z e in
                let mine : row.key ≡ x.key = live-key xs own x.key r row is.shown in
                let that : z.key ≡ y.key = live-key xs own y.key r z its.shown in
                let keys : row.key ≡ z.key = (bytes_decides row.key z.key).0 (bytes_eq-key_cmp row.key z.key ∙ t) in
                let same : y.key ≡ x.key = sym that ∙ sym keys ∙ mine in
                let shown : Some row ≡ Some z = sym is.shown ∙ ap (λ k. live k r xs) (sym same) ∙ its.shown in
                let row_is : row ≡ z = cc in
                let at : y.revision ≡ x.revision = sym its.revision ∙ ap (λ (w : KeyValue). w.mod_revision) (sym row_is) ∙ is.revision in
                true≢false (sym (ap (λ d. d && nat_eq y.revision x.revision) ((bytes_decides y.key x.key).1 same) ∙ eq-eqb y.revision x.revision at) ∙ all.0)),
            rest,
          )

      by : (o : Option KeyValue) → left x ≡ o → HaveOwnKeys (filter_map left zs) → HaveOwnKeys (cons_option o (filter_map left zs))
      by None e rest = rest
      by (Some row) e rest = (others row (is_left x row e) zs apart.0, rest)

  -- the changes from a revision on are apart too
  apart_since : (b : ℕ) (zs : List Recorded) → AreApart zs → AreApart (since b zs)
  apart_since b [] apart = tt
  apart_since b (x ∷ zs) apart = elim (nat_le b x.revision) as (λ t. AreApart (cond t (x ∷ since b zs) (since b zs))) [
    | true ↦ (all_kept (λ y. is_same_place x y ≡ false) (λ y. nat_le b y.revision) zs apart.0, apart_since b zs apart.1)
    | false ↦ apart_since b zs apart.1
  ]

  -- so what they left has keys of its own
  pub own_found : (b : ℕ) → AreApart xs → HaveOwnKeys (filter_map left (since b xs))
  own_found b apart = own_left (since b xs) (apart_since b xs apart)
