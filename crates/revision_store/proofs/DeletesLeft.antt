-- A delete left no row to its key: what that shows is of another change.
use Rattle.std.proofs.Common.{◌≡◌, ◌∙◌, sym, ap, subst, refl, ℕ, List, [], ◌∷◌, Bool, true, false, cond, Option, Some, None, IfSome, is_some, map, ◌==◌, if◌then◌else◌, nat_le, inl, inr}
use Rattle.std.specs.Prelude.{option_and_then, option_map}
use Rattle.std.specs.List.{AllByRecursion}
use Rattle.std.specs.Cmp.Lexicographic.{bytes_decides}
use Rattle.std.specs.Str.{bytes_eq}
use Rattle.std.proofs.lemmas.Bool.{and_parts, cases_Bool, eqb-true}
use Rattle.std.proofs.lemmas.Option.{same_Some}
use Rattle.etcd_types.specs.declared.key_value.KeyValue.{KeyValue}
use Rattle.etcd_model.specs.Changes.{Recorded, Rises, is_up_to, last, live, since}
use Rattle.model_laws.specs.Apart.{AreApart}
use Rattle.model_laws.specs.Recording.{IsIn}
use Rattle.model_laws.proofs.ApartLaws.{last_of_own}
use Rattle.model_laws.proofs.LastIsLaws.{all_in, last_in}
use Rattle.model_laws.proofs.LastLaws.{last_passes}
use Rattle.key_index.specs.Links.{Cells, Linked, change_at}
use Rattle.revision_store.specs.Latest.{LeavesNone, LeavesNoneAt, OwnRevision, row_from, row_left_by}

module _ (interval : List ℕ → Bool) (r : ℕ) (xs : List Recorded) (rises : Rises xs) (apart : AreApart xs) (mods : AllByRecursion OwnRevision xs) where
  shown_by_another : (x : Recorded) (o : Option Recorded) → IsIn x xs → x.row ≡ None → last x.key r xs ≡ o → option_and_then (row_from x.revision) (option_and_then (λ (y : Recorded). y.row) o) ≡ None
  shown_by_another x None has gone there = refl
  shown_by_another x (Some y) has gone there = by y.row refl
    where
      by : (w : Option KeyValue) → y.row ≡ w → option_and_then (row_from x.revision) w ≡ None
      by None e = refl
      by (Some row) e = elim (cases_Bool (row.mod_revision == x.revision)) [
        | inl same ↦
            let has_y : IsIn y xs = last_in (is_up_to x.key r) xs y there in
            let of : y.key ≡ x.key = (bytes_decides y.key x.key).0 (and_parts (bytes_eq y.key x.key) (nat_le y.revision r) (last_passes (is_up_to x.key r) xs y there)).0 in
            let at : row.mod_revision ≡ y.revision = subst (λ o. IfSome o (λ (w : KeyValue). w.mod_revision ≡ y.revision)) e (all_in OwnRevision xs y mods has_y) in
            let when : y.revision ≡ x.revision = sym at ∙ eqb-true row.mod_revision x.revision same in
            let one : Some y ≡ Some x = sym (last_of_own xs y rises apart has_y) ∙ ap (λ k. last k y.revision xs) of ∙ ap (λ n. last x.key n xs) when ∙ last_of_own xs x rises apart has in
            let none : Some row ≡ None = sym e ∙ ap (λ (w : Recorded). w.row) (same_Some y x one) ∙ gone in
            let bad : ⊥ = cc in absurd bad
        | inr other ↦ ap (λ b. if b then Some row else None) other
      ]

  leaves_none : (x : Recorded) → IsIn x xs → LeavesNone interval r xs x
  leaves_none x has gone = elim (interval x.key) as (λ t. (if t then option_and_then (row_from x.revision) (live x.key r xs) else None) ≡ None) [
    | true ↦ shown_by_another x (last x.key r xs) has gone refl
    | false ↦ refl
  ]

  all_leave_none : (zs : List Recorded) → ((x : Recorded) → IsIn x zs → IsIn x xs) → AllByRecursion (LeavesNone interval r xs) zs
  all_leave_none [] among = tt
  all_leave_none (z ∷ zs) among = (leaves_none z (among z (inl refl)), all_leave_none zs (λ x h. among x (inr h)))

  among_since : (b : ℕ) (zs : List Recorded) (x : Recorded) → IsIn x (since b zs) → IsIn x zs
  among_since b [] x has = absurd has
  among_since b (z ∷ zs) x has = by (nat_le b z.revision) has (λ h. among_since b zs x h)
    where
      by : (t : Bool) → IsIn x (cond t (z ∷ since b zs) (since b zs)) → (IsIn x (since b zs) → IsIn x zs) → IsIn x (z ∷ zs)
      by true h later = elim h [ inl is ↦ inl is | inr t ↦ inr (later t) ]
      by false h later = inr (later h)

  module _ (cells : Cells) where
    at_cells : (cs : List ℕ) (ys : List Recorded) → map (change_at cells) cs ≡ map Some ys → AllByRecursion (LeavesNone interval r xs) ys → AllByRecursion (LeavesNoneAt cells interval r xs) cs
    at_cells [] ys e all = tt
    at_cells (c ∷ cs) [] e all = let bad : ⊥ = cc in absurd bad
    at_cells (c ∷ cs) (y ∷ ys) e all =
        let first : change_at cells c ≡ Some y = cc in
        let rest : map (change_at cells) cs ≡ map Some ys = cc in
        (subst (λ o. IfSome o (LeavesNone interval r xs)) (sym first) all.0, at_cells cs ys rest all.1)

    -- the deletes among the changes from a revision on
    pub deletes_left : (b : ℕ) (cs : List ℕ) → map (change_at cells) cs ≡ map Some (since b xs) → AllByRecursion (LeavesNoneAt cells interval r xs) cs
    deletes_left b cs are = at_cells cs (since b xs) are (all_leave_none (since b xs) (λ x h. among_since b xs x h))

-- a change is a put where its record is
pub kind_is : (o : Option Linked) (put : Bool) → IfSome o (λ (e : Linked). put ≡ is_some e.change.row) → IfSome (option_map (λ (e : Linked). e.change) o) (λ (x : Recorded). put ≡ is_some x.row)
kind_is None put h = tt
kind_is (Some e) put h = h

-- none of a change that is no put
pub left_deleted : (interval : List ℕ → Bool) (r : ℕ) (xs : List Recorded) (o : Option Recorded) (put : Bool) → put ≡ false → IfSome o (λ (x : Recorded). put ≡ is_some x.row) → IfSome o (LeavesNone interval r xs) → None ≡ option_and_then (row_left_by interval r xs) o
left_deleted interval r xs None put not is gone = refl
left_deleted interval r xs (Some x) put not is gone = sym (gone (by x.row (sym is ∙ not)))
  where
    by : (w : Option KeyValue) → is_some w ≡ false → w ≡ None
    by None e = refl
    by (Some row) e = let bad : ⊥ = cc in absurd bad
