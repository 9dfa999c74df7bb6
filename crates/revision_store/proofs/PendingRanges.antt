-- The rows that a range reads with changes pending.
use Rattle.std.proofs.Common.{◌≡◌, ℕ, zero, suc, ◌+◌, ◌<◌, ◌≤◌, List, [], ◌∷◌, ◌++◌, refl, ap, ◌∙◌, sym, arith}
use Rattle.std.specs.Prelude.{Bool, true, false, ◌&&◌, ℤ, pos, negsuc, Some, None, nat_le, nat_lt, int_lt, if◌then◌else◌}
use Rattle.std.specs.List.Sorted.{IsStrictlySortedBy}
use Rattle.std.specs.Str.{bytes_eq}
use Rattle.std.proofs.lemmas.Bool.{le-leb, leb-true, false_from_ne_true, true≢false}
use Rattle.std.proofs.lemmas.Bool.Decides.{nat_tests}
use Rattle.etcd_types.specs.declared.refusal.Refusal.TheVariants.{Compacted, Future}
use Rattle.etcd_model.specs.declared.state.Change.{Change}
use Rattle.etcd_model.specs.History.{key_of}
use Rattle.etcd_model.specs.Interval.{is_in}
use Rattle.etcd_model.specs.Changes.{Recorded, entry_at, live, recorded, record_revision, rows}
use Rattle.etcd_model.specs.Reads.{Reads, revision_read, rows_read, unreadable}
use Rattle.etcd_model.specs.Store.{Store, IsStore, after, reads_of}
use Rattle.etcd_model.specs.Order.{by_key}
use Rattle.model_laws.proofs.RecordedLaws.{live_push}
use Rattle.model_laws.proofs.RowLaws.{rows_rise, same_rows}
use Rattle.model_laws.proofs.SpaceLaws.{after_is_store, own_pend}

-- ---- revisions before the pending one

-- what is recorded at a later revision doesn't count
live_before : (n r : ℕ) (xs : List Recorded) (cs : List Change) (key : List ℕ) → r < n → live key r (record_revision n xs cs) ≡ live key r xs
live_before n r xs [] key h = refl
live_before n r xs (c ∷ cs) key h =
    let y = recorded xs (entry_at n c) in
    live_before n r (xs ++ y ∷ []) cs key h
    ∙ live_push key r xs y
    ∙ ap (λ (b : Bool). if b then y.row else live key r xs) (ap (λ b. bytes_eq (key_of c) key && b) later ∙ and_false (bytes_eq (key_of c) key))
  where
    later : nat_le n r ≡ false
    later = false_from_ne_true (nat_le n r) (λ t. omega (arith, leb-true n r t, h))

    and_false : (b : Bool) → (b && false) ≡ false
    and_false true = refl
    and_false false = refl

rows_before : (s : Store) (cs : List Change) (interval : List ℕ → Bool) (r : ℕ) → IsStore s → r ≤ s.current → rows interval r (after s cs).changes ≡ rows interval r s.changes
rows_before s [] interval r is h = refl
rows_before s (c ∷ cs) interval r is h =
    same_rows (after s (c ∷ cs)).changes s.changes (own_pend s (c ∷ cs) is) is.own r r
    (λ key. live_before (s.current + 1) r s.changes (c ∷ cs) key (omega (arith, h)))
    interval

-- a revision that can be read is no later than the current one
within_current : (s : Store) (r : ℕ) → unreadable (reads_of s) r ≡ None → r ≤ s.current
within_current s r h = below (by (nat_lt r s.compacted) (nat_lt s.current r) h)
  where
    by : (a b : Bool) → (if a then Some Compacted else if b then Some Future else None) ≡ None → b ≡ false
    by true b e = let bad : ⊥ = cc in absurd bad
    by false true e = let bad : ⊥ = cc in absurd bad
    by false false e = refl

    below : nat_lt s.current r ≡ false → r ≤ s.current
    below e = grind (arith, nat_tests)

-- ---- the rows that are read

-- at a revision that is named they are the store's
pub rows_named : (s : Store) (cs : List Change) (key end : List ℕ) (revision : ℤ) → IsStore s → int_lt (pos 0) revision ≡ true → unreadable (reads_of s) (revision_read (reads_of s) revision) ≡ None
    → rows_read (reads_of (after s cs)) key end revision ≡ rows_read (reads_of s) key end revision
rows_named s cs key end (negsuc n) is above readable = let bad : ⊥ = cc in absurd bad
rows_named s cs key end (pos zero) is above readable = let bad : ⊥ = cc in absurd bad
rows_named s [] key end (pos (suc n)) is above readable = refl
rows_named s (c ∷ cs) key end (pos (suc n)) is above readable =
    ap (λ rs. if nat_lt (suc n) s.compacted then [] else rs) (rows_before s (c ∷ cs) (is_in key end) (suc n) is (within_current s (suc n) readable))

-- and where none is named, the newest
pub rows_newest : (R : Reads) (key end : List ℕ) (revision : ℤ) → int_lt (pos 0) revision ≡ false → rows_read R key end revision ≡ R.rows key end
rows_newest R key end (negsuc n) above = refl
rows_newest R key end (pos zero) above = refl
rows_newest R key end (pos (suc n)) above = absurd (true≢false (sym (le-leb 1 (suc n) (omega arith)) ∙ above))

-- they ascend
pub rows_ascend : (s : Store) (cs : List Change) (key end : List ℕ) → IsStore s → IsStrictlySortedBy by_key ((reads_of (after s cs)).rows key end)
rows_ascend s cs key end is = let t = after s cs in rows_rise t.changes (after_is_store s cs is).own t.current (is_in key end)
