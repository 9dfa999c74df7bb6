-- What is gathered is the changes of the first revisions.
use Rattle.std.proofs.Common.{◌≡◌, ℕ, zero, suc, ◌+◌, ◌<◌, ◌≤◌, List, [], ◌∷◌, ◌++◌, append_assoc, map, take, drop, fold, Bool, true, false, ◌||◌, cond, refl, sym, ap, ◌∙◌, subst, arith, inl, inr, ◌⊎◌}
use Rattle.std.specs.Prelude.{filter, nat_eq, nat_le, max, if◌then◌else◌}
use Rattle.std.specs.List.{AllByRecursion, dedup, dedup_from, list_any}
use Rattle.std.proofs.lemmas.Bool.Decides.{nat_tests}
use Rattle.std.proofs.lemmas.List.{append-nil}
use Rattle.etcd_model.specs.declared.state.Watch.{Watch}
use Rattle.etcd_model.specs.declared.state.Entry.{Entry}
use Rattle.etcd_model.specs.Changes.{Recorded, entry_of}
use Rattle.etcd_model.specs.Watches.{revisions}
use Rattle.etcd_model.specs.Watches as model
use Rattle.key_index.specs.Links.{Cells}
use Rattle.watch_sync.specs.declared.noted.Noted.{Noted}
use Rattle.watch_sync.specs.Ahead.{AreNotes}
use Rattle.watch_sync.specs.Agreeing.{NotesRise}
use Rattle.watch_sync.specs.Gathering.{Gathering, first_changes, gathered, is_last, next_after, next_told, nothing, offered, with_note}
use Rattle.watch_sync.proofs.Notes.{notes_kept, notes_revisions}

true_or_false : (b : Bool) → (b ≡ true) ⊎ (b ≡ false)
true_or_false true = inl refl
true_or_false false = inr refl

-- a full gathering stays
pub stays : (g : Gathering) (ns : List Noted) → g.more ≡ true → fold offered g ns ≡ g
stays g [] full = refl
stays g (n ∷ ns) full = ap (λ h. fold offered h ns) (same g n full) ∙ stays g ns full
  where
    same : (g : Gathering) (n : Noted) → g.more ≡ true → offered g n ≡ g
    same g n full = rw full refl

-- ---- the steps

same_step : (g : Gathering) (n : Noted) → g.more ≡ false → is_last g n.revision ≡ true → offered g n ≡ with_note g g.revisions n
same_step g n goes same = rw (goes, same) refl

stop_step : (g : Gathering) (n : Noted) → g.more ≡ false → is_last g n.revision ≡ false → nat_le 16 g.revisions ≡ true → offered g n ≡ record g { more = true }
stop_step g n goes other none = rw (goes, other, none) refl

new_step : (g : Gathering) (n : Noted) → g.more ≡ false → is_last g n.revision ≡ false → nat_le 16 g.revisions ≡ false → offered g n ≡ with_note g (g.revisions + 1) n
new_step g n goes other some = rw (goes, other, some) refl

of_last : (g : Gathering) (n : Noted) → 1 ≤ g.revisions → is_last g n.revision ≡ nat_eq n.revision g.last
of_last g n some = grind (arith, nat_tests)

-- ---- revisions, each once

abbrev numbers : List Noted → List ℕ
numbers ns = map (λ n. n.revision) ns

abbrev among : List ℕ → Noted → Bool
among rs n = list_any (nat_eq n.revision) rs

drop_none : (k : ℕ) → drop k (let none : List ℕ = [] in none) ≡ []
drop_none zero = refl
drop_none (suc k) = refl

-- the first is the one from which they go on
later : ℕ → List ℕ → List ℕ
later r [] = []
later r (x ∷ xs) = cond (nat_eq x r) (later r xs) (dedup_from nat_eq x xs)

begins : (r : ℕ) (xs : List ℕ) → dedup_from nat_eq r xs ≡ r ∷ later r xs
unfolding later
begins r [] = refl
begins r (x ∷ xs) = elim (nat_eq x r) as (λ b. cond b (dedup_from nat_eq r xs) (r ∷ dedup_from nat_eq x xs) ≡ r ∷ cond b (later r xs) (dedup_from nat_eq x xs)) [
  | true ↦ begins r xs
  | false ↦ refl
]

is_itself : (r : ℕ) → nat_eq r r ≡ true
is_itself r = grind (arith, nat_tests)

same_number : (a b : ℕ) → nat_eq a b ≡ true → a ≡ b
same_number a b is = grind (arith, nat_tests)

-- a note of the first revision is among those from it
is_among : (n : Noted) (k : ℕ) (rs : List ℕ) → among (take (suc k) (n.revision ∷ rs)) n ≡ true
is_among n k rs = rw (is_itself n.revision) refl

passes : (rs : List ℕ) (n : Noted) (ns : List Noted) → among rs n ≡ true → filter (among rs) (n ∷ ns) ≡ n ∷ filter (among rs) ns
passes rs n ns is = rw is refl

-- notes after a revision are not of it
beyond : (r : ℕ) (rs : List ℕ) (ns : List Noted) → AllByRecursion (λ m. r < m.revision) ns → filter (among (r ∷ rs)) ns ≡ filter (among rs) ns
beyond r rs [] all = refl
beyond r rs (n ∷ ns) all =
    let apart : nat_eq n.revision r ≡ false = grind (arith, nat_tests, all.0) in
    ap (λ b. cond (b || among rs n) (n ∷ filter (among (r ∷ rs)) ns) (filter (among (r ∷ rs)) ns)) apart
    ∙ ap (λ ms. cond (among rs n) (n ∷ ms) ms) (beyond r rs ns all.1)

none_among : (ns : List Noted) → filter (among []) ns ≡ []
none_among [] = refl
none_among (n ∷ ns) = none_among ns

all_above : (a b : ℕ) (ns : List Noted) → a < b → AllByRecursion (λ m. b ≤ m.revision) ns → AllByRecursion (λ m. a < m.revision) ns
all_above a b [] lt all = tt
all_above a b (n ∷ ns) lt all = (omega (arith, lt, all.0), all_above a b ns lt all.1)

-- ---- all of them

-- h is what g comes to over some notes, with place for k more revisions
record Gathers (g h : Gathering) (k : ℕ) (ns : List Noted) : Type 0 where
  notes : h.notes ≡ g.notes ++ filter (among (take (suc k) (dedup_from nat_eq g.last (numbers ns)))) ns
  next : (now from : ℕ)
      → model.next_after now from (take (suc k) (dedup_from nat_eq g.last (numbers ns))) (drop (suc k) (dedup_from nat_eq g.last (numbers ns))) ≡ next_after now from h

record CanGather (g : Gathering) (k : ℕ) (ns : List Noted) : Type 0 where
  goes : g.more ≡ false
  some : 1 ≤ g.revisions
  room : g.revisions + k ≡ 16
  from : AllByRecursion (λ m. g.last ≤ m.revision) ns
  rise : NotesRise ns

at_end : (g : Gathering) (k : ℕ) → CanGather g k [] → Gathers g g k []
at_end g k can = record {
  notes = sym (append-nil g.notes);
  next = λ now from. ap (λ (rs : List ℕ). model.next_after now from (g.last ∷ take k []) rs) (drop_none k) ∙ ap (λ b. if b then g.last + 1 else max from (now + 1)) (sym can.goes);
}

gathers_same : (g h : Gathering) (k : ℕ) (n : Noted) (ns : List Noted) → nat_eq n.revision g.last ≡ true → Gathers (with_note g g.revisions n) h k ns → Gathers g h k (n ∷ ns)
gathers_same g h k n ns same rest =
    let is = same_number n.revision g.last same in
    let rs = dedup_from nat_eq n.revision (numbers ns) in
    let all : dedup_from nat_eq g.last (numbers (n ∷ ns)) ≡ rs =
    ap (λ b. cond b (dedup_from nat_eq g.last (numbers ns)) (g.last ∷ rs)) same ∙ ap (λ r. dedup_from nat_eq r (numbers ns)) (sym is) in
    let here : among (take (suc k) rs) n ≡ true = ap (λ qs. among (take (suc k) qs) n) (begins n.revision (numbers ns)) ∙ is_among n k (later n.revision (numbers ns)) in
    record {
      notes =
          rest.notes
          ∙ append_assoc g.notes (n ∷ []) (filter (among (take (suc k) rs)) ns)
          ∙ ap (λ ms. g.notes ++ ms) (sym (passes (take (suc k) rs) n ns here))
          ∙ ap (λ qs. g.notes ++ filter (among (take (suc k) qs)) (n ∷ ns)) (sym all);
      next = λ now from. ap (λ qs. model.next_after now from (take (suc k) qs) (drop (suc k) qs)) all ∙ rest.next now from;
    }

gathers_full : (g : Gathering) (n : Noted) (ns : List Noted) → g.last < n.revision → AllByRecursion (λ m. n.revision ≤ m.revision) ns → Gathers g (record g { more = true }) 0 (n ∷ ns)
gathers_full g n ns above from =
    let apart : nat_eq n.revision g.last ≡ false = grind (arith, nat_tests, above) in
    let rs = dedup_from nat_eq n.revision (numbers ns) in
    let all : dedup_from nat_eq g.last (numbers (n ∷ ns)) ≡ g.last ∷ rs = ap (λ b. cond b (dedup_from nat_eq g.last (numbers ns)) (g.last ∷ rs)) apart in
    record {
      notes =
          sym (append-nil g.notes)
          ∙ ap (λ ms. g.notes ++ ms) (sym (beyond g.last [] (n ∷ ns) (above, all_above g.last n.revision ns above from) ∙ none_among (n ∷ ns)))
          ∙ ap (λ qs. g.notes ++ filter (among (take 1 qs)) (n ∷ ns)) (sym all);
      next = λ now from. ap (λ qs. model.next_after now from (take 1 qs) (drop 1 qs)) all ∙ ap (λ qs. model.next_after now from (g.last ∷ []) qs) (begins n.revision (numbers ns));
    }

gathers_new : (g h : Gathering) (j : ℕ) (n : Noted) (ns : List Noted) → g.last < n.revision → AllByRecursion (λ m. n.revision ≤ m.revision) ns → Gathers (with_note g (g.revisions + 1) n) h j ns → Gathers g h (suc j) (n ∷ ns)
gathers_new g h j n ns above from rest =
    let apart : nat_eq n.revision g.last ≡ false = grind (arith, nat_tests, above) in
    let rs = dedup_from nat_eq n.revision (numbers ns) in
    let tail = later n.revision (numbers ns) in
    let all : dedup_from nat_eq g.last (numbers (n ∷ ns)) ≡ g.last ∷ rs = ap (λ b. cond b (dedup_from nat_eq g.last (numbers ns)) (g.last ∷ rs)) apart in
    let here : among (take (suc j) rs) n ≡ true = ap (λ qs. among (take (suc j) qs) n) (begins n.revision (numbers ns)) ∙ is_among n j tail in
    record {
      notes =
          rest.notes
          ∙ append_assoc g.notes (n ∷ []) (filter (among (take (suc j) rs)) ns)
          ∙ ap (λ ms. g.notes ++ ms) (sym (passes (take (suc j) rs) n ns here))
          ∙ ap (λ ms. g.notes ++ ms) (sym (beyond g.last (take (suc j) rs) (n ∷ ns) (above, all_above g.last n.revision ns above from)))
          ∙ ap (λ qs. g.notes ++ filter (among (take (suc (suc j)) qs)) (n ∷ ns)) (sym all);
      next = λ now from.
          ap (λ qs. model.next_after now from (take (suc (suc j)) qs) (drop (suc (suc j)) qs)) all
          ∙ ap (λ qs. model.next_after now from (g.last ∷ take (suc j) qs) (drop (suc j) qs)) (begins n.revision (numbers ns))
          ∙ one_more now from (take j tail) (drop j tail)
          ∙ ap (λ qs. model.next_after now from (take (suc j) qs) (drop (suc j) qs)) (sym (begins n.revision (numbers ns)))
          ∙ rest.next now from;
    }
  where
    one_more : (now from : ℕ) (given left : List ℕ) → model.next_after now from (g.last ∷ n.revision ∷ given) left ≡ model.next_after now from (n.revision ∷ given) left
    one_more now from given [] = refl
    one_more now from given (r ∷ left) = refl

gathers : (ns : List Noted) (g : Gathering) (k : ℕ) → CanGather g k ns → Gathers g (fold offered g ns) k ns
gathers [] g k can = at_end g k can
gathers (n ∷ ns) g k can = elim (true_or_false (nat_eq n.revision g.last)) [
  | inl same ↦
      let is = same_number n.revision g.last same in
      let step = same_step g n can.goes (of_last g n can.some ∙ same) in
      subst (λ (h : Gathering). Gathers g (fold offered h ns) k (n ∷ ns)) (sym step)
      (gathers_same g (fold offered (with_note g g.revisions n) ns) k n ns same
      (gathers ns (with_note g g.revisions n) k (record { goes = refl; some = can.some; room = can.room; from = can.rise.0; rise = can.rise.1 })))
  | inr other ↦
      let above : g.last < n.revision = grind (arith, nat_tests, can.from.0) in
      apart k (of_last g n can.some ∙ other) above can.room (λ h j ready. gathers ns h j ready)
]
  where
    apart : (k : ℕ) → is_last g n.revision ≡ false → g.last < n.revision → g.revisions + k ≡ 16 → ((h : Gathering) (j : ℕ) → CanGather h j ns → Gathers h (fold offered h ns) j ns) → Gathers g (fold offered g (n ∷ ns)) k (n ∷ ns)
    apart zero other above room rest =
        let full : nat_le 16 g.revisions ≡ true = grind (arith, nat_tests, room) in
        let step = stop_step g n can.goes other full in
        let h : Gathering = record g { more = true } in
        subst (λ (q : Gathering). Gathers g q 0 (n ∷ ns)) (sym (ap (λ (q : Gathering). fold offered q ns) step ∙ stays h ns refl))
        (gathers_full g n ns above can.rise.0)
    apart (suc j) other above room rest =
        let some : nat_le 16 g.revisions ≡ false = grind (arith, nat_tests, room) in
        let step = new_step g n can.goes other some in
        subst (λ (q : Gathering). Gathers g (fold offered q ns) (suc j) (n ∷ ns)) (sym step)
        (gathers_new g (fold offered (with_note g (g.revisions + 1) n) ns) j n ns above can.rise.0
        (rest (with_note g (g.revisions + 1) n) j (record { goes = refl; some = omega arith; room = omega (arith, room); from = can.rise.0; rise = can.rise.1 })))

-- ---- by the definition

pub record IsFirst (ns : List Noted) (g : Gathering) : Type 0 where
  pub notes : g.notes ≡ filter (λ n. list_any (nat_eq n.revision) (take 16 (dedup nat_eq (map (λ m. m.revision) ns)))) ns
  pub next : (now from : ℕ) → model.next_after now from (take 16 (dedup nat_eq (map (λ m. m.revision) ns))) (drop 16 (dedup nat_eq (map (λ m. m.revision) ns))) ≡ next_after now from g

pub gathers_first : (ns : List Noted) → NotesRise ns → IsFirst ns (gathered ns)
gathers_first [] rise = record { notes = refl; next = λ now from. refl }
gathers_first (n ∷ ns) rise =
    let g = with_note nothing 1 n in
    let all = gathers ns g 15 (record { goes = refl; some = omega arith; room = refl; from = rise.0; rise = rise.1 }) in
    let rs = dedup_from nat_eq n.revision (numbers ns) in
    let here : among (take 16 rs) n ≡ true = ap (λ qs. among (take 16 qs) n) (begins n.revision (numbers ns)) ∙ is_among n 15 (later n.revision (numbers ns)) in
    record {
      notes = all.notes ∙ sym (passes (take 16 rs) n ns here);
      next = all.next;
    }

entry_revisions : (xs : List Recorded) → map (λ (e : Entry). e.revision) (map entry_of xs) ≡ map (λ (x : Recorded). x.revision) xs
entry_revisions [] = refl
entry_revisions (x ∷ xs) = ap (λ rs. x.revision ∷ rs) (entry_revisions xs)

-- of notes of some changes, those of the first of them
pub first_notes : (cells : Cells) (ns : List Noted) (xs : List Recorded) (g : Gathering) → AreNotes cells ns xs → NotesRise ns → g ≡ gathered ns → AreNotes cells g.notes (first_changes xs)
first_notes cells ns xs g are rise is =
    let same : dedup nat_eq (map (λ (m : Noted). m.revision) ns) ≡ revisions (map entry_of xs) = ap (dedup nat_eq) (notes_revisions cells ns xs are ∙ sym (entry_revisions xs)) in
    subst (λ ms. AreNotes cells ms (first_changes xs)) (sym (ap (λ (q : Gathering). q.notes) is ∙ (gathers_first ns rise).notes ∙ ap (λ rs. filter (λ (m : Noted). list_any (nat_eq m.revision) (take 16 rs)) ns) same))
    (notes_kept cells (λ r. list_any (nat_eq r) (take 16 (revisions (map entry_of xs)))) ns xs are)

pub first_next : (cells : Cells) (ns : List Noted) (xs : List Recorded) (g : Gathering) (now : ℕ) (w : Watch) → AreNotes cells ns xs → NotesRise ns → g ≡ gathered ns → next_after now w.next g ≡ next_told now w xs
first_next cells ns xs g now w are rise is =
    let same : dedup nat_eq (map (λ (m : Noted). m.revision) ns) ≡ revisions (map entry_of xs) = ap (dedup nat_eq) (notes_revisions cells ns xs are ∙ sym (entry_revisions xs)) in
    ap (next_after now w.next) is ∙ sym ((gathers_first ns rise).next now w.next)
    ∙ ap (λ rs. model.next_after now w.next (take 16 rs) (drop 16 rs)) same

-- the last revision is one of those that were offered
pub last_up_to : (c : ℕ) (ns : List Noted) (g : Gathering) → g.last ≤ c → AllByRecursion (λ n. n.revision ≤ c) ns → (fold offered g ns).last ≤ c
last_up_to c [] g last all = last
last_up_to c (n ∷ ns) g last all = last_up_to c ns (offered g n) (one g.more (is_last g n.revision) (nat_le 16 g.revisions)) all.1
  where
    one : (more same full : Bool) → (if more then g else (if same then with_note g g.revisions n else (if full then record g { more = true } else with_note g (g.revisions + 1) n))).last ≤ c
    one true same full = last
    one false true full = all.0
    one false false true = last
    one false false false = all.0

last_from : (a : ℕ) (ns : List Noted) (g : Gathering) → a ≤ g.last → AllByRecursion (λ n. a ≤ n.revision) ns → a ≤ (fold offered g ns).last
last_from a [] g last all = last
last_from a (n ∷ ns) g last all = last_from a ns (offered g n) (one g.more (is_last g n.revision) (nat_le 16 g.revisions)) all.1
  where
    one : (more same full : Bool) → a ≤ (if more then g else (if same then with_note g g.revisions n else (if full then record g { more = true } else with_note g (g.revisions + 1) n))).last
    one true same full = last
    one false true full = all.0
    one false false true = last
    one false false false = all.0

-- a watch never goes back
pub next_from : (a now : ℕ) (ns : List Noted) (g : Gathering) → g ≡ gathered ns → AllByRecursion (λ n. a ≤ n.revision) ns → a ≤ next_after now a g
next_from a now ns g is all = subst (λ (q : Gathering). a ≤ next_after now a q) (sym is) (of ns all)
  where
    by : (h : Gathering) → a ≤ h.last → a ≤ next_after now a h
    by h last = either h.more
      where
        either : (b : Bool) → a ≤ (if b then h.last + 1 else max a (now + 1))
        either true = omega (arith, last)
        either false = omega arith

    of : (ms : List Noted) → AllByRecursion (λ n. a ≤ n.revision) ms → a ≤ next_after now a (gathered ms)
    of [] every = omega arith
    of (m ∷ ms) every = by (gathered (m ∷ ms)) (last_from a ms (with_note nothing 1 m) every.0 every.1)
