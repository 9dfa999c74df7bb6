-- A seat's lists, over the entries of its map.
use Rattle.std.specs.Prelude.{Result, Ok, Err, OnOk}
use Rattle.std.proofs.Common.{◌≡◌, ◌≢◌, ◌∙◌, sym, ap, subst, refl, ℕ, ◌+◌, ◌-◌, ◌^◌, min, Bool, true, false, cond, List, [], ◌∷◌, ◌++◌, map, Option, None, Some, is_some, Vec, true≢false}
use Rattle.std.specs.Str.{bytes_eq}
use Rattle.std.specs.Cmp.Lexicographic.{bytes_decides}
use Rattle.std.specs.Map.{lookup, set_value}
use Rattle.indexmap.specs.IndexMap.{insert_entry}
use Rattle.indexmap.proofs.MapLemmas.{absent_from_lookup, insert_entry-absent}
use Rattle.std.proofs.lemmas.List.{map-append}
use Rattle.etcd_model.proofs.NamedLaws.{lookup_last, lookup_others, others_set, own_set, test}
use Rattle.tenant_audit.specs.declared.tally.MadeCall.{MadeCall}
use Rattle.tenant_audit.specs.Seats.{SeatState, TallyState, seat_of, tally_on, has_tally, calls_in, calls_on, missed_in, missed_on, HasRoom, HasRoomOn, KeepsLists, KeepsOthers, AddsCall, AddsMissed}

-- ---- look-ups

pub shown : {A X : Type 0} (t : List ℕ) (es : List (Vec ℕ A × X)) → lookup (bytes_eq t) (map (λ e. (e.0.items, e.1)) es) ≡ lookup (test t) es
shown t [] = refl
shown t (e ∷ es) = ap (λ o. cond (bytes_eq t e.0.items) (Some e.1) o) (shown t es)

-- a key that no test finds goes last
pub goes_last : {A X : Type 0} (es : List (Vec ℕ A × X)) (k : Vec ℕ A) (v : X) (name : List ℕ) → k.items ≡ name → lookup (test name) es ≡ None → insert_entry (λ x y. bytes_eq x.items y.items) es k v ≡ es ++ (k, v) ∷ []
goes_last es k v name key none =
    insert_entry-absent (λ x y. bytes_eq x.items y.items) k v es (absent_from_lookup (test k.items) es (subst (λ (t : List ℕ). lookup (test t) es ≡ None) (sym key) none))

-- a list that stays, and the others too
pub all_keep : (t : List ℕ) (old new : SeatState) → calls_on t new ≡ calls_on t old → missed_on t new ≡ missed_on t old → KeepsOthers t old new → KeepsLists old new
all_keep t old new calls missed others = record {
  number = others.number;
  calls = λ u. by_calls u (bytes_eq u t) refl;
  missed = λ u. by_missed u (bytes_eq u t) refl;
}
  where
    by_calls : (u : List ℕ) (b : Bool) → bytes_eq u t ≡ b → calls_on u new ≡ calls_on u old
    by_calls u true e = subst (λ v. calls_on v new ≡ calls_on v old) (sym ((bytes_decides u t).0 e)) calls
    by_calls u false e = others.calls u (λ same. true≢false (sym ((bytes_decides u t).1 same) ∙ e))

    by_missed : (u : List ℕ) (b : Bool) → bytes_eq u t ≡ b → missed_on u new ≡ missed_on u old
    by_missed u true e = subst (λ v. missed_on v new ≡ missed_on v old) (sym ((bytes_decides u t).0 e)) missed
    by_missed u false e = others.missed u (λ same. true≢false (sym ((bytes_decides u t).1 same) ∙ e))

-- ---- one list is written

module _ {A : Type 0} (number : ℕ) (t : List ℕ) (es : List (Vec ℕ A × TallyState)) where
  -- what a look-up finds is what the seat shows
  pub found : (s : SeatState) (o : Option TallyState) → seat_of number es ≡ s → o ≡ lookup (test t) es → tally_on t s ≡ o
  found s o view at = sym (ap (tally_on t) view) ∙ shown t es ∙ sym at

  pub own : (v w : TallyState) → lookup (test t) es ≡ Some v → tally_on t (seat_of number (set_value (test t) es w)) ≡ Some w
  own v w at = shown t (set_value (test t) es w) ∙ own_set t es v w at

  other : (u : List ℕ) (w : TallyState) → u ≢ t → tally_on u (seat_of number (set_value (test t) es w)) ≡ tally_on u (seat_of number es)
  other u w differ = shown u (set_value (test t) es w) ∙ others_set t u es w differ ∙ sym (shown u es)

  -- the others stay
  pub others : (s n : SeatState) (w : TallyState) → seat_of number es ≡ s → seat_of number (set_value (test t) es w) ≡ n → KeepsOthers t s n
  others s n w old new =
      let same : (u : List ℕ) → u ≢ t → tally_on u n ≡ tally_on u s = λ u differ. sym (ap (tally_on u) new) ∙ other u w differ ∙ ap (tally_on u) old in
      record {
        number = sym (ap (λ (x : SeatState). x.number) new) ∙ ap (λ (x : SeatState). x.number) old;
        calls = λ u differ. ap calls_in (same u differ);
        missed = λ u differ. ap missed_in (same u differ);
      }

  -- what is written to the tally of the tenant
  pub call_set : (s : SeatState) (fs : List (Vec ℕ A × TallyState)) (v w : TallyState) (c : MadeCall) → seat_of number es ≡ s → Some v ≡ lookup (test t) es → fs ≡ set_value (test t) es w
      → w.calls ≡ v.calls ++ c ∷ [] → w.missed ≡ v.missed → AddsCall t c s (seat_of number fs)
  call_set s fs v w c view at set calls missed =
      let now : tally_on t (seat_of number fs) ≡ Some w = ap (λ xs. tally_on t (seat_of number xs)) set ∙ own v w (sym at) in
      let was : tally_on t s ≡ Some v = found s (Some v) view at in
      record {
        calls = ap calls_in now ∙ calls ∙ ap (λ cs. cs ++ c ∷ []) (sym (ap calls_in was));
        missed = ap missed_in now ∙ missed ∙ sym (ap missed_in was);
        others = others s (seat_of number fs) w view (sym (ap (seat_of number) set));
      }

  pub missed_set : (s : SeatState) (fs : List (Vec ℕ A × TallyState)) (v w : TallyState) → seat_of number es ≡ s → Some v ≡ lookup (test t) es → fs ≡ set_value (test t) es w
      → w.calls ≡ v.calls → w.missed ≡ min (v.missed + 1) (2 ^ 64 - 1) → AddsMissed t s (seat_of number fs)
  missed_set s fs v w view at set calls missed =
      let now : tally_on t (seat_of number fs) ≡ Some w = ap (λ xs. tally_on t (seat_of number xs)) set ∙ own v w (sym at) in
      let was : tally_on t s ≡ Some v = found s (Some v) view at in
      record {
        calls = ap calls_in now ∙ calls ∙ sym (ap calls_in was);
        missed = ap missed_in now ∙ missed ∙ ap (λ n. min (n + 1) (2 ^ 64 - 1)) (sym (ap missed_in was));
        others = others s (seat_of number fs) w view (sym (ap (seat_of number) set));
      }

  pub kept_set : (s : SeatState) (fs : List (Vec ℕ A × TallyState)) (v w : TallyState) → seat_of number es ≡ s → Some v ≡ lookup (test t) es → fs ≡ set_value (test t) es w
      → w.calls ≡ v.calls → w.missed ≡ v.missed → KeepsLists s (seat_of number fs)
  kept_set s fs v w view at set calls missed =
      let now : tally_on t (seat_of number fs) ≡ Some w = ap (λ xs. tally_on t (seat_of number xs)) set ∙ own v w (sym at) in
      let was : tally_on t s ≡ Some v = found s (Some v) view at in
      all_keep t s (seat_of number fs) (ap calls_in now ∙ calls ∙ sym (ap calls_in was)) (ap missed_in now ∙ missed ∙ sym (ap missed_in was))
      (others s (seat_of number fs) w view (sym (ap (seat_of number) set)))

  pub room_set : (fs : List (Vec ℕ A × TallyState)) (v w : TallyState) → Some v ≡ lookup (test t) es → fs ≡ set_value (test t) es w → HasRoom w → HasRoomOn t (seat_of number fs)
  room_set fs v w at set room =
      record { tally = w; is = ap (λ xs. tally_on t (seat_of number xs)) set ∙ own v w (sym at); room = room }

  -- a tally that holds no call is written after all others
  pub kept_begun : (s : SeatState) (gs fs : List (Vec ℕ A × TallyState)) (k : Vec ℕ A) (v : TallyState) → seat_of number es ≡ s → None ≡ lookup (test t) es → k.items ≡ t
      → gs ≡ es ++ (k, v) ∷ [] → fs ≡ gs → v.calls ≡ [] → v.missed ≡ 0 → KeepsLists s (seat_of number fs) × (has_tally t (seat_of number fs) ≡ true)
  kept_begun s gs fs k v view none key entries same calls missed =
      let shows : (seat_of number fs).tallies ≡ (seat_of number es).tallies ++ (t, v) ∷ [] =
      ap (map (λ e. (e.0.items, e.1))) (same ∙ entries) ∙ map-append (λ e. (e.0.items, e.1)) es ((k, v) ∷ []) ∙ ap (λ n. (seat_of number es).tallies ++ (n, v) ∷ []) key in
      let absent : lookup (bytes_eq t) (seat_of number es).tallies ≡ None = shown t es ∙ sym none in
      let was : tally_on t s ≡ None = found s None view none in
      let now : tally_on t (seat_of number fs) ≡ Some v = ap (lookup (bytes_eq t)) shows ∙ lookup_last t (seat_of number es).tallies v absent in
      let rest : (u : List ℕ) → u ≢ t → tally_on u (seat_of number fs) ≡ tally_on u s = λ u differ.
      ap (lookup (bytes_eq u)) shows ∙ lookup_others t u (seat_of number es).tallies v differ ∙ ap (tally_on u) view in (
        all_keep t s (seat_of number fs) (ap calls_in now ∙ calls ∙ sym (ap calls_in was)) (ap missed_in now ∙ missed ∙ sym (ap missed_in was))
            (record { number = ap (λ (x : SeatState). x.number) view; calls = λ u differ. ap calls_in (rest u differ); missed = λ u differ. ap missed_in (rest u differ) }),
        ap is_some now,
      )

pub on_ok : {B E P Q : Type 0} (r : Result B E) → (P → Q) → OnOk r P → OnOk r Q
on_ok (Ok x) f h = f h
on_ok (Err e) f h = h

-- ---- a call, once its room is made

pub keeps_twice : (old mid new : SeatState) → KeepsLists old mid → KeepsLists mid new → KeepsLists old new
keeps_twice old mid new first second = record {
  number = second.number ∙ first.number;
  calls = λ t. second.calls t ∙ first.calls t;
  missed = λ t. second.missed t ∙ first.missed t;
}

pub same_call : (t : List ℕ) (c d : MadeCall) (old new : SeatState) → c ≡ d → AddsCall t c old new → AddsCall t d old new
same_call t c d old new same adds = subst (λ (made : MadeCall). AddsCall t made old new) same adds

pub added_after : (t : List ℕ) (c : MadeCall) (old mid new : SeatState) → KeepsLists old mid → AddsCall t c mid new → AddsCall t c old new
added_after t c old mid new keeps adds = record {
  calls = adds.calls ∙ ap (λ cs. cs ++ c ∷ []) (keeps.calls t);
  missed = adds.missed ∙ keeps.missed t;
  others = record {
    number = adds.others.number ∙ keeps.number;
    calls = λ u differ. adds.others.calls u differ ∙ keeps.calls u;
    missed = λ u differ. adds.others.missed u differ ∙ keeps.missed u;
  };
}

pub missed_after : (t : List ℕ) (old mid new : SeatState) → KeepsLists old mid → AddsMissed t mid new → AddsMissed t old new
missed_after t old mid new keeps adds = record {
  calls = adds.calls ∙ keeps.calls t;
  missed = adds.missed ∙ ap (λ n. min (n + 1) (2 ^ 64 - 1)) (keeps.missed t);
  others = record {
    number = adds.others.number ∙ keeps.number;
    calls = λ u differ. adds.others.calls u differ ∙ keeps.calls u;
    missed = λ u differ. adds.others.missed u differ ∙ keeps.missed u;
  };
}
