-- The events of kept changes.
use Rattle.std.proofs.Common.{◌≡◌, ℕ, ◌+◌, ◌<◌, ◌≤◌, List, [], ◌∷◌, ◌++◌, append_assoc, length, get_or, drop, map, Bool, true, false, ◌&&◌, refl, sym, ap, ◌∙◌, subst, arith, inl, inr}
use Rattle.std.specs.Prelude.{ℤ, Option, Some, None, IfSome, IsSome, is_some, nat_le, nat_lt, option_and_then, option_map, unwrap_or, if◌then◌else◌}
use Rattle.std.specs.List.{AllByRecursion, cons_option}
use Rattle.std.specs.Option.{option_map_or}
use Rattle.std.specs.Str.{bytes_eq}
use Rattle.std.specs.Cmp.Lexicographic.{bytes_decides}
use Rattle.std.proofs.lemmas.Bool.Decides.{nat_tests}
use Rattle.std.proofs.lemmas.List.{append-nil, drop_all, drop_more}
use Rattle.etcd_types.specs.declared.key_value.Event.{Event}
use Rattle.etcd_types.specs.declared.key_value.EventKind.TheVariants.{Put, Delete}
use Rattle.etcd_types.specs.declared.key_value.KeyValue.{KeyValue}
use Rattle.etcd_types.specs.declared.reply.Header.{Header}
use Rattle.etcd_types.specs.declared.reply.Reply.TheVariants.{Events}
use Rattle.etcd_model.specs.declared.state.Watch.{Watch}
use Rattle.etcd_model.specs.Changes.{Recorded, Rises, change_by, is_up_to, live}
use Rattle.etcd_model.specs.Store.{Store, kept_store}
use Rattle.etcd_model.specs.Watches as model
use Rattle.etcd_model.specs.Watches.{bare, response}
use Rattle.model_laws.specs.Apart.{AreApart, is_same_place}
use Rattle.model_laws.specs.Recording.{IsIn}
use Rattle.model_laws.proofs.LastIsLaws.{all_in, last_is}
use Rattle.model_laws.proofs.RecordedLaws.{all_weaker}
use Rattle.key_index.specs.Links.{Cells, change_at}
use Rattle.key_index.proofs.Order.{is_it_up_to}
use Rattle.revision_store.specs.Plans.{key_at}
use Rattle.revision_store.specs.Stored.{StoreState, cells, row_at}
use Rattle.watch_sync.specs.declared.noted.Noted.{Noted}
use Rattle.watch_sync.specs.Ahead.{AreNotes, ahead, is_put_at, revision_at}
use Rattle.watch_sync.specs.Gathering.{first_changes}
use Rattle.watch_sync.specs.Telling.{IsKept, event_of, events_at, row_asked, with_store}
use Rattle.watch_sync.proofs.Changes.{all_filtered, picked_from}
use Rattle.watch_sync.proofs.Rings.{wants}

-- ---- a change is what its key shows at its revision

both_keys : (x y : Recorded) → y.key ≡ x.key → y.revision ≡ x.revision → is_same_place x y ≡ true
both_keys x y key revision =
    let keys : bytes_eq y.key x.key ≡ true = (bytes_decides y.key x.key).1 key in
    grind (arith, nat_tests)

-- a list of changes that are apart has each once
once : (xs : List Recorded) (x y : Recorded) → AreApart xs → IsIn x xs → IsIn y xs → y.key ≡ x.key → y.revision ≡ x.revision → y ≡ x
once [] x y apart here there key revision = absurd here
once (z ∷ zs) x y apart here there key revision = elim here [
  | inl first ↦ elim there [
    | inl second ↦ second ∙ sym first
    | inr later ↦ absurd (never z y (all_in (λ q. is_same_place z q ≡ false) zs y apart.0 later) (both_keys z y (key ∙ ap (λ (q : Recorded). q.key) first) (revision ∙ ap (λ (q : Recorded). q.revision) first)))
  ]
  | inr before ↦ elim there [
    | inl second ↦ absurd (never z x (all_in (λ q. is_same_place z q ≡ false) zs x apart.0 before) (both_keys z x (sym key ∙ ap (λ (q : Recorded). q.key) second) (sym revision ∙ ap (λ (q : Recorded). q.revision) second)))
    | inr later ↦ once zs x y apart.1 before later key revision
  ]
]
  where
    never : (p q : Recorded) → is_same_place p q ≡ false → is_same_place p q ≡ true → ⊥
    never p q isnt is = cc

up_to_revision : (key : List ℕ) (r : ℕ) (w : Recorded) → is_up_to key r w ≡ true → w.revision ≤ r
up_to_revision key r w is = grind (arith, nat_tests)

pub row_shown : (xs : List Recorded) (x : Recorded) → Rises xs → AreApart xs → IsIn x xs → live x.key x.revision xs ≡ x.row
row_shown xs x rises apart here = ap (option_and_then (λ (y : Recorded). y.row))
    (last_is xs x.key x.revision x rises here (is_it_up_to x x.key x.revision refl (omega arith)) (λ w there up. up_to_revision x.key x.revision w up) (λ w there key revision. once xs x w apart here there key revision))

-- ---- the event of a change

abbrev put_of : KeyValue → Option KeyValue → Event
put_of kv before = record { kind = Put; kv = kv; prev_kv = before }

abbrev delete_of : KeyValue → Option KeyValue → Event
delete_of kv before = record { kind = Delete; kv = kv; prev_kv = before }

shown_at : (s : Store) (key : List ℕ) (revision : ℕ) (row : KeyValue) → s.compacted ≤ revision → live key revision s.changes ≡ Some row → kept_store.row_at s key revision ≡ Some row
shown_at s key revision row whole is =
    let not_below : nat_lt revision s.compacted ≡ false = grind (arith, nat_tests) in
    ap (λ b. if b then None else live key revision s.changes) not_below ∙ is

pub put_event : (s : Store) (w : Watch) (x : Recorded) (row : KeyValue) (before : Option KeyValue) → Rises s.changes → AreApart s.changes → IsIn x s.changes → s.compacted ≤ x.revision
    → x.row ≡ Some row → before ≡ row_asked s w x
    → record { kind = Put; kv = row; prev_kv = before } ≡ event_of s w x
put_event s w x row before rises apart here whole is was =
    let shown = shown_at s x.key x.revision row whole (row_shown s.changes x rises apart here ∙ is) in
    ap (λ o. put_of (unwrap_or o (bare x.key x.revision)) before) (sym shown)
    ∙ ap (λ o. put_of (unwrap_or (kept_store.row_at s x.key x.revision) (bare x.key x.revision)) o) was
    ∙ ap (λ o. model.event_of kept_store (with_store s) w (record { revision = x.revision; change = change_by x.key o }) (change_by x.key o)) (sym is)

pub delete_event : (s : Store) (w : Watch) (x : Recorded) (before : Option KeyValue) → x.row ≡ None → before ≡ row_asked s w x
    → record { kind = Delete; kv = bare x.key x.revision; prev_kv = before } ≡ event_of s w x
delete_event s w x before is was =
    ap (delete_of (bare x.key x.revision)) was
    ∙ ap (λ o. model.event_of kept_store (with_store s) w (record { revision = x.revision; change = change_by x.key o }) (change_by x.key o)) (sym is)

-- ---- the same under cells

pub told_put : (s : StoreState) (w : Watch) (c : ℕ) (row : KeyValue) (before : Option KeyValue) → Rises s.kept.changes → AreApart s.kept.changes → IsKept s c
    → row_at (cells s) c ≡ Some row → IfSome (change_at (cells s) c) (λ x. before ≡ row_asked s.kept w x)
    → IfSome (change_at (cells s) c) (λ x. record { kind = Put; kv = row; prev_kv = before } ≡ event_of s.kept w x)
told_put s w c row before rises apart k is was =
    let row_is : k.change.row ≡ Some row = ap (option_and_then (λ (x : Recorded). x.row)) (sym k.at) ∙ is in
    let before_is : before ≡ row_asked s.kept w k.change = subst (λ o. IfSome o (λ x. before ≡ row_asked s.kept w x)) k.at was in
    subst (λ o. IfSome o (λ x. record { kind = Put; kv = row; prev_kv = before } ≡ event_of s.kept w x)) (sym k.at)
    (put_event s.kept w k.change row before rises apart k.kept k.whole row_is before_is)

pub told_delete : (s : StoreState) (w : Watch) (c : ℕ) (kv : KeyValue) (before : Option KeyValue) → IsKept s c → is_put_at (cells s) c ≡ false
    → kv ≡ bare (key_at (cells s) c) (revision_at (cells s) c) → IfSome (change_at (cells s) c) (λ x. before ≡ row_asked s.kept w x)
    → IfSome (change_at (cells s) c) (λ x. record { kind = Delete; kv = kv; prev_kv = before } ≡ event_of s.kept w x)
told_delete s w c kv before k isnt is was =
    let none : is_some k.change.row ≡ false = ap (λ (o : Option Recorded). option_map_or (λ (x : Recorded). is_some x.row) o false) (sym k.at) ∙ isnt in
    let row_is : k.change.row ≡ None = nothing k.change.row none in
    let key_is : key_at (cells s) c ≡ k.change.key = ap (λ (o : Option Recorded). unwrap_or (option_map (λ (x : Recorded). x.key) o) []) k.at in
    let revision_is : revision_at (cells s) c ≡ k.change.revision = ap (λ (o : Option Recorded). option_map_or (λ (x : Recorded). x.revision) o 0) k.at in
    let kv_is : kv ≡ bare k.change.key k.change.revision = is ∙ ap (λ key. bare key (revision_at (cells s) c)) key_is ∙ ap (bare k.change.key) revision_is in
    let before_is : before ≡ row_asked s.kept w k.change = subst (λ o. IfSome o (λ x. before ≡ row_asked s.kept w x)) k.at was in
    subst (λ o. IfSome o (λ x. record { kind = Delete; kv = kv; prev_kv = before } ≡ event_of s.kept w x)) (sym k.at)
    (ap (λ (q : KeyValue). let e : Event = record { kind = Delete; kv = q; prev_kv = before } in e) kv_is ∙ delete_event s.kept w k.change before row_is before_is)
  where
    nothing : (o : Option KeyValue) → is_some o ≡ false → o ≡ None
    nothing None e = refl
    nothing (Some row) e = let bad : ⊥ = cc in absurd bad

-- ---- what is told is kept

all_inside : (xs : List Recorded) → AllByRecursion (λ x. IsIn x xs) xs
all_inside [] = tt
all_inside (x ∷ xs) = (inl refl, all_weaker (λ y. IsIn y xs) (λ y. IsIn y (x ∷ xs)) (λ y h. inr h) xs (all_inside xs))

all_both : (P Q : Recorded → Type 0) (xs : List Recorded) → AllByRecursion P xs → AllByRecursion Q xs → AllByRecursion (λ x. P x × Q x) xs
all_both P Q [] p q = tt
all_both P Q (x ∷ xs) p q = ((p.0, q.0), all_both P Q xs p.1 q.1)

notes_kept : (s : StoreState) (ns : List Noted) (xs : List Recorded) → AreNotes (cells s) ns xs → AllByRecursion (λ x. IsIn x s.kept.changes × (s.kept.compacted ≤ x.revision)) xs → AllByRecursion (λ n. IsKept s n.cell) ns
notes_kept s [] xs are all = tt
notes_kept s (n ∷ ns) [] are all = absurd are
notes_kept s (n ∷ ns) (x ∷ xs) are all = (record { change = x; at = are.0.at; kept = all.0.0; whole = all.0.1 }, notes_kept s ns xs are.1 all.1)

pub told_kept : (s : StoreState) (w : Watch) (ns : List Noted) → s.kept.compacted ≤ w.next → AreNotes (cells s) ns (first_changes (ahead w s.kept.changes)) → AllByRecursion (λ n. IsKept s n.cell) ns
told_kept s w ns whole are =
    let xs = s.kept.changes in
    let inside = all_filtered (λ x. IsIn x xs) (λ x. nat_le w.next x.revision && wants w x) xs (all_inside xs) in
    let later = all_weaker (λ x. w.next ≤ x.revision) (λ x. s.kept.compacted ≤ x.revision) (λ x h. omega (arith, h, whole)) (ahead w xs) (picked_from (wants w) w.next xs) in
    notes_kept s ns (first_changes (ahead w xs)) are
    (all_filtered (λ x. IsIn x xs × (s.kept.compacted ≤ x.revision)) _ (ahead w xs) (all_both (λ x. IsIn x xs) (λ x. s.kept.compacted ≤ x.revision) (ahead w xs) inside later))

-- the events of notes are those of their changes
pub events_are : (v : Cells) (s : Store) (w : Watch) (ns : List Noted) (xs : List Recorded) → AreNotes v ns xs → events_at v s w ns ≡ map (event_of s w) xs
events_are v s w [] [] are = refl
events_are v s w [] (x ∷ xs) are = absurd are
events_are v s w (n ∷ ns) [] are = absurd are
events_are v s w (n ∷ ns) (x ∷ xs) are =
    ap (λ o. cons_option (option_map (event_of s w) o) (events_at v s w ns)) are.0.at
    ∙ ap (λ es. event_of s w x ∷ es) (events_are v s w ns xs are.1)

pub has_row : (s : StoreState) (c : ℕ) → IsKept s c → is_put_at (cells s) c ≡ true → IsSome (row_at (cells s) c)
has_row s c k put = ap (λ (o : Option Recorded). is_some (option_and_then (λ (x : Recorded). x.row) o)) k.at ∙ ap (λ (o : Option Recorded). option_map_or (λ (x : Recorded). is_some x.row) o false) (sym k.at) ∙ put

-- one event more
pub events_one : (s : StoreState) (w : Watch) (ns : List Noted) (i : ℕ) (n : Noted) (e : Event) (items out : List Event) → i < length ns → n ≡ get_or ns i n → IsKept s n.cell → IfSome (change_at (cells s) n.cell) (λ x. e ≡ event_of s.kept w x)
    → items ++ events_at (cells s) s.kept w (drop i ns) ≡ out → (items ++ e ∷ []) ++ events_at (cells s) s.kept w (drop (i + 1) ns) ≡ out
events_one s w ns i n e items out lt is k event same =
    let rest = events_at (cells s) s.kept w (drop (i + 1) ns) in
    let split : drop i ns ≡ n ∷ drop (i + 1) ns = drop_more ns i n lt ∙ ap (λ m. m ∷ drop (i + 1) ns) (sym is) in
    let event_is : e ≡ event_of s.kept w k.change = subst (λ o. IfSome o (λ x. e ≡ event_of s.kept w x)) k.at event in
    let all : events_at (cells s) s.kept w (drop i ns) ≡ e ∷ rest =
    ap (events_at (cells s) s.kept w) split
    ∙ ap (λ o. cons_option (option_map (event_of s.kept w) o) rest) k.at
    ∙ ap (λ d. d ∷ rest) (sym event_is) in
    append_assoc items (e ∷ []) rest ∙ ap (λ es. items ++ es) (sym all) ∙ same

pub events_done : (s : StoreState) (w : Watch) (ns : List Noted) (i : ℕ) (items out : List Event) → length ns ≤ i → items ++ events_at (cells s) s.kept w (drop i ns) ≡ out → items ≡ out
events_done s w ns i items out end same = sym (append-nil items) ∙ ap (λ ds. items ++ events_at (cells s) s.kept w ds) (sym (drop_all i ns end)) ∙ same

pub kept_more : (s : StoreState) (ns : List Noted) (i : ℕ) (n : Noted) → i < length ns → n ≡ get_or ns i n → AllByRecursion (λ m. IsKept s m.cell) (drop i ns) → AllByRecursion (λ m. IsKept s m.cell) (drop (i + 1) ns)
kept_more s ns i n lt is all =
    (let split : AllByRecursion (λ m. IsKept s m.cell) (n ∷ drop (i + 1) ns) = subst (AllByRecursion (λ m. IsKept s m.cell)) (drop_more ns i n lt ∙ ap (λ m. m ∷ drop (i + 1) ns) (sym is)) all in split).1

pub kept_here : (s : StoreState) (ns : List Noted) (i : ℕ) (n : Noted) → i < length ns → n ≡ get_or ns i n → AllByRecursion (λ m. IsKept s m.cell) (drop i ns) → IsKept s n.cell
kept_here s ns i n lt is all =
    (let split : AllByRecursion (λ m. IsKept s m.cell) (n ∷ drop (i + 1) ns) = subst (AllByRecursion (λ m. IsKept s m.cell)) (drop_more ns i n lt ∙ ap (λ m. m ∷ drop (i + 1) ns) (sym is)) all in split).0

-- ---- the answer

pub no_events : (v : Cells) (s : Store) (w : Watch) (h : Header) (id : ℤ) (due : Bool) (ns : List Noted) (xs : List Recorded) → length ns ≡ 0 → AreNotes v ns xs → response h id due [] ≡ response h id due (map (event_of s w) xs)
no_events v s w h id due [] [] none are = refl
no_events v s w h id due [] (x ∷ xs) none are = absurd are
no_events v s w h id due (n ∷ ns) xs none are = absurd (omega (arith, none))

pub events_reply : (v : Cells) (s : Store) (w : Watch) (h : Header) (id : ℤ) (due : Bool) (ns : List Noted) (xs : List Recorded) (es : List Event) → 0 < length ns → AreNotes v ns xs → es ≡ events_at v s w ns → Events h id es ≡ response h id due (map (event_of s w) xs)
events_reply v s w h id due [] xs es some are is = absurd (omega (arith, some))
events_reply v s w h id due (n ∷ ns) [] es some are is = absurd are
events_reply v s w h id due (n ∷ ns) (x ∷ xs) es some are is = ap (λ (ds : List Event). Events h id ds) (is ∙ events_are v s w (n ∷ ns) (x ∷ xs) are)
