-- What is planned is the take of each tenant over the store and the watches.
use Rattle.std.proofs.Common.{◌≡◌, ℕ, ◌<◌, ◌≤◌, List, [], ◌∷◌, map, take, Bool, true, false, refl, sym, ap, ◌∙◌, subst, arith}
use Rattle.std.specs.Prelude.{pos, Option, Some, None, IfSome, filter, nat_eq, nat_lt, option_and_then, option_map, slice_get, slice_set, if◌then◌else◌}
use Rattle.std.specs.List.{list_any}
use Rattle.std.proofs.lemmas.Bool.Decides.{nat_tests}
use Rattle.std.proofs.lemmas.Option.{slice_get-map}
use Rattle.etcd_types.specs.declared.reply.Header.{Header}
use Rattle.etcd_types.specs.declared.reply.Reply.{Reply}
use Rattle.etcd_types.specs.declared.reply.Reply.TheVariants.{Quiet}
use Rattle.etcd_types.specs.declared.reply.Reply.TheVariants as reply
use Rattle.etcd_model.specs.declared.state.State.{State}
use Rattle.etcd_model.specs.declared.state.Watch.{Watch}
use Rattle.etcd_model.specs.declared.state.Entry.{Entry}
use Rattle.etcd_model.specs.Changes.{Recorded, entry_of}
use Rattle.etcd_model.specs.Store.{Store, kept_store}
use Rattle.etcd_model.specs.Tenant.{Outcome, header}
use Rattle.etcd_model.specs.Watches as model
use Rattle.etcd_model.specs.Watches.{first_of, is_ahead, is_due, last_told, response, revisions}
use Rattle.revision_store.specs.Stored.{StoreState}
use Rattle.watch_sync.specs.declared.planned.Taken.TheVariants.{Nothing, Canceled, Told}
use Rattle.watch_sync.specs.Ahead.{ahead}
use Rattle.watch_sync.specs.Agreeing.{WatchState, with_next}
use Rattle.watch_sync.specs.Gathering.{first_changes, next_told}
use Rattle.watch_sync.specs.Slots.{FitsTake, GoesOn, IsTenant, PlansTake, take_of, watch_in, watches}
use Rattle.watch_sync.specs.Telling.{event_of}
use Rattle.watch_sync.proofs.Slotted.{of_watch}

-- ---- lists

passing_entries : (p : Entry → Bool) (xs : List Recorded) → filter p (map entry_of xs) ≡ map entry_of (filter (λ x. p (entry_of x)) xs)
passing_entries p [] = refl
passing_entries p (x ∷ xs) = elim (p (entry_of x)) as (λ b. (if b then entry_of x ∷ filter p (map entry_of xs) else filter p (map entry_of xs)) ≡ map entry_of (if b then x ∷ filter (λ y. p (entry_of y)) xs else filter (λ y. p (entry_of y)) xs)) [
  | true ↦ ap (λ es. entry_of x ∷ es) (passing_entries p xs)
  | false ↦ passing_entries p xs
]

-- what the store tells that is ahead
kept_ahead : (s : Store) (w : Watch) → s.compacted ≤ w.next → kept_store.ahead s w ≡ map entry_of (ahead w s.changes)
kept_ahead s w whole =
    let not_below : nat_lt w.next s.compacted ≡ false = grind (arith, nat_tests) in
    ap (λ b. if b then [] else filter (is_ahead w) (map entry_of s.changes)) not_below ∙ passing_entries (is_ahead w) s.changes

first_entries : (xs : List Recorded) → first_of (map entry_of xs) ≡ map entry_of (first_changes xs)
first_entries xs = passing_entries (λ e. list_any (nat_eq e.revision) (take 16 (revisions (map entry_of xs)))) xs

told_events : (t : State Store) (w : Watch) (xs : List Recorded) → map (λ e. model.event_of kept_store t w e e.change) (map entry_of xs) ≡ map (event_of t.store w) xs
told_events t w [] = refl
told_events t w (x ∷ xs) = ap (λ es. event_of t.store w x ∷ es) (told_events t w xs)

-- ---- a tenant's slots

module _ (slots : List (Option WatchState)) (store : StoreState) (h : Header) (moment slot : ℕ) where
  slot_of : (t : State Store) → IsTenant t store slots h moment → (o : Option (Option WatchState)) → slice_get slots slot ≡ o → slice_get t.slots slot ≡ option_map of_watch o
  slot_of t is o at = ap (λ xs. slice_get xs slot) is.slots ∙ slice_get-map of_watch slots slot ∙ ap (option_map of_watch) at

  -- nothing is there
  pub plans_quiet : (o : Option (Option WatchState)) → slice_get slots slot ≡ o → option_and_then (λ w. w) o ≡ None → PlansTake slots store h moment slot (record { taken = Nothing; reply = Quiet })
  plans_quiet o at none = record {
    fits = tt;
    reply = λ t is. sym (ap (λ (q : Outcome Store). q.reply) (quiet t is));
    state = λ t is. ap (λ (q : Outcome Store). q.state) (quiet t is) ∙ ap (λ xs. let u : State Store = record t { slots = xs } in u) is.slots;
  }
    where
      stays : (t : State Store) (p : Option (Option WatchState)) → option_and_then (λ w. w) p ≡ None → model.taken kept_store t slot (option_map of_watch p) ≡ record { state = t; reply = Quiet }
      stays t None e = refl
      stays t (Some None) e = refl
      stays t (Some (Some w)) e = let bad : ⊥ = cc in absurd bad

      quiet : (t : State Store) → IsTenant t store slots h moment → take_of t slot ≡ record { state = t; reply = Quiet }
      quiet t is = ap (model.taken kept_store t slot) (slot_of t is o at) ∙ stays t o none

  module _ (w : WatchState) (at : slice_get slots slot ≡ Some (Some w)) where
    abbrev with_watch : State Store → Option Watch → State Store
    with_watch t o = record t { slots = slice_set t.slots slot o }

    abbrev cancel : State Store → Outcome Store
    cancel t = record { state = with_watch t None; reply = reply.Canceled (header kept_store t) w.watch.id (pos t.store.compacted) }

    abbrev given : State Store → List Entry → Outcome Store
    given t es = model.events_given kept_store t slot w.watch es (map (λ e. model.event_of kept_store t w.watch e e.change) (first_of es))

    -- what it is answered at a moment, where it is not cancelled
    abbrev pub answer_of : Header → Store → ℕ → Reply
    answer_of q s m = response q w.watch.id (is_due s.current m w.watch) (map (event_of s w.watch) (first_changes (ahead w.watch s.changes)))

    same_slots : (t : State Store) (o : Option Watch) → IsTenant t store slots h moment → with_watch t o ≡ record t { slots = slice_set (watches slots) slot o }
    same_slots t o is = ap (λ xs. let u : State Store = record t { slots = slice_set xs slot o } in u) is.slots

    -- it missed what a compaction took
    pub plans_cancel : (r : Reply) → w.watch.next < store.kept.compacted → r ≡ reply.Canceled h w.watch.id (pos store.kept.compacted)
        → PlansTake slots store h moment slot (record { taken = Canceled slot; reply = r })
    plans_cancel r less is_reply = record {
      fits = tt;
      reply = λ t is.
          is_reply
          ∙ ap (λ q. reply.Canceled q w.watch.id (pos store.kept.compacted)) (sym is.header)
          ∙ ap (λ (s : Store). reply.Canceled (header kept_store t) w.watch.id (pos s.compacted)) (sym is.store)
          ∙ sym (ap (λ (q : Outcome Store). q.reply) (canceled t is));
      state = λ t is. ap (λ (q : Outcome Store). q.state) (canceled t is) ∙ same_slots t None is;
    }
      where
        canceled : (t : State Store) → IsTenant t store slots h moment → take_of t slot ≡ record { state = with_watch t None; reply = reply.Canceled (header kept_store t) w.watch.id (pos t.store.compacted) }
        canceled t is =
            let below : nat_lt w.watch.next t.store.compacted ≡ true = grind (arith, nat_tests, less, ap (λ (s : Store). s.compacted) is.store) in
            ap (model.taken kept_store t slot) (slot_of t is (Some (Some w)) at)
            ∙ ap (λ b. if b then cancel t else given t (kept_store.ahead t.store w.watch)) below

    -- it is told of the first revisions
    pub plans_told : (r : Reply) (next last : ℕ) → store.kept.compacted ≤ w.watch.next → w.watch.next ≤ next
        → r ≡ answer_of h store.kept moment
        → next ≡ next_told store.kept.current w.watch (ahead w.watch store.kept.changes)
        → last ≡ last_told moment w.watch.told r
        → PlansTake slots store h moment slot (record { taken = Told slot next last; reply = r })
    plans_told r next last whole later is_reply is_next is_last = record {
      fits = ap_fits (record { whole = whole; later = later });
      reply = λ t is. same_answer t is ∙ sym (ap (λ (q : Outcome Store). q.reply) (told t is));
      state = λ t is.
          ap (λ (q : Outcome Store). q.state) (told t is)
          ∙ ap (λ (q : Reply). with_watch t (Some (with_next w.watch (next_told t.store.current w.watch (ahead w.watch t.store.changes)) (last_told t.moment w.watch.told q)))) (sym (same_answer t is))
          ∙ ap (λ m. with_watch t (Some (with_next w.watch (next_told t.store.current w.watch (ahead w.watch t.store.changes)) (last_told m w.watch.told r)))) is.moment
          ∙ ap (λ (s : Store). with_watch t (Some (with_next w.watch (next_told s.current w.watch (ahead w.watch s.changes)) (last_told moment w.watch.told r)))) is.store
          ∙ ap (λ n. with_watch t (Some (with_next w.watch n (last_told moment w.watch.told r)))) (sym is_next)
          ∙ ap (λ n. with_watch t (Some (with_next w.watch next n))) (sym is_last)
          ∙ same_slots t (Some (with_next w.watch next last)) is
          ∙ ap (λ (o : Option Watch). let u : State Store = record t { slots = slice_set (watches slots) slot (option_map (λ (v : Watch). with_next v next last) o) } in u) (sym here);
    }
      where
        here : watch_in (watches slots) slot ≡ Some w.watch
        here = ap (option_and_then (λ (o : Option Watch). o)) (slice_get-map of_watch slots slot ∙ ap (option_map of_watch) at)

        ap_fits : GoesOn store next w → FitsTake slots store (Told slot next last)
        ap_fits goes = subst (λ (o : Option WatchState). IfSome o (GoesOn store next)) (sym (ap (option_and_then (λ (o : Option WatchState). o)) at)) goes

        same_answer : (t : State Store) → IsTenant t store slots h moment → r ≡ answer_of (header kept_store t) t.store t.moment
        same_answer t is =
            is_reply
            ∙ ap (λ q. answer_of q store.kept moment) (sym is.header)
            ∙ ap (λ (s : Store). answer_of (header kept_store t) s moment) (sym is.store)
            ∙ ap (answer_of (header kept_store t) t.store) (sym is.moment)

        told : (t : State Store) → IsTenant t store slots h moment → take_of t slot
            ≡ record { state = with_watch t (Some (with_next w.watch (next_told t.store.current w.watch (ahead w.watch t.store.changes)) (last_told t.moment w.watch.told (answer_of (header kept_store t) t.store t.moment)))); reply = answer_of (header kept_store t) t.store t.moment }
        told t is =
            let not_below : nat_lt w.watch.next t.store.compacted ≡ false = grind (arith, nat_tests, whole, ap (λ (s : Store). s.compacted) is.store) in
            let still : t.store.compacted ≤ w.watch.next = omega (arith, whole, ap (λ (s : Store). s.compacted) is.store) in
            let xs = ahead w.watch t.store.changes in
            ap (model.taken kept_store t slot) (slot_of t is (Some (Some w)) at)
            ∙ ap (λ b. if b then cancel t else given t (kept_store.ahead t.store w.watch)) not_below
            ∙ ap (given t) (kept_ahead t.store w.watch still)
            ∙ ap (λ es. model.events_given kept_store t slot w.watch (map entry_of xs) (map (λ e. model.event_of kept_store t w.watch e e.change) es)) (first_entries xs)
            ∙ ap (model.events_given kept_store t slot w.watch (map entry_of xs)) (told_events t w.watch (first_changes xs))
