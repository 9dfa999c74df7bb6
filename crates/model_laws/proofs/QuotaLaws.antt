-- No step passes the greater of the quota and the cells that were in use.
use Rattle.std.proofs.Common.{◌≡◌, ℕ, ◌+◌, ◌≤◌, List, [], ◌∷◌, length, refl, ap, ◌∙◌, sym, arith, map}
use Rattle.std.specs.Prelude.{ℤ, Bool, true, false, not, cond, ◌&&◌, ◌||◌, fold, filter, find, Option, Some, None, max, min, nat_lt, if◌then◌else◌}
use Rattle.std.specs.List.{AllByRecursion, list_any}
use Rattle.std.specs.List.Sorted.{IsStrictlySortedBy}
use Rattle.std.specs.Ordering.{int_eq, int_cmp}
use Rattle.std.specs.declared.cmp.Ordering.TheVariants.{Less, Equal, Greater}
use Rattle.std.proofs.lemmas.Option.{none-some}
use Rattle.std.proofs.lemmas.Bool.{true≢false, false≢true, false_from_ne_true, or_from}
use Rattle.std.proofs.lemmas.Bool.Decides.{nat_tests}
use Rattle.etcd_types.specs.declared.txn.Op.{Op}
use Rattle.etcd_types.specs.declared.txn.Op.TheVariants.{Delete as DeleteOp}
use Rattle.etcd_types.specs.declared.step.Step.{Step}
use Rattle.etcd_types.specs.declared.step.Step.TheVariants.{Put, Delete, Txn, Compact, Grant, Revoke, KeepAlive, Tick}
use Rattle.etcd_types.specs.declared.refusal.Refusal.{Refusal}
use Rattle.etcd_types.specs.declared.refusal.Refusal.TheVariants.{NoSpace}
use Rattle.etcd_types.specs.declared.reply.Reply.TheVariants.{Refused}
use Rattle.etcd_types.specs.Limits.{last_moment}
use Rattle.etcd_types.specs.Steps.{adds_any, may_add}
use Rattle.etcd_model.specs.declared.state.Lease.{Lease}
use Rattle.etcd_model.specs.declared.state.History.{History}
use Rattle.etcd_model.specs.declared.state.Change.{Change}
use Rattle.etcd_model.specs.declared.state.Change.TheVariants.{Delete as Del}
use Rattle.etcd_model.specs.declared.state.State.{State}
use Rattle.etcd_model.specs.Order.{beside, put_in}
use Rattle.etcd_model.specs.History.{history_after}
use Rattle.etcd_model.specs.Reads.{Look}
use Rattle.etcd_model.specs.Kept.{history_cells}
use Rattle.etcd_model.specs.Operations.{branch, pending_after, first_refusal}
use Rattle.etcd_model.specs.Tenant.{Outcome, reads, used}
use Rattle.etcd_model.specs.Leases.{lease_at, attached, finish, run_out}
use Rattle.etcd_model.specs.Fields.{fields}
use Rattle.etcd_model.specs.Stepping as stepping
use Rattle.etcd_model.specs.Stepping.{adds, early, look_up, outcome, pending, kept_alive, compacted_at}
use Rattle.etcd_model.specs.Machine as machine
use Rattle.etcd_model.specs.Machine.{state_after}
use Rattle.etcd_model.specs.Store as store
use Rattle.etcd_model.specs.Store.{kept_store}
use Rattle.etcd_model.specs.Held.{keep, IsHistory, by_id, HasLeases}
use Rattle.std.proofs.lemmas.Cmp.{int_cmp_total, tied_itself}
use Rattle.etcd_model.proofs.OrderLaws.{below_less}
use Rattle.etcd_model.proofs.GrowthLaws.{first_none}
use Rattle.etcd_model.proofs.OnceLaws.{outcome_once, finish_once}
use Rattle.model_laws.proofs.CarryLaws.{above, up_to_current}
use Rattle.model_laws.proofs.HeldLaws.{up_after, none_refused, carries, keep_after, keep_compact, keep_cells, step_is_history}
use Rattle.model_laws.proofs.SpaceLaws.{keep_is_store, no_put_takes_none, finish_takes_none, compaction_takes_none}
use Rattle.model_laws.proofs.LeaseLaws.{by_id_total, same_id}
use Rattle.model_laws.proofs.RunLaws.{either, quiet_outcome, step_has_leases, step_keeps_quota}

abbrev CellsFall : State History → State History → Type 0
CellsFall S T = used machine.history T ≤ used machine.history S

-- ---- writes with no put

-- changes that take no cell over what is kept take none over the history
same_cells : (H : History) (cs : List Change) → IsHistory H → IsHistory (history_after H cs) → store.counted_cells (store.after (keep H) cs) ≡ store.counted_cells (keep H) → history_cells (history_after H cs) ≡ history_cells H
same_cells H cs is ended none = sym (keep_cells (history_after H cs) ended) ∙ ap store.counted_cells (sym (keep_after H cs is.compacted)) ∙ none ∙ keep_cells H is

pub look_kept : (H : History) → IsHistory H → kept_store.look (keep H) ≡ machine.history.look H
look_kept H is = (carries H is.compacted).look

ops_cells : (S : State History) (ops : List Op) → IsHistory S.store → IsHistory (history_after S.store (pending machine.history S ops)) → adds_any ops ≡ false
    → history_cells (history_after S.store (pending machine.history S ops)) ≡ history_cells S.store
ops_cells S ops is ended h = same_cells S.store (pending machine.history S ops) is ended
    (ap (λ (l : Look). store.counted_cells (store.after (keep S.store) (pending_after l [] ops))) (sym (look_kept S.store is)) ∙ no_put_takes_none (keep S.store) ops (keep_is_store S.store is) h)

-- ---- the end of leases

pub finish_is_history : (S : State History) (id : ℤ) → IsHistory S.store → IsHistory (finish machine.history S id).store
finish_is_history S id is = record { compacted = up_after S.store (map Del (attached (reads machine.history S) id)) is.compacted; once = finish_once S id is.once }

fewer : (p : Lease → Bool) (ls : List Lease) → length (filter p ls) ≤ length ls
fewer p [] = omega arith
fewer p (l ∷ ls) = elim (p l) as (λ b. length (cond b (l ∷ filter p ls) (filter p ls)) ≤ length (l ∷ ls)) [ true ↦ omega (arith, fewer p ls) | false ↦ omega (arith, fewer p ls) ]

finish_cells : (S : State History) (id : ℤ) → IsHistory S.store → CellsFall S (finish machine.history S id)
finish_cells S id is =
    let cs = map Del (attached (reads machine.history S) id) in
    let same = same_cells S.store cs is (finish_is_history S id is)
    (ap (λ (l : Look). store.counted_cells (store.after (keep S.store) (map Del (attached (l []) id)))) (sym (look_kept S.store is)) ∙ finish_takes_none (keep S.store) id (keep_is_store S.store is)) in
    omega (arith, same, fewer (λ (l : Lease). not (int_eq l.id id)) S.leases)

ends_cells : (ls : List Lease) (S : State History) → IsHistory S.store → CellsFall S (fold (λ T l. finish machine.history T l.id) S ls)
ends_cells [] S is = omega arith
ends_cells (l ∷ ls) S is = let T = finish machine.history S l.id in omega (arith, finish_cells S l.id is, ends_cells ls T (finish_is_history S l.id is))

-- ---- a renewed lease

pub renewed : (x : Lease) (ls : List Lease) → list_any (λ l. int_eq l.id x.id) ls ≡ true → IsStrictlySortedBy by_id ls → length (put_in by_id ls x) ≡ length ls
unfolding IsStrictlySortedBy
renewed x [] there h = absurd (false≢true there)
renewed x (l ∷ ls) there h = elim (by_id x l) as (λ o. by_id x l ≡ o → length (beside o x l ls (put_in by_id ls x)) ≡ length (l ∷ ls)) [
  | Less ↦ λ e. absurd (true≢false (sym there ∙ none (l ∷ ls) (e, below_all e)))
  | Equal ↦ λ e. omega arith
  | Greater ↦ λ e. let rest = renewed x ls (later e) h.1 in omega (arith, rest)
] refl
  where
    below_all : by_id x l ≡ Less → AllByRecursion (λ z. by_id x z ≡ Less) ls
    below_all e = below_less by_id by_id_total x l e ls h.0

    not_itself : int_cmp x.id x.id ≡ Less → ⊥
    not_itself e = let same : int_cmp x.id x.id ≡ Equal = tied_itself int_cmp_total x.id in let bad : ⊥ = cc in bad

    none : (zs : List Lease) → AllByRecursion (λ z. by_id x z ≡ Less) zs → list_any (λ z. int_eq z.id x.id) zs ≡ false
    none [] all = refl
    none (z ∷ zs) all = or_from (int_eq z.id x.id) (list_any (λ y. int_eq y.id x.id) zs) (false_from_ne_true (int_eq z.id x.id) (λ t. not_itself (ap (int_cmp x.id) (sym (same_id z.id x.id t)) ∙ all.0))) (none zs all.1)

    not_tied : int_cmp x.id l.id ≡ int_cmp x.id x.id → int_cmp x.id l.id ≡ Greater → ⊥
    not_tied s e = let same : int_cmp x.id x.id ≡ Equal = tied_itself int_cmp_total x.id in let bad : ⊥ = cc in bad

    later : by_id x l ≡ Greater → list_any (λ z. int_eq z.id x.id) ls ≡ true
    later e = elim (int_eq l.id x.id) as (λ b. int_eq l.id x.id ≡ b → (b || list_any (λ z. int_eq z.id x.id) ls) ≡ true → list_any (λ z. int_eq z.id x.id) ls ≡ true) [
      | true ↦ λ t g. absurd (not_tied (ap (int_cmp x.id) (same_id l.id x.id t)) e)
      | false ↦ λ t g. g
    ] refl there

found_there : (id : ℤ) (ls : List Lease) (l : Lease) → find (λ x. int_eq x.id id) ls ≡ Some l → list_any (λ x. int_eq x.id id) ls ≡ true
found_there id [] l is = let bad : ⊥ = cc in absurd bad
found_there id (x ∷ xs) l is = step (found_there id xs l) (int_eq x.id id) is
  where
    step : (find (λ x. int_eq x.id id) xs ≡ Some l → list_any (λ x. int_eq x.id id) xs ≡ true) → (b : Bool) → cond b (Some x) (find (λ x. int_eq x.id id) xs) ≡ Some l → (b || list_any (λ x. int_eq x.id id) xs) ≡ true
    step rest true e = refl
    step rest false e = rest e

alive_cells : (S : State History) (id : ℤ) (o : Option Lease) → lease_at S.leases id ≡ o → HasLeases S → CellsFall S (kept_alive machine.history S id o).state
alive_cells S id None is has = omega arith
alive_cells S id (Some l) is has = omega (arith, renewed (record { id = id; ttl = l.ttl; end = S.moment + l.ttl }) S.leases (found_there id S.leases l is) has.ascend)

-- ---- a step that adds nothing

compact_cells : (S : State History) (r : ℤ) → IsHistory S.store → look_up machine.history S (Compact r) ≡ None → CellsFall S (outcome machine.history S (Compact r)).state
compact_cells S r is e =
    let from = above (reads machine.history S) r e in
    let to = up_to_current (reads machine.history S) r e in
    let n = compacted_at r in
    let K = machine.history.compact S.store n in
    let ended : IsHistory K = record { compacted = to; once = is.once } in
    omega (arith, ap store.counted_cells (keep_compact S.store n from), keep_cells K ended, keep_cells S.store is, compaction_takes_none (keep S.store) n (keep_is_store S.store is) from to)

falls : (S : State History) (step : Step) → IsHistory S.store → HasLeases S → fields step ≡ None → look_up machine.history S step ≡ None → adds (reads machine.history S) step ≡ false → CellsFall S (outcome machine.history S step).state
falls S (Put p) is has f e h = absurd (true≢false h)
falls S (Grant g) is has f e h = absurd (true≢false h)
falls S (Delete d) is has f e h =
    let ops : List Op = DeleteOp d ∷ [] in
    let ended : IsHistory (history_after S.store (pending machine.history S ops)) = record { compacted = up_after S.store (pending machine.history S ops) is.compacted; once = outcome_once S (Delete d) is.once f } in
    omega (arith, ops_cells S ops is ended refl)
falls S (Txn t) is has f e h =
    let ops = branch (reads machine.history S) t in
    let ended : IsHistory (history_after S.store (pending machine.history S ops)) = record { compacted = up_after S.store (pending machine.history S ops) is.compacted; once = outcome_once S (Txn t) is.once f } in
    omega (arith, ops_cells S ops is ended h)
falls S (Compact r) is has f e h = compact_cells S r is e
falls S (Revoke id) is has f e h = finish_cells S id is
falls S (KeepAlive id) is has f e h = alive_cells S id (lease_at S.leases id) refl has
falls S (Tick m) is has f e h = let later = record S { moment = max S.moment (min m last_moment) } in ends_cells (run_out later.moment later.leases) later is
falls S step is has f e h = quiet_outcome (CellsFall S) S (omega arith) (λ i w. omega arith) (λ on. omega arith) step refl

-- ---- the machine

bounded : (S : State History) (step : Step) (b : Bool) → adds (reads machine.history S) step ≡ b → (o : Outcome History) → (b ≡ false → CellsFall S o.state)
    → used machine.history (if b && nat_lt S.quota (used machine.history o.state) then record { state = record S { alarm = true }; reply = Refused NoSpace } else o).state ≤ max S.quota (used machine.history S)
bounded S step false is o fall = omega (arith, fall refl)
bounded S step true is o fall = within (nat_lt S.quota (used machine.history o.state)) refl
  where
    not_above : (q n : ℕ) → nat_lt q n ≡ false → n ≤ q
    not_above q n e = grind (arith, nat_tests)

    within : (c : Bool) → nat_lt S.quota (used machine.history o.state) ≡ c → used machine.history (if c then record { state = record S { alarm = true }; reply = Refused NoSpace } else o).state ≤ max S.quota (used machine.history S)
    within true e = omega arith
    within false e = let low : used machine.history o.state ≤ S.quota = not_above S.quota (used machine.history o.state) e in omega (arith, low)

-- a step that is refused leaves the state
refused_falls : (S : State History) (step : Step) (r : Option Refusal) → (r ≡ None → ⊥) → CellsFall S (stepping.decided machine.history S step r).state
refused_falls S step None never = absurd (never refl)
refused_falls S step (Some r) never = omega arith

allowed_falls : (S : State History) (step : Step) (r : Option Refusal) → (r ≡ None → CellsFall S (outcome machine.history S step).state) → CellsFall S (stepping.decided machine.history S step r).state
allowed_falls S step None fall = fall refl
allowed_falls S step (Some r) fall = omega arith

abbrev first : State History → Step → Option Refusal
first S step = first_refusal (early machine.history S step ∷ look_up machine.history S step ∷ [])

before_falls : (S : State History) (step : Step) → IsHistory S.store → HasLeases S → adds (reads machine.history S) step ≡ false → CellsFall S (machine.before_space S step).state
before_falls S step is has h = allowed_falls S step (first S step) (λ e. let parts = none_refused S step e in falls S step is has (first_none (fields step) _ parts.0).0 parts.1 h)

abbrev Bounded : State History → State History → Type 0
Bounded S T = used machine.history T ≤ max S.quota (used machine.history S)

counted : (S : State History) (step : Step) → IsHistory S.store → HasLeases S → (r : Option Refusal) → look_up machine.history S step ≡ r → Bounded S (stepping.within_quota machine.history S step (machine.before_space S step) r).state
counted S step is has (Some r) e = let fall = refused_falls S step (first S step) (λ f. none-some r (sym (none_refused S step f).1 ∙ e)) in omega (arith, fall)
counted S step is has None e = bounded S step (adds (reads machine.history S) step) refl (machine.before_space S step) (before_falls S step is has)

checked : (S : State History) (step : Step) → IsHistory S.store → HasLeases S → (r : Option Refusal) → early machine.history S step ≡ r → Bounded S (stepping.unless_alarmed machine.history S step (machine.before_space S step) r).state
checked S step is has (Some r) e = let fall = refused_falls S step (first S step) (λ f. none-some r (sym (none_refused S step f).0 ∙ e)) in omega (arith, fall)
checked S step is has None e = either (Bounded S) (S.alarm && may_add step) (record { state = S; reply = Refused NoSpace }) (stepping.within_quota machine.history S step (machine.before_space S step) (look_up machine.history S step)) (omega arith) (counted S step is has (look_up machine.history S step) refl)

pub step_within_quota : (S : State History) (step : Step) → IsHistory S.store → HasLeases S → used machine.history (machine.machine S step).state ≤ max S.quota (used machine.history S)
step_within_quota S step is has = checked S step is has (early machine.history S step) refl

pub run_within_quota : (S : State History) (steps : List Step) → IsHistory S.store → HasLeases S → used machine.history (state_after S steps) ≤ max S.quota (used machine.history S)
run_within_quota S [] is has = omega arith
run_within_quota S (step ∷ steps) is has =
    let T = (machine.machine S step).state in
    omega (arith, run_within_quota T steps (step_is_history S step is) (step_has_leases S step has), step_within_quota S step is has, step_keeps_quota S step)
