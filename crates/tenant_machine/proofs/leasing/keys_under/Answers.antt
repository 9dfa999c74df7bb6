use Rattle.std.proofs.Common.{◌≡◌, ◌∙◌, ◌++◌, ◌∷◌, [], List, ap, append_assoc, map, subst, sym}
use Rattle.std.specs.Prelude.{ℕ, IsSome}
use Rattle.std.specs.List.{AllByRecursion}
use Rattle.std.proofs.lemmas.List.{append-nil}
use Rattle.revision_store.specs.Plans.{key_at}
use Rattle.revision_store.specs.Stored.{cells as cells_in}
use Rattle.tenant_machine.proofs.leasing.keys_under.Goals as goal

some_left : {cells rest : List ℕ} {cell : ℕ} → cells ≡ cell ∷ rest → cells ≡ [] → ⊥
some_left left none = cc

pub reading-init : goal.reading-init
reading-init c =
    let from = c.into_iter-cell-iterator.ensures.into_iter_gives in
    record {
      there = subst (λ (cs : List ℕ). AllByRecursion (λ c'. IsSome (cells_in c.args.store.now c')) cs) (sym from) c.requires;
      none = λ none. from ∙ none;
      read = ap (λ (ks : List (List ℕ)). ks ++ map (key_at (cells_in c.args.store.now)) c.into_iter-cell-iterator.result) c.new-keys.ensures.items
          ∙ ap (map (key_at (cells_in c.args.store.now))) from;
    }

pub key-requires : goal.key-requires
key-requires c = (subst (λ (cs : List ℕ). AllByRecursion (λ c'. IsSome (cells_in c.args.store.now c')) cs) c.in-Some.ensures.steps c.reading.invariant.there).0

pub reading-preserved : goal.reading-preserved
reading-preserved c =
    let at = key_at (cells_in c.args.store.now) in
    let rest = map at c.next.new.self in
    record {
      there = (subst (λ (cs : List ℕ). AllByRecursion (λ c'. IsSome (cells_in c.args.store.now c')) cs) c.in-Some.ensures.steps c.reading.invariant.there).1;
      none = λ none. absurd (some_left c.in-Some.ensures.steps (c.reading.invariant.none none));
      read =
          ap (λ (ks : List (List ℕ)). ks ++ rest) (c.in_ok-push.ensures.items ∙ ap (λ k. c.reading.keys.items ++ k ∷ []) c.in_ok-key.ensures)
          ∙ append_assoc c.reading.keys.items (at c.in-Some.cell ∷ []) rest
          ∙ ap (λ (cs : List ℕ). c.reading.keys.items ++ map at cs) (sym c.in-Some.ensures.steps)
          ∙ c.reading.invariant.read;
    }

pub returns-in_err-key-clause-sure : goal.returns-in_err-key-clause-sure
returns-in_err-key-clause-sure c = λ none. absurd (some_left c.in-Some.ensures.steps (c.reading.invariant.none none))

pub returns-in_err-push-clause-sure : goal.returns-in_err-push-clause-sure
returns-in_err-push-clause-sure c = λ none. absurd (some_left c.in-Some.ensures.steps (c.reading.invariant.none none))

pub returns-clause-keys : goal.returns-clause-keys
returns-clause-keys c =
    c.from_vec.ensures
    ∙ sym (append-nil c.reading.keys.items)
    ∙ ap (λ (cs : List ℕ). c.reading.keys.items ++ map (key_at (cells_in c.args.store.now)) cs) (sym c.in-None.ensures.steps.0)
    ∙ c.reading.invariant.read
