-- What the writes from a place on take.
use Rattle.std.proofs.Common.{◌≡◌, ℕ, ◌+◌, ◌<◌, ◌≤◌, List, get_or, length, drop, ap, ◌∙◌, subst}
use Rattle.std.proofs.lemmas.List.{drop_all}
use Rattle.std.proofs.lemmas.List.Sums.{sum_by-cons}
use Rattle.key_index.specs.Links.{Cells}
use Rattle.revision_store.specs.declared.plan.Write.{Write}
use Rattle.revision_store.specs.Plans.{cost_in, costs_in}
use Rattle.revision_store.proofs.Writing.{ahead_here}

pub costs_from : (cells : Cells) (ws plan : List Write) (i : ℕ) (w : Write) → ws ≡ plan → i < length ws → w ≡ get_or ws i w → costs_in cells (drop i plan) ≡ cost_in cells w + costs_in cells (drop (i + 1) plan)
costs_from cells ws plan i w same lt is =
    subst (λ (xs : List Write). costs_in cells (drop i xs) ≡ cost_in cells w + costs_in cells (drop (i + 1) xs)) same
    (ap (costs_in cells) (ahead_here ws i w lt is) ∙ sum_by-cons (cost_in cells) w (drop (i + 1) ws))

pub costs_at_end : (cells : Cells) (ws plan : List Write) (i : ℕ) → ws ≡ plan → length ws ≤ i → costs_in cells (drop i plan) ≡ 0
costs_at_end cells ws plan i same past = subst (λ (xs : List Write). costs_in cells (drop i xs) ≡ 0) same (ap (costs_in cells) (drop_all i ws past))
