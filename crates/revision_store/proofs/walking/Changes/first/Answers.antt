use Rattle.std.proofs.Common.{ℕ, List, ◌++◌, ◌-◌, ◌∙◌, length, take, ap, sym}
use Rattle.revision_store.proofs.Walked.{first_of_both}
use Rattle.revision_store.proofs.walking.Changes.first.Goals as goal

pub returns : goal.returns
returns c =
    let before = c.self.inside.settled in
    let after = c.self.inside.recent in
    ap (λ (xs : List ℕ). xs ++ c.first-recent.result) c.first-settled.ensures
    ∙ ap (λ (ys : List ℕ). take c.args.count before ++ ys) c.first-recent.ensures
    ∙ ap (λ (n : ℕ). take c.args.count before ++ take (c.args.count - n) after) (c.len.ensures ∙ ap length c.first-settled.ensures)
    ∙ sym (first_of_both c.args.count before after)
    ∙ ap (take c.args.count) c.self.view_is
