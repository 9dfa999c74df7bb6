use Rattle.std.proofs.Common.{◌≡◌, ◌∙◌, List, [], ◌∷◌, ap, arith, cond, length, refl}
use Rattle.std.proofs.lemmas.Bool.{le-leb}
use Rattle.etcd_model.specs.Changes.{Recorded, since}
use Rattle.revision_store.proofs.store.Store.revision_before.Goals as goal

-- from revision 0 on there are all
since_first : (xs : List Recorded) → since 0 xs ≡ xs
since_first [] = refl
since_first (x ∷ xs) = ap (λ b. cond b (x ∷ since 0 xs) (since 0 xs)) (le-leb 0 x.revision (omega arith)) ∙ ap (λ ys. x ∷ ys) (since_first xs)

pub returns : goal.returns
returns c = omega (arith, ap length (since_first c.args.self.now.kept.changes))
