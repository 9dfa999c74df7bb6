use Rattle.std.proofs.Common.{◌≡◌, ◌++◌, ◌∷◌, ◌∙◌, [], List, length, take, ap, arith, refl, sym}
use Rattle.revision_store.proofs.rows.first_cells.Goals as goal

own_part : {X : Type 0} (xs ys : List X) → take (length xs) (xs ++ ys) ≡ xs
own_part [] ys = refl
own_part (x ∷ xs) ys = ap (λ zs. x ∷ zs) (own_part xs ys)

pub push_reserved-requires : goal.push_reserved-requires
push_reserved-requires c =
    omega arith

pub returns-clause-cells : goal.returns-clause-cells
returns-clause-cells c =
    let all : length c.taking.found.items ≡ c.args.count = omega arith in
    sym (own_part c.taking.found.items c.taking.cells) ∙ ap (λ n. take n (c.taking.found.items ++ c.taking.cells)) all ∙ ap (take c.args.count) c.taking.invariant.all

pub returns-clause-room : goal.returns-clause-room
returns-clause-room c =
    omega arith
