use Rattle.std.proofs.Common.{ℕ, ◌≡◌, ◌+◌, List, [], ◌∷◌, map, refl, ap, sym, ◌∙◌}
use Rattle.std.specs.Prelude.{sum_by}
use Rattle.std.proofs.lemmas.List.Sums.{sum_by-cons}
use Rattle.etcd_types.specs.Rows.{op_reply_of}
use Rattle.gateway_text.specs.Room.{op_room}
use Rattle.gateway_text.proofs.size.lists_size.Goals as goal

-- a sum over what items stand for
sum_of_map : {X Y : Type 0} (f : Y → ℕ) (g : X → Y) (xs : List X) → sum_by (λ x. f (g x)) xs ≡ sum_by f (map g xs)
sum_of_map f g [] = refl
sum_of_map f g (x ∷ xs) = sum_by-cons (λ x. f (g x)) x xs ∙ ap (λ n. f (g x) + n) (sum_of_map f g xs) ∙ sym (sum_by-cons f (g x) (map g xs))

pub returns-in-Txn : goal.returns-in-Txn
returns-in-Txn g c =
    rw (c.in-Txn.is, ← c.as_slice.ensures, ← sum_of_map op_room (op_reply_of g.S.RowsInPlace.rows) c.as_slice.result.now) c.list_size.ensures
