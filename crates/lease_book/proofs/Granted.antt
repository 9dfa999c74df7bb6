-- The ID that a grant gets.
use Rattle.std.proofs.Common.{◌≡◌, ℕ, ◌+◌, ◌<◌, sym, ap, subst, ◌∙◌, arith}
use Rattle.std.specs.Prelude.{ℤ, pos, true, false, cond, nat_le, Some, None, ◌&&◌}
use Rattle.std.specs.List.Sorted.{IsStrictlySortedBy}
use Rattle.std.proofs.lemmas.Bool.Decides.{nat_tests}
use Rattle.etcd_types.specs.Limits.{last_lease_id}
use Rattle.etcd_types.specs.declared.refusal.Refusal.TheVariants.{UsedUp}
use Rattle.etcd_model.specs.Held.{by_id}
use Rattle.etcd_model.specs.Leases.{free_id}
use Rattle.etcd_model.specs.Operations.{has_lease}
use Rattle.model_laws.proofs.LeaseLaws.{free_id_is_least}
use Rattle.lease_book.specs.Book.{Book}
use Rattle.lease_book.specs.Granting.{IsIdOf}

not_at_end : (n m : ℕ) → n < m → nat_le m n ≡ false
not_at_end n m lt = grind (arith, nat_tests)

-- one that is chosen for it
chosen_zero : (book : Book) (n : ℕ) → book.counter < last_lease_id → IsStrictlySortedBy by_id book.leases → n ≡ free_id book.counter book.leases → IsIdOf book (pos 0) (pos n, n + 1)
chosen_zero book n lt sorted is = record {
  refusal = ap (λ b. cond (b && true) (Some UsedUp) None) (not_at_end book.counter last_lease_id lt);
  id = ap pos is;
  counter = ap (λ k. k + 1) is;
  unused = ap (λ k. has_lease book.leases (pos k)) is ∙ (free_id_is_least book.counter book.leases sorted).1;
}

pub chosen : (book : Book) (wanted : ℤ) (n : ℕ) → wanted ≡ pos 0 → book.counter < last_lease_id → IsStrictlySortedBy by_id book.leases → n ≡ free_id book.counter book.leases → IsIdOf book wanted (pos n, n + 1)
chosen book wanted n zero lt sorted is = subst (λ z. IsIdOf book z (pos n, n + 1)) (sym zero) (chosen_zero book n lt sorted is)
