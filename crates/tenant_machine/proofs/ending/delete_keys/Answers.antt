use Rattle.std.proofs.Common.{◌≡◌, ◌∙◌, ℕ, ◌<◌, List, [], ◌++◌, ap, arith, false, length, nat_eq, of_z, refl, rules, subst, sym, to_z, w64}
use mathlib.Core.List.{Mem, Memᴰ}
use mathlib.Core.List.Memᴰ.{append_cases}
use mathlib.Core.Logic.{◌⊎◌, inl, inr, ∥∥₁_map}
use Rattle.std.proofs.lemmas.Bool.Decides.{nat_tests}
use Rattle.std.proofs.lemmas.Iterator.Consumers.{YieldsList-from_first}
use Rattle.std.proofs.lemmas.List.{append-nil}
use Rattle.lease_book.specs.Attached.{heads_of}
use Rattle.revision_store.specs.Plans.{head_deletes}
use Rattle.revision_store.specs.Stored.{CanCommit}
use Rattle.tenant_machine.proofs.ending.delete_keys.Goals as goal

-- a walk has three borrows, of one lifetime
one_of_three : (κ : List ℕ) (a : ℕ) → Mem a ((κ ++ (κ ++ κ)) ++ []) → Mem a κ
one_of_three κ a m = ∥∥₁_map (rw (append-nil (κ ++ (κ ++ κ))) at m) (λ d. first_of (append_cases κ d))
  where
    second_of : Memᴰ a κ ⊎ Memᴰ a κ → Memᴰ a κ
    second_of (inl d) = d
    second_of (inr d) = d

    first_of : Memᴰ a κ ⊎ Memᴰ a (κ ++ κ) → Memᴰ a κ
    first_of (inl d) = d
    first_of (inr d) = second_of (append_cases κ d)

pub delete_heads-requires : goal.delete_heads-requires
delete_heads-requires g c κs within =
    let keys = c.keys_of-keys.result in
    let bits : to_z w64 (of_z w64 c.args.id) ≡ c.args.id = search rules in
    let are : heads_of c.args.leases.now.attachments c.args.id ≡ keys = ap (heads_of c.args.leases.now.attachments) (sym bits) ∙ sym c.keys_of-keys.ensures in
    let none : nat_eq (length keys) 0 ≡ false = sym c.is_empty.ensures ∙ c.if-not-is_empty.true in
    let some : 0 < length keys = grind (arith, nat_tests) in (
      within,
      (
        λ a m. one_of_three κs.1.1.1.0 a (rw (append-nil κs.1.1.1.0) at (rw (append-nil κs.1.1.1.0) at m)),
        (
          tt,
          (
            tt,
            (
              (YieldsList-from_first (λ cell. cell) (λ rest. rest) keys refl).runs,
              (
                some,
                (subst (λ l. CanCommit c.args.store.now (head_deletes l)) are c.requires.fits, c.requires.lent),
              ),
            ),
          ),
        ),
      ),
    )
