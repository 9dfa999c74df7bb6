use Rattle.std.proofs.Common.{◌≡◌, ◌-◌, ◌<◌, ◌≤◌, ℕ, List, false, length, sym, subst, arith}
use Rattle.std.proofs.lemmas.List.{nil_from_length}
use Rattle.std.proofs.lemmas.Bool.Decides.{nat_tests}
use Rattle.etcd_model.specs.Interval.{is_in}
use Rattle.watch_sync.proofs.Others.{other_key, shorter_key}
use Rattle.watch_sync.proofs.wanting.is_other.Goals as goal

pub returns-in-Some-clause-other : goal.returns-in-Some-clause-other
returns-in-Some-clause-other c = λ yes key is.
    let front = c.args.front.now in
    let none : length c.args.watch.now.range_end ≡ 0 = grind (arith, nat_tests) in
    let some : length front - 1 < length front = omega arith in
    subst (λ (end : List ℕ). is_in c.args.watch.now.key end key ≡ false) (sym (nil_from_length c.args.watch.now.range_end none))
    (other_key front c.args.watch.now.key key (length front - 1) some is (λ same. absurd (grind (arith, nat_tests))))

pub returns-in-None-clause-other : goal.returns-in-None-clause-other
returns-in-None-clause-other c = λ yes key is.
    let front = c.args.front.now in
    let none : length c.args.watch.now.range_end ≡ 0 = grind (arith, nat_tests) in
    let some : length front - 1 < length front = omega arith in
    let short : length c.args.watch.now.key ≤ length front - 1 = grind (arith, nat_tests) in
    subst (λ (end : List ℕ). is_in c.args.watch.now.key end key ≡ false) (sym (nil_from_length c.args.watch.now.range_end none))
    (shorter_key front c.args.watch.now.key key (length front - 1) some is short)
