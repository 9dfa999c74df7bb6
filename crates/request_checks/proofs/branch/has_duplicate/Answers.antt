use Rattle.std.proofs.Common.{◌≡◌, ◌∙◌, sym, ap, false, ◌||◌}
use Rattle.std.specs.List.{list_any}
use Rattle.etcd_model.specs.Fields.{deletes, has_twice, puts}
use Rattle.etcd_model.specs.Interval.{is_in}
use Rattle.request_checks.proofs.Filtered.{deleted}
use Rattle.request_checks.proofs.branch.has_duplicate.Goals as goal

pub returns-else-has_twice : goal.returns-else-has_twice
returns-else-has_twice c =
    let ops = c.args.ops.now in
    let once : has_twice (puts ops) ≡ false = sym c.has_twice.ensures ∙ c.if-has_twice.false in
    c.has_deleted.ensures ∙ deleted ops ∙ ap (λ b. b || list_any (λ p. list_any (λ d. is_in d.key d.range_end p.key) (deletes ops)) (puts ops)) (sym once)
