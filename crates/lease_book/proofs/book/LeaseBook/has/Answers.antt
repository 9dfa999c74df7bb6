use Rattle.std.proofs.Common.{◌≡◌, ap, ◌∙◌, rules}
use Rattle.std.specs.Prelude.{is_some}
use Rattle.etcd_model.specs.Leases.{lease_at}
use Rattle.lease_book.proofs.Standing.{has_is}
use Rattle.lease_book.proofs.book.LeaseBook.has.Goals as goal

pub returns : goal.returns
returns c =
    let at : c.lease.result ≡ lease_at c.args.self.now.leases c.args.id = search rules in
    c.is_some.ensures ∙ ap is_some at ∙ has_is c.args.self.now.leases c.args.id
