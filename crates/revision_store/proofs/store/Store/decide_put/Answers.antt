use Rattle.std.proofs.Common.{◌≡◌, ◌≤◌, ◌∙◌, ap, refl, arith}
use Rattle.std.specs.Option.{option_copied}
use Rattle.etcd_model.specs.Changes.{live, version_of}
use Rattle.revision_store.specs.Pending.{present}
use Rattle.revision_store.proofs.PendingPuts.{version_present}
use Rattle.revision_store.proofs.PendingStores.{version_within}
use Rattle.revision_store.proofs.store.Store.decide_put.Goals as goal

pub row_put-requires : goal.row_put-requires
row_put-requires c =
    let store = c.args.self.now in
    let p = c.args.request.now in
    let now = live p.key store.kept.current store.kept.changes in
    let few : version_of now ≤ store.kept.current = version_within store.kept.changes p.key store.kept.current now c.current-revision.ensures.sound.numbers refl in
    let read : c.in_ok-now.now ≡ present p now = c.in_ok-now.ensures ∙ ap (present p) c.requires.row in
    let is : version_of (option_copied c.as_ref.result) ≡ version_of now = rw (c.as_ref.ensures.value, read) (version_present p now) in
    omega (arith, few, is, c.requires.revisions)
