-- What a fold over operations keeps.
use Rattle.std.specs.Prelude.{◌≡◌, ◌+◌, ◌<◌, ◌^◌, ◌++◌, [], true, false, List}
use Rattle.std.specs.List.{AllByRecursion, list_any}
use Rattle.etcd_types.specs.declared.txn.Op.{Op}
use Rattle.etcd_types.specs.declared.reply.OpReply.{OpReply}
use Rattle.etcd_types.specs.Steps.{writes_any}
use Rattle.etcd_model.specs.declared.state.Change.{Change}
use Rattle.etcd_model.specs.Fields.{has_duplicate, is_nested}
use Rattle.etcd_model.specs.Operations.{pending_after, replies}
use Rattle.revision_store.specs.Stored.{StoreState, look, reads}
use Rattle.txn_plan.specs.Planned.{IsApart, IsReadable}

-- what is pending keeps none of some operations from being done
abbrev pub AllApart : List Change → List Op → Type 0
AllApart pending ops = AllByRecursion (λ op. IsApart op pending) ops

-- with what is pending and what is answered, the operations that are left make the whole, and each of them
-- can be done
pub record GoesOn
    (store : StoreState) (ops left : List Op) (pending : List Change) (told : List OpReply) : Type 0 where
  pub changes : pending_after (look store) pending left ≡ pending_after (look store) [] ops
  pub replies : told ++ replies (look store) pending left ≡ replies (look store) [] ops
  pub apart : AllApart pending left
  pub distinct : has_duplicate left ≡ false
  pub offered : list_any is_nested left ≡ false
  pub readable : AllByRecursion (IsReadable (reads store)) left
  pub revisions : writes_any left ≡ true → store.kept.current + 1 < 2 ^ 63
