-- Compaction: what is read, and what is refused, afterwards.
use Rattle.std.proofs.Common.{[], ◌∷◌, refl}
use Rattle.std.specs.Prelude.{pos, negsuc}
use Rattle.etcd_types.specs.declared.step.Step.TheVariants.{Compact}
use Rattle.etcd_types.specs.declared.refusal.Refusal.TheVariants.{Compacted as IsCompacted, Future}
use Rattle.etcd_types.specs.declared.reply.Reply.TheVariants.{Compacted, Refused}
use Rattle.etcd_model.proofs.Terms.{◌⇒◌, IsRun, fresh, foo, one, two, three, row, put, get_at, delete, at, done, found, deleted}

-- a read at the compacted revision itself is answered
compaction : IsRun fresh
    (put foo one ⇒ done 2
    ∷ put foo two ⇒ done 3
    ∷ delete foo ⇒ deleted 4 1
    ∷ put foo three ⇒ done 5
    ∷ Compact (pos 3) ⇒ Compacted (at 5)
    ∷ get_at foo (pos 2) ⇒ Refused IsCompacted
    ∷ get_at foo (pos 3) ⇒ found 5 (row foo 2 3 two 2 ∷ [])
    ∷ get_at foo (pos 4) ⇒ found 5 []
    ∷ get_at foo (pos 6) ⇒ Refused Future
    ∷ Compact (pos 3) ⇒ Refused IsCompacted
    ∷ Compact (pos 6) ⇒ Refused Future
    ∷ [])
compaction = refl

compaction_of_nothing : IsRun fresh
    (Compact (pos 0) ⇒ Refused IsCompacted
    ∷ Compact (negsuc 4) ⇒ Refused IsCompacted
    ∷ Compact (pos 1) ⇒ Compacted (at 1)
    ∷ Compact (pos 2) ⇒ Refused Future
    ∷ [])
compaction_of_nothing = refl
