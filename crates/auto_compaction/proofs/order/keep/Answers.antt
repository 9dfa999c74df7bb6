use Rattle.std.proofs.Common.{◌∙◌, ◌++◌, sym, ap, append_assoc, List}
use Rattle.std.specs.Option.{option_to_list}
use Rattle.auto_compaction.specs.declared.order.Note.{Note}
use Rattle.auto_compaction.proofs.order.keep.Goals as goal

pub loop-preserved : goal.loop-preserved
loop-preserved c =
    let gone : List Note = c.loop.invariant.0 in (
      gone ++ option_to_list c.pop_front.result,
      c.loop.invariant.1 ∙ ap (λ notes. gone ++ notes) c.pop_front.ensures.items
          ∙ sym (append_assoc gone (option_to_list c.pop_front.result) c.pop_front.new.self.items),
    )
