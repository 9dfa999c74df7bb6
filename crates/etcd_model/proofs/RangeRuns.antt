-- Ranges: intervals, limits, orders and filters.
use Rattle.std.proofs.Common.{[], ◌∷◌, refl, true, false}
use Rattle.std.specs.Prelude.{pos}
use Rattle.etcd_types.specs.declared.kv.SortOrder.TheVariants.{Descend}
use Rattle.etcd_types.specs.declared.kv.SortTarget.TheVariants.{Version, Create}
use Rattle.etcd_types.specs.declared.step.Step.TheVariants.{Range}
use Rattle.etcd_types.specs.declared.refusal.Refusal.TheVariants.{NoKey}
use Rattle.etcd_types.specs.declared.reply.Reply.TheVariants.{Range as RangeReply, Refused}
use Rattle.etcd_model.specs.History.{History}
use Rattle.etcd_model.specs.Machine.{State, state_after}
use Rattle.etcd_model.proofs.Terms.{◌⇒◌, IsRun, fresh, a, b, c, one, two, three, row, put, range_of, every, at, found}

-- a tenant with three keys
abbrev three_keys : State History
three_keys = state_after fresh (put a one ∷ put b two ∷ put c three ∷ [])

range_options : IsRun three_keys
    (Range (record every { limit = pos 2 }) ⇒ RangeReply (at 4) 3 (row a 2 2 one 1 ∷ row b 3 3 two 1 ∷ []) true
    ∷ Range (record every { sort_target = Create; sort_order = Descend; keys_only = true; limit = pos 1 }) ⇒ RangeReply (at 4) 3 (row c 4 4 [] 1 ∷ []) true
    ∷ Range (record every { min_mod_revision = pos 3 }) ⇒ RangeReply (at 4) 3 (row b 3 3 two 1 ∷ row c 4 4 three 1 ∷ []) false
    ∷ Range (record every { count_only = true }) ⇒ RangeReply (at 4) 3 [] false
    ∷ Range (record every { sort_target = Version; sort_order = Descend }) ⇒ found 4 (row a 2 2 one 1 ∷ row b 3 3 two 1 ∷ row c 4 4 three 1 ∷ [])
    ∷ [])
range_options = refl

-- the end is not in the interval; the single byte 0 is no end
intervals : IsRun three_keys
    (Range (range_of a c) ⇒ found 4 (row a 2 2 one 1 ∷ row b 3 3 two 1 ∷ [])
    ∷ Range (range_of b (0 ∷ [])) ⇒ found 4 (row b 3 3 two 1 ∷ row c 4 4 three 1 ∷ [])
    ∷ Range (range_of c a) ⇒ found 4 []
    ∷ Range (range_of [] []) ⇒ Refused NoKey
    ∷ [])
intervals = refl
