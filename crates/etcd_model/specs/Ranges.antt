-- What a range answers.
-- etcd: API reference, RangeRequest and RangeResponse.
use Rattle.std.specs.Prelude.{ℕ, zero, suc, Bool, ◌&&◌, ◌||◌, false, List, [], length, map, filter, take, ℤ}
use Rattle.std.specs.Prelude.{pos, negsuc, nat_lt, int_le, if◌then◌else◌}
use Rattle.std.specs.Ordering.{nat_cmp, int_eq, ordering_then, ordering_reverse}
use Rattle.std.specs.declared.cmp.Ordering.{Ordering}
use Rattle.etcd_types.specs.declared.key_value.KeyValue.{KeyValue}
use Rattle.etcd_types.specs.declared.kv.RangeReq.{RangeReq}
use Rattle.etcd_types.specs.declared.kv.SortOrder.{SortOrder}
use Rattle.etcd_types.specs.declared.kv.SortOrder.TheVariants.{Unsorted, Ascend, Descend}
use Rattle.etcd_types.specs.declared.kv.SortTarget.{SortTarget}
use Rattle.etcd_types.specs.declared.kv.SortTarget.TheVariants.{Key, Version, Create, Mod, Value}
use Rattle.etcd_types.specs.declared.reply.OpReply.{OpReply}
use Rattle.etcd_types.specs.declared.reply.OpReply.TheVariants.{Range}
use Rattle.etcd_model.specs.Order.{key_cmp, in_order}

-- a number is within two bounds, of which 0 is none
abbrev pub is_within : ℤ → ℤ → ℤ → Bool
is_within low high n = (int_eq low (pos 0) || int_le low n) && (int_eq high (pos 0) || int_le n high)

-- the row passes the filters by revision
abbrev pub is_wanted : RangeReq → KeyValue → Bool
is_wanted q row =
    is_within q.min_mod_revision q.max_mod_revision (pos row.mod_revision)
    && is_within q.min_create_revision q.max_create_revision (pos row.create_revision)

abbrev pub target_cmp : SortTarget → KeyValue → KeyValue → Ordering
target_cmp Key a b = key_cmp a.key b.key
target_cmp Version a b = nat_cmp a.version b.version
target_cmp Create a b = nat_cmp a.create_revision b.create_revision
target_cmp Mod a b = nat_cmp a.mod_revision b.mod_revision
target_cmp Value a b = key_cmp a.value b.value

-- by the target, and where that ties by ascending key; with no order given it ascends
abbrev pub row_cmp : SortOrder → SortTarget → KeyValue → KeyValue → Ordering
row_cmp Unsorted t a b = ordering_then (target_cmp t a b) (key_cmp a.key b.key)
row_cmp Ascend t a b = ordering_then (target_cmp t a b) (key_cmp a.key b.key)
row_cmp Descend t a b = ordering_then (ordering_reverse (target_cmp t a b)) (key_cmp a.key b.key)

-- at most so many; 0 or below is no limit
abbrev pub limited : {X : Type 0} → ℤ → List X → List X
limited (negsuc n) xs = xs
limited (pos zero) xs = xs
limited (pos (suc n)) xs = take (suc n) xs

abbrev pub without_value : KeyValue → KeyValue
without_value row = record row { value = [] }

pub record Found : Type 0 where
  pub count : ℕ
  pub kvs : List KeyValue
  pub more : Bool

-- of the rows of the interval: their count, then the filters, the sort, the limit, and keys alone
abbrev pub found : RangeReq → List KeyValue → Found
found q all =
    let picked = in_order (row_cmp q.sort_order q.sort_target) (filter (is_wanted q) all) in
    let given = limited q.limit picked in
    if q.count_only then record { count = length all; kvs = []; more = false }
    else record {
      count = length all;
      kvs = if q.keys_only then map without_value given else given;
      more = nat_lt (length given) (length picked);
    }

-- what a range is answered at a revision, where its interval has these rows
abbrev pub range_reply : ℕ → RangeReq → List KeyValue → OpReply
range_reply revision q all = let f = found q all in Range (pos revision) f.count f.kvs f.more
