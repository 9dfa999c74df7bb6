-- The data of every answer has the shape that is read back.
use Rattle.std.proofs.Common.{◌≡◌, ℕ, suc, ◌<◌, ◌^◌, ◌==◌, ◌&&◌, ℤ, pos, List, [], ◌∷◌, length, codes, decimal, Bool, true, false, not, Option, Some, None, Ordering, Less, Equal, Greater, refl, arith}
use Rattle.std.specs.Fmt.{signed_decimal}
use Rattle.std.specs.Ordering.{nat_cmp, int_eq, is_lt}
use Rattle.std.specs.Str.{IsUtf8}
use Rattle.std.specs.Cmp.Lexicographic.{slice_cmp}
use Rattle.std.proofs.lemmas.Bool.{and_parts}
use Rattle.std.proofs.lemmas.Cmp.{nat_list_cmp_total}
use Rattle.json.proofs.Printed.Utf8.{are_ascii, IsUtf8-are_ascii}
use Rattle.serde_json.specs.Data.{Data, boolean, number, unsigned as whole, string, array, object, Members, no_members, member}
use Rattle.etcd_types.specs.Refusals.{refusal_code, refusal_text}
use Rattle.etcd_types.specs.declared.refusal.Refusal.{Refusal}
use Rattle.etcd_types.specs.declared.refusal.Refusal.TheVariants.{NoKey}
use Rattle.etcd_types.specs.declared.key_value.KeyValue.{KeyValue}
use Rattle.etcd_types.specs.declared.key_value.Event.{Event}
use Rattle.etcd_types.specs.declared.key_value.EventKind.{EventKind}
use Rattle.etcd_types.specs.declared.key_value.EventKind.TheVariants as event
use Rattle.etcd_types.specs.declared.reply.Header.{Header}
use Rattle.etcd_types.specs.declared.reply.OpReply.{OpReply}
use Rattle.etcd_types.specs.declared.reply.OpReply.TheVariants as response
use Rattle.etcd_model.specs.ReplyText.{member_unless, bytes_data, items_of, header_data, inner_header_data, key_value_data, row_member, kind_member, event_data, lease_data, range_members, put_members, delete_members, response_data, refusal_data, alarm_data, alarm_list, range_data, put_data, delete_data, txn_data, bare_data, created_data, events_data, canceled_data, granted_data, kept_alive_data, time_to_live_data, leases_data, alarms_data, status_data, result_data}
use Rattle.gateway_text.proofs.AsciiLemmas.{utf8_decimal, utf8_signed, utf8_encoding}
use Rattle.gateway_text.proofs.ShapeLemmas.{Precedes, Fits, ItemsFit, MembersFit}

-- ---- members

-- the name `later` is ASCII and comes after `name`
abbrev is_next : List ℕ → List ℕ → Bool
is_next name later = is_lt (slice_cmp nat_cmp name later) && are_ascii later

less_from_test : (o : Ordering) → is_lt o ≡ true → o ≡ Less
less_from_test Less test = refl
less_from_test Equal test = absurd (cc)
less_from_test Greater test = absurd (cc)

next_precedes : (name later : List ℕ) → is_next name later ≡ true → Precedes name later
next_precedes name later next = less_from_test _ (and_parts _ _ next).0

next_utf8 : (name later : List ℕ) → is_next name later ≡ true → IsUtf8 later
next_utf8 name later next = IsUtf8-are_ascii later (and_parts (is_lt (slice_cmp nat_cmp name later)) _ next).1

weaker : (name later : List ℕ) (ms : Members) (n : ℕ) → Precedes name later → MembersFit later ms n → MembersFit name ms n
weaker name later no_members n less fits = tt
weaker name later (member k d ms) n less fits = (nat_list_cmp_total.trans name later k less fits.0, fits.1, fits.2, fits.3)

-- members whose names come after `name`
record After (name : List ℕ) (n : ℕ) : Type 0 where
  members : Members
  fits : MembersFit name members n

abbrev nothing : {name : List ℕ} {n : ℕ} → After name n
nothing = record { members = no_members; fits = tt }

with_member : (name later : List ℕ) (n : ℕ) → is_next name later ≡ true → (d : Data) → Fits d n → (rest : Members) → MembersFit later rest n → MembersFit name (member later d rest) n
with_member name later n next d fits rest rest_fits = (next_precedes name later next, next_utf8 name later next, fits, rest_fits)

with_member_unless : (left_out : Bool) (name later : List ℕ) (n : ℕ) → is_next name later ≡ true → (d : Data) → Fits d n → (rest : Members) → MembersFit later rest n → MembersFit name (member_unless left_out later d rest) n
with_member_unless true name later n next d fits rest rest_fits = weaker name later rest n (next_precedes name later next) rest_fits
with_member_unless false name later n next d fits rest rest_fits = with_member name later n next d fits rest rest_fits

abbrev present : {name : List ℕ} {n : ℕ} (later : List ℕ) → is_next name later ≡ true → (d : Data) → Fits d n → After later n → After name n
present {name = name} {n = n} later next d fits rest = record { members = member later d rest.members; fits = with_member name later n next d fits rest.members rest.fits }

abbrev unless : {name : List ℕ} {n : ℕ} (left_out : Bool) (later : List ℕ) → is_next name later ≡ true → (d : Data) → Fits d n → After later n → After name n
unless {name = name} {n = n} left_out later next d fits rest = record { members = member_unless left_out later d rest.members; fits = with_member_unless left_out name later n next d fits rest.members rest.fits }

abbrev signed : {name : List ℕ} {n : ℕ} (later : List ℕ) → is_next name later ≡ true → ℤ → After later n → After name n
signed later next z rest = unless (int_eq z (pos 0)) later next (string (signed_decimal z)) (utf8_signed z) rest

abbrev unsigned : {name : List ℕ} {n : ℕ} (later : List ℕ) → is_next name later ≡ true → ℕ → After later n → After name n
unsigned later next k rest = unless (k == 0) later next (string (decimal k)) (utf8_decimal k) rest

abbrev bytes : {name : List ℕ} {n : ℕ} (later : List ℕ) → is_next name later ≡ true → List ℕ → After later n → After name n
bytes later next b rest = unless (length b == 0) later next (bytes_data b) (utf8_encoding b) rest

abbrev flag : {name : List ℕ} {n : ℕ} (later : List ℕ) → is_next name later ≡ true → Bool → After later n → After name n
flag later next b rest = unless (not b) later next (boolean true) tt rest

abbrev text : {name : List ℕ} {n : ℕ} (later : List ℕ) → is_next name later ≡ true → (s : List ℕ) → IsUtf8 s → After later n → After name n
text later next s utf8 rest = present later next (string s) utf8 rest

items_fit : {T : Type 0} (data_of : T → Data) (n : ℕ) → ((x : T) → Fits (data_of x) n) → (xs : List T) → ItemsFit (items_of data_of xs) n
items_fit data_of n each [] = tt
items_fit data_of n each (x ∷ xs) = (each x, items_fit data_of n each xs)

abbrev listed : {T : Type 0} {name : List ℕ} {n : ℕ} (data_of : T → Data) (later : List ℕ) → is_next name later ≡ true → ((x : T) → Fits (data_of x) n) → List T → After later (suc n) → After name (suc n)
listed {n = n} data_of later next each xs rest = unless (length xs == 0) later next (array (items_of data_of xs)) (items_fit data_of n each xs) rest

-- ---- parts of answers

one : IsUtf8 (codes "1")
one = IsUtf8-are_ascii (codes "1") refl

header_fits : (h : Header) (n : ℕ) → Fits (header_data h) (suc n)
unfolding header_data
header_fits h n =
    let chain : After [] n =
    unsigned (codes "cluster_id") refl h.cluster
    (text (codes "member_id") refl (codes "1") one (text (codes "raft_term") refl (codes "1") one (signed (codes "revision") refl h.revision nothing))) in
    chain.fits

inner_header_fits : (revision : ℤ) (n : ℕ) → Fits (inner_header_data revision) (suc n)
unfolding inner_header_data
inner_header_fits revision n = let chain : After [] n = signed (codes "revision") refl revision nothing in chain.fits

key_value_fits : (n : ℕ) (kv : KeyValue) → Fits (key_value_data kv) (suc n)
unfolding key_value_data
key_value_fits n kv =
    let chain : After [] n =
    unsigned (codes "create_revision") refl kv.create_revision
    (bytes (codes "key") refl kv.key
    (signed (codes "lease") refl kv.lease
    (unsigned (codes "mod_revision") refl kv.mod_revision (bytes (codes "value") refl kv.value (unsigned (codes "version") refl kv.version nothing))))) in
    chain.fits

row_fits : (name later : List ℕ) (n : ℕ) → is_next name later ≡ true → (rest : Members) → MembersFit later rest (suc n) → (row : Option KeyValue) → MembersFit name (row_member later row rest) (suc n)
row_fits name later n next rest rest_fits None = weaker name later rest (suc n) (next_precedes name later next) rest_fits
row_fits name later n next rest rest_fits (Some kv) = with_member name later (suc n) next (key_value_data kv) (key_value_fits n kv) rest rest_fits

abbrev row : {name : List ℕ} {n : ℕ} (later : List ℕ) → is_next name later ≡ true → Option KeyValue → After later (suc n) → After name (suc n)
row {name = name} {n = n} later next kv rest = record { members = row_member later kv rest.members; fits = row_fits name later n next rest.members rest.fits kv }

kind_fits : (kind : EventKind) (n : ℕ) → MembersFit (codes "prev_kv") (kind_member kind no_members) n
kind_fits event.Put n = tt
kind_fits event.Delete n = with_member (codes "prev_kv") (codes "type") n refl (string (codes "DELETE")) (IsUtf8-are_ascii (codes "DELETE") refl) no_members tt

event_fits : (n : ℕ) (e : Event) → Fits (event_data e) (suc (suc n))
unfolding event_data
event_fits n e =
    let kind : After (codes "prev_kv") (suc n) = record { members = kind_member e.kind no_members; fits = kind_fits e.kind (suc n) } in
    let chain : After [] (suc n) = present (codes "kv") refl (key_value_data e.kv) (key_value_fits n e.kv) (row (codes "prev_kv") refl e.prev_kv kind) in
    chain.fits

lease_fits : (n : ℕ) (id : ℤ) → Fits (lease_data id) (suc n)
unfolding lease_data
lease_fits n id = let chain : After [] n = signed (codes "ID") refl id nothing in chain.fits

bytes_fit : (n : ℕ) (b : List ℕ) → Fits (bytes_data b) n
bytes_fit n b = utf8_encoding b

-- ---- answers about keys; `header` is the header's data

module _ (header : Data) (n : ℕ) (fits : Fits header (suc (suc n))) where
  range_fits : (count : ℕ) (kvs : List KeyValue) (more : Bool) → Fits (object (range_members header count kvs more)) (suc (suc (suc n)))
  range_fits count kvs more =
      let chain : After [] (suc (suc n)) =
      unsigned (codes "count") refl count
      (present (codes "header") refl header fits (listed key_value_data (codes "kvs") refl (key_value_fits n) kvs (flag (codes "more") refl more nothing))) in
      chain.fits

  put_fits : (prev_kv : Option KeyValue) → Fits (object (put_members header prev_kv)) (suc (suc (suc n)))
  put_fits prev_kv = let chain : After [] (suc (suc n)) = present (codes "header") refl header fits (row (codes "prev_kv") refl prev_kv nothing) in chain.fits

  delete_fits : (deleted : ℕ) (prev_kvs : List KeyValue) → Fits (object (delete_members header deleted prev_kvs)) (suc (suc (suc n)))
  delete_fits deleted prev_kvs =
      let chain : After [] (suc (suc n)) =
      unsigned (codes "deleted") refl deleted (present (codes "header") refl header fits (listed key_value_data (codes "prev_kvs") refl (key_value_fits n) prev_kvs nothing)) in
      chain.fits

single_fits : (name : List ℕ) (n : ℕ) → is_next [] name ≡ true → (d : Data) → Fits d n → Fits (object (member name d no_members)) (suc n)
single_fits name n next d fits = with_member [] name n next d fits no_members tt

response_fits : (n : ℕ) (r : OpReply) → Fits (response_data r) (suc (suc (suc (suc n))))
unfolding response_data
response_fits n (response.Range revision count kvs more) =
    let header = inner_header_data revision in
    single_fits (codes "response_range") (suc (suc (suc n))) refl (object (range_members header count kvs more)) (range_fits header n (inner_header_fits revision (suc n)) count kvs more)
response_fits n (response.Put revision prev_kv) =
    let header = inner_header_data revision in
    single_fits (codes "response_put") (suc (suc (suc n))) refl (object (put_members header prev_kv)) (put_fits header n (inner_header_fits revision (suc n)) prev_kv)
response_fits n (response.Delete revision deleted prev_kvs) =
    let header = inner_header_data revision in
    single_fits (codes "response_delete_range") (suc (suc (suc n))) refl (object (delete_members header deleted prev_kvs)) (delete_fits header n (inner_header_fits revision (suc n)) deleted prev_kvs)

-- ---- answers

pub range_answer_fits : (h : Header) (count : ℕ) (kvs : List KeyValue) (more : Bool) (n : ℕ) → Fits (range_data h count kvs more) (suc (suc (suc n)))
unfolding range_data
range_answer_fits h count kvs more n = range_fits (header_data h) n (header_fits h (suc n)) count kvs more

pub put_answer_fits : (h : Header) (prev_kv : Option KeyValue) (n : ℕ) → Fits (put_data h prev_kv) (suc (suc (suc n)))
unfolding put_data
put_answer_fits h prev_kv n = put_fits (header_data h) n (header_fits h (suc n)) prev_kv

pub delete_answer_fits : (h : Header) (deleted : ℕ) (prev_kvs : List KeyValue) (n : ℕ) → Fits (delete_data h deleted prev_kvs) (suc (suc (suc n)))
unfolding delete_data
delete_answer_fits h deleted prev_kvs n = delete_fits (header_data h) n (header_fits h (suc n)) deleted prev_kvs

pub txn_answer_fits : (h : Header) (succeeded : Bool) (responses : List OpReply) (n : ℕ) → Fits (txn_data h succeeded responses) (suc (suc (suc (suc (suc (suc n))))))
unfolding txn_data
txn_answer_fits h succeeded responses n =
    let chain : After [] (suc (suc (suc (suc (suc n))))) =
    present (codes "header") refl (header_data h) (header_fits h (suc (suc (suc (suc n))))) (listed response_data (codes "responses") refl (response_fits n) responses (flag (codes "succeeded") refl succeeded nothing)) in
    chain.fits

pub bare_fits : (h : Header) (n : ℕ) → Fits (bare_data h) (suc (suc n))
unfolding bare_data
bare_fits h n = single_fits (codes "header") (suc n) refl (header_data h) (header_fits h n)

result_fits : (n : ℕ) (members : After [] n) → Fits (result_data members.members) (suc (suc n))
result_fits n members = single_fits (codes "result") (suc n) refl (object members.members) members.fits

pub created_fits : (h : Header) (watch_id : ℤ) (n : ℕ) → Fits (created_data h watch_id) (suc (suc (suc n)))
unfolding created_data
created_fits h watch_id n =
    let chain : After [] (suc n) = present (codes "created") refl (boolean true) tt (present (codes "header") refl (header_data h) (header_fits h n) (signed (codes "watch_id") refl watch_id nothing)) in
    result_fits (suc n) chain

pub events_fits : (h : Header) (watch_id : ℤ) (events : List Event) (n : ℕ) → Fits (events_data h watch_id events) (suc (suc (suc (suc (suc n)))))
unfolding events_data
events_fits h watch_id events n =
    let chain : After [] (suc (suc (suc n))) =
    listed event_data (codes "events") refl (event_fits n) events (present (codes "header") refl (header_data h) (header_fits h (suc (suc n))) (signed (codes "watch_id") refl watch_id nothing)) in
    result_fits (suc (suc (suc n))) chain

pub canceled_fits : (h : Header) (watch_id compact_revision : ℤ) (n : ℕ) → Fits (canceled_data h watch_id compact_revision) (suc (suc (suc n)))
unfolding canceled_data
canceled_fits h watch_id compact_revision n =
    let chain : After [] (suc n) =
    present (codes "canceled") refl (boolean true) tt
    (signed (codes "compact_revision") refl compact_revision
    (present (codes "header") refl (header_data h) (header_fits h n) (signed (codes "watch_id") refl watch_id nothing))) in
    result_fits (suc n) chain

abbrev lease_chain : (h : Header) (id ttl : ℤ) (n : ℕ) → After [] (suc n)
lease_chain h id ttl n = signed (codes "ID") refl id (signed (codes "TTL") refl ttl (present (codes "header") refl (header_data h) (header_fits h n) nothing))

pub granted_fits : (h : Header) (id ttl : ℤ) (n : ℕ) → Fits (granted_data h id ttl) (suc (suc n))
unfolding granted_data
granted_fits h id ttl n = (lease_chain h id ttl n).fits

pub kept_alive_fits : (h : Header) (id ttl : ℤ) (n : ℕ) → Fits (kept_alive_data h id ttl) (suc (suc (suc n)))
unfolding kept_alive_data
kept_alive_fits h id ttl n = result_fits (suc n) (lease_chain h id ttl n)

pub time_to_live_fits : (h : Header) (id ttl granted_ttl : ℤ) (keys : List (List ℕ)) (n : ℕ) → Fits (time_to_live_data h id ttl granted_ttl keys) (suc (suc n))
unfolding time_to_live_data
time_to_live_fits h id ttl granted_ttl keys n =
    let chain : After [] (suc n) =
    signed (codes "ID") refl id
    (signed (codes "TTL") refl ttl
    (signed (codes "grantedTTL") refl granted_ttl (present (codes "header") refl (header_data h) (header_fits h n) (listed bytes_data (codes "keys") refl (bytes_fit n) keys nothing)))) in
    chain.fits

pub leases_fits : (h : Header) (ids : List ℤ) (n : ℕ) → Fits (leases_data h ids) (suc (suc (suc n)))
unfolding leases_data
leases_fits h ids n =
    let chain : After [] (suc (suc n)) = present (codes "header") refl (header_data h) (header_fits h (suc n)) (listed lease_data (codes "leases") refl (lease_fits n) ids nothing) in
    chain.fits

alarm_fits : (n : ℕ) → Fits alarm_data (suc n)
unfolding alarm_data
alarm_fits n =
    let chain : After [] n = text (codes "alarm") refl (codes "NOSPACE") (IsUtf8-are_ascii (codes "NOSPACE") refl) (text (codes "memberID") refl (codes "1") one nothing) in
    chain.fits

alarm_list_fits : (no_space : Bool) (n : ℕ) → ItemsFit (items_of (λ d. d) (alarm_list no_space)) (suc n)
alarm_list_fits true n = (alarm_fits n, tt)
alarm_list_fits false n = tt

pub alarms_fits : (h : Header) (no_space : Bool) (n : ℕ) → Fits (alarms_data h no_space) (suc (suc (suc n)))
unfolding alarms_data
alarms_fits h no_space n =
    let alarms = alarm_list no_space in
    let chain : After [] (suc (suc n)) =
    unless (length alarms == 0) (codes "alarms") refl (array (items_of (λ d. d) alarms)) (alarm_list_fits no_space n) (present (codes "header") refl (header_data h) (header_fits h (suc n)) nothing) in
    chain.fits

pub status_fits : (h : Header) (size in_use : ℕ) (n : ℕ) → Fits (status_data h size in_use) (suc (suc n))
unfolding status_data
status_fits h size in_use n =
    let chain : After [] (suc n) = unsigned (codes "dbSize") refl size (unsigned (codes "dbSizeInUse") refl in_use (present (codes "header") refl (header_data h) (header_fits h n) nothing)) in
    chain.fits

small_code : (r : Refusal) → refusal_code r < 2 ^ 64
small_code NoKey = omega arith
small_code r = omega arith

refusal_text_utf8 : (r : Refusal) → IsUtf8 (refusal_text r)
refusal_text_utf8 NoKey = IsUtf8-are_ascii _ refl
refusal_text_utf8 r = IsUtf8-are_ascii _ refl

pub refusal_fits : (r : Refusal) (n : ℕ) → Fits (refusal_data r) (suc n)
unfolding refusal_data
refusal_fits r n =
    let chain : After [] n =
    present (codes "code") refl (number (whole (refusal_code r))) (small_code r)
    (text (codes "error") refl (refusal_text r) (refusal_text_utf8 r) (text (codes "message") refl (refusal_text r) (refusal_text_utf8 r) nothing)) in
    chain.fits
