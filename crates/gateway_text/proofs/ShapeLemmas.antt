-- The shape of data that is read back as it was written: nested n deep at most, the names of each object ascending,
-- numbers whole, texts UTF-8.
use Rattle.std.proofs.Common.{◌≡◌, ℕ, zero, suc, ◌^◌, ◌<◌, ◌≤◌, List, [], ◌∷◌, ◌++◌, Bool, true, false, Some, Less, Greater, refl, sym, ap, ◌∙◌, arith, decimal}
use Rattle.std.specs.Prelude.{⊤}
use Rattle.std.specs.Ordering.{nat_cmp, ordering_reverse}
use Rattle.std.specs.Str.{IsUtf8}
use Rattle.std.specs.Cmp.Lexicographic.{slice_cmp}
use Rattle.std.proofs.lemmas.Cmp.{nat_list_cmp_total}
use Rattle.std.proofs.lemmas.Fmt.{IsAscii-decimal}
use Rattle.std.proofs.lemmas.Str.{IsUtf8-append, IsUtf8-from_ascii}
use Rattle.json.specs.Tree as tree
use Rattle.json.proofs.Printed.Decimals.{IsNumber-decimal}
use Rattle.json.proofs.Printed.Utf8.{IsUtf8-are_ascii, IsUtf8-quoted, IsUtf8-boolean}
use Rattle.serde_json.specs.Data.{unsigned, negative, float, Data, null, boolean, number, string, array, object, Items, no_items, item, Members, no_members, member, put}
use Rattle.serde_json.specs.Read.{of_json, of_items, of_members}
use Rattle.serde_json.specs.Written.{outline, items_outline, members_outline, comma_if, compact_text, items_text, members_text}
use Rattle.serde_json.proofs.Numbers.{number_of-decimal}

-- the name `later` comes after `name` in the order of bytes
abbrev pub Precedes : List ℕ → List ℕ → Type 0
Precedes name later = slice_cmp nat_cmp name later ≡ Less

abbrev mutual
  pub Fits : Data → ℕ → Type 0
  Fits null n = ⊤
  Fits (boolean b) n = ⊤
  Fits (number (unsigned k)) n = k < 2 ^ 64
  Fits (number (negative z)) n = ⊥
  Fits (number (float x)) n = ⊥
  Fits (string s) n = IsUtf8 s
  Fits (array ds) zero = ⊥
  Fits (array ds) (suc n) = ItemsFit ds n
  Fits (object ms) zero = ⊥
  Fits (object ms) (suc n) = MembersFit [] ms n

  pub ItemsFit : Items → ℕ → Type 0
  ItemsFit no_items n = ⊤
  ItemsFit (item d ds) n = Fits d n × ItemsFit ds n

  -- the names come after `name`
  pub MembersFit : List ℕ → Members → ℕ → Type 0
  MembersFit name no_members n = ⊤
  MembersFit name (member k d ms) n = Precedes name k × IsUtf8 k × Fits d n × MembersFit k ms n

-- ---- how deep it nests

mutual
  pub depth_of : (d : Data) (n : ℕ) → Fits d n → tree.depth (outline d) ≤ n
  depth_of null n fits = omega arith
  depth_of (boolean b) n fits = omega arith
  depth_of (number k) n fits = omega arith
  depth_of (string s) n fits = omega arith
  depth_of (array ds) zero fits = absurd fits
  depth_of (array ds) (suc n) fits = omega (arith, depth_of_items ds n fits)
  depth_of (object ms) zero fits = absurd fits
  depth_of (object ms) (suc n) fits = omega (arith, depth_of_members [] ms n fits)

  depth_of_items : (ds : Items) (n : ℕ) → ItemsFit ds n → tree.items_depth (items_outline ds) ≤ n
  depth_of_items no_items n fits = omega arith
  depth_of_items (item d ds) n fits = omega (arith, depth_of d n fits.0, depth_of_items ds n fits.1)

  depth_of_members : (name : List ℕ) (ms : Members) (n : ℕ) → MembersFit name ms n → tree.members_depth (members_outline ms) ≤ n
  depth_of_members name no_members n fits = omega arith
  depth_of_members name (member k d ms) n fits = omega (arith, depth_of d n fits.2, depth_of_members k ms n fits.3)

-- ---- its numbers

mutual
  pub numbers_of : (d : Data) (n : ℕ) → Fits d n → tree.HasNumbers (outline d)
  numbers_of null n fits = tt
  numbers_of (boolean b) n fits = tt
  numbers_of (number (unsigned k)) n fits = IsNumber-decimal k fits
  numbers_of (number (negative z)) n fits = absurd fits
  numbers_of (number (float x)) n fits = absurd fits
  numbers_of (string s) n fits = tt
  numbers_of (array ds) zero fits = absurd fits
  numbers_of (array ds) (suc n) fits = numbers_of_items ds n fits
  numbers_of (object ms) zero fits = absurd fits
  numbers_of (object ms) (suc n) fits = numbers_of_members [] ms n fits

  numbers_of_items : (ds : Items) (n : ℕ) → ItemsFit ds n → tree.ItemsHaveNumbers (items_outline ds)
  numbers_of_items no_items n fits = tt
  numbers_of_items (item d ds) n fits = (numbers_of d n fits.0, numbers_of_items ds n fits.1)

  numbers_of_members : (name : List ℕ) (ms : Members) (n : ℕ) → MembersFit name ms n → tree.MembersHaveNumbers (members_outline ms)
  numbers_of_members name no_members n fits = tt
  numbers_of_members name (member k d ms) n fits = (numbers_of d n fits.2, numbers_of_members k ms n fits.3)

-- ---- its text

comma_utf8 : (later : Bool) → IsUtf8 (comma_if later)
comma_utf8 true = IsUtf8-are_ascii (44 ∷ []) refl
comma_utf8 false = IsUtf8-are_ascii [] refl

sign_then : (x : ℕ) (xs : List ℕ) → IsUtf8 (x ∷ []) → IsUtf8 xs → IsUtf8 (x ∷ xs)
sign_then x xs sign rest = IsUtf8-append (x ∷ []) xs sign rest

mutual
  pub utf8_text : (d : Data) (n : ℕ) → Fits d n → IsUtf8 (compact_text d)
  utf8_text null n fits = IsUtf8-are_ascii _ refl
  utf8_text (boolean b) n fits = IsUtf8-boolean b
  utf8_text (number (unsigned k)) n fits = IsUtf8-from_ascii (decimal k) (IsAscii-decimal k fits)
  utf8_text (number (negative z)) n fits = absurd fits
  utf8_text (number (float x)) n fits = absurd fits
  utf8_text (string s) n fits = IsUtf8-quoted s fits
  utf8_text (array ds) zero fits = absurd fits
  utf8_text (array ds) (suc n) fits = sign_then 91 _ (IsUtf8-are_ascii _ refl) (utf8_items false ds n fits)
  utf8_text (object ms) zero fits = absurd fits
  utf8_text (object ms) (suc n) fits = sign_then 123 _ (IsUtf8-are_ascii _ refl) (utf8_members false [] ms n fits)

  utf8_items : (later : Bool) (ds : Items) (n : ℕ) → ItemsFit ds n → IsUtf8 (items_text later ds)
  utf8_items later no_items n fits = IsUtf8-are_ascii _ refl
  utf8_items later (item d ds) n fits =
      IsUtf8-append (comma_if later) (compact_text d ++ items_text true ds) (comma_utf8 later)
      (IsUtf8-append (compact_text d) (items_text true ds) (utf8_text d n fits.0) (utf8_items true ds n fits.1))

  utf8_members : (later : Bool) (name : List ℕ) (ms : Members) (n : ℕ) → MembersFit name ms n → IsUtf8 (members_text later ms)
  utf8_members later name no_members n fits = IsUtf8-are_ascii _ refl
  utf8_members later name (member k d ms) n fits =
      IsUtf8-append (comma_if later) _ (comma_utf8 later)
      (IsUtf8-append _ (58 ∷ (compact_text d ++ members_text true ms)) (IsUtf8-quoted k fits.1)
      (sign_then 58 _ (IsUtf8-are_ascii _ refl)
      (IsUtf8-append (compact_text d) (members_text true ms) (utf8_text d n fits.2) (utf8_members true k ms n fits.3))))

-- ---- members go in one after another, each at the end

-- the members, and one more after them
abbrev one_more : Members → List ℕ → Data → Members
one_more no_members k d = member k d no_members
one_more (member l e ms) k d = member l e (one_more ms k d)

abbrev followed : Members → Members → Members
followed no_members ms = ms
followed (member k d found) ms = member k d (followed found ms)

followed-nothing : (ms : Members) → followed ms no_members ≡ ms
followed-nothing no_members = refl
followed-nothing (member k d ms) = ap (member k d) (followed-nothing ms)

followed-one_more : (found : Members) (k : List ℕ) (d : Data) (ms : Members) → followed (one_more found k d) ms ≡ followed found (member k d ms)
followed-one_more no_members k d ms = refl
followed-one_more (member l e found) k d ms = ap (member l e) (followed-one_more found k d ms)

-- k comes after all of these names
abbrev IsPast : List ℕ → Members → Type 0
IsPast k no_members = ⊤
IsPast k (member l e ms) = (slice_cmp nat_cmp k l ≡ Greater) × IsPast k ms

put-past : (k : List ℕ) (d : Data) (ms : Members) → IsPast k ms → put k d ms ≡ one_more ms k d
put-past k d no_members past = refl
put-past k d (member l e ms) past = rw past.0 (ap (member l e) (put-past k d ms past.1))

IsPast-one_more : (k : List ℕ) (ms : Members) (l : List ℕ) (d : Data) → IsPast k ms → slice_cmp nat_cmp k l ≡ Greater → IsPast k (one_more ms l d)
IsPast-one_more k no_members l d past greater = (greater, tt)
IsPast-one_more k (member m e ms) l d past greater = (past.0, IsPast-one_more k ms l d past.1 greater)

reversed : (name later : List ℕ) → Precedes name later → slice_cmp nat_cmp later name ≡ Greater
reversed name later less = nat_list_cmp_total.antisymm later name ∙ ap ordering_reverse less

mutual
  pub outline_read : (d : Data) (n : ℕ) → Fits d n → of_json (outline d) ≡ Some d
  outline_read null n fits = refl
  outline_read (boolean b) n fits = refl
  outline_read (number (unsigned k)) n fits = rw (number_of-decimal k fits)
  outline_read (number (negative z)) n fits = absurd fits
  outline_read (number (float x)) n fits = absurd fits
  outline_read (string s) n fits = refl
  outline_read (array ds) zero fits = absurd fits
  outline_read (array ds) (suc n) fits = rw (items_read ds n fits)
  outline_read (object ms) zero fits = absurd fits
  outline_read (object ms) (suc n) fits = rw (members_read no_members [] ms n fits (λ later less. tt))

  items_read : (ds : Items) (n : ℕ) → ItemsFit ds n → of_items (items_outline ds) ≡ Some ds
  items_read no_items n fits = refl
  items_read (item d ds) n fits = rw (outline_read d n fits.0, items_read ds n fits.1)

  -- what was found has names up to `name`
  members_read : (found : Members) (name : List ℕ) (ms : Members) (n : ℕ) → MembersFit name ms n → ((later : List ℕ) → Precedes name later → IsPast later found) → of_members (members_outline ms) found ≡ Some (followed found ms)
  members_read found name no_members n fits past = ap Some (sym (followed-nothing found))
  members_read found name (member k d ms) n fits past =
      rw (outline_read d n fits.2, put-past k d found (past k fits.0))
      (members_read (one_more found k d) k ms n fits.3
      (λ later less. IsPast-one_more later found k d (past later (nat_list_cmp_total.trans name k later fits.0 less)) (reversed k later less))
      ∙ ap Some (followed-one_more found k d ms))
