-- The value of a body, from what `Value::from_slice` answered.
use Rattle.std.proofs.Common.{◌≡◌, ℕ, List, length, Bool, true, false, if◌then◌else◌, Option, Some, None, refl, ◌==◌}
use Rattle.std.specs.Prelude.{IsUtf8}
use Rattle.std.specs.Str.{is_utf8}
use Rattle.std.proofs.lemmas.Str.{IsUtf8-from_is_utf8, is_utf8-from_IsUtf8}
use Rattle.serde_json.specs.Data.{Data}
use Rattle.serde_json.specs.Read.{read}
use Rattle.etcd_model.specs.Calls.{body_value}

guarded : {A : Type 0} (b : Bool) (r : Option A) → (b ≡ true → r ≡ None) → (if b then r else None) ≡ None
guarded true r h = h refl
guarded false r h = refl

pub body_value_read : (body : List ℕ) (d : Data) → (length body == 0) ≡ false → IsUtf8 body → read body ≡ Some d → body_value body ≡ Some d
body_value_read body d some text reads = rw (some, is_utf8-from_IsUtf8 body text) reads

pub body_value_refused : (body : List ℕ) → (length body == 0) ≡ false → (IsUtf8 body → read body ≡ None) → body_value body ≡ None
body_value_refused body some refused = rw some (guarded (is_utf8 body) (read body) (λ h. refused (IsUtf8-from_is_utf8 body h)))

pub ruleset body_value_is = (body_value_read, body_value_refused)
