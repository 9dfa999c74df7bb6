-- A body's bytes.
use Rattle.std.specs.Prelude.{ℕ, List}
use Rattle.host_front.specs.declared.answer.Body.{Body}
use Rattle.host_front.specs.declared.answer.Body.TheVariants.{Made, Fixed}

abbrev pub body_bytes : Body → List ℕ
body_bytes (Made bytes) = bytes.items
body_bytes (Fixed bytes) = bytes.now
