-- A map of tenants by their names.
use Rattle.std.proofs.Common.{◌≡◌, ◌∙◌, sym, ap, subst, ℕ, List, [], ◌∷◌, ◌++◌, Option, None, Vec}
use Rattle.std.specs.Str.{bytes_eq}
use Rattle.std.specs.Map.{lookup}
use Rattle.indexmap.specs.IndexMap.{insert_entry}
use Rattle.indexmap.proofs.MapLemmas.{absent_from_lookup, insert_entry-absent}
use Rattle.etcd_model.proofs.NamedLaws.{test}

-- a key that no test finds goes last
pub last : {A X : Type 0} (es gs : List (Vec ℕ A × X)) (k : Vec ℕ A) (v : X) (name : List ℕ) → gs ≡ es → k.items ≡ name → lookup (test name) es ≡ None → insert_entry (λ x y. bytes_eq x.items y.items) gs k v ≡ es ++ (k, v) ∷ []
last es gs k v name same key none =
    ap (λ xs. insert_entry (λ x y. bytes_eq x.items y.items) xs k v) same
    ∙ insert_entry-absent (λ x y. bytes_eq x.items y.items) k v es (absent_from_lookup (test k.items) es (subst (λ (t : List ℕ). lookup (test t) es ≡ None) (sym key) none))
