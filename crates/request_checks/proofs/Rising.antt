-- Of puts whose keys rise none has the key of another.
use Rattle.std.proofs.Common.{◌≡◌, ◌∙◌, sym, ap, refl, ℕ, true, false, List, [], ◌∷◌, Option, Some}
use Rattle.std.specs.declared.cmp.Ordering.{Ordering}
use Rattle.std.specs.declared.cmp.Ordering.TheVariants.{Less, Equal, Greater}
use Rattle.std.specs.Ordering.{is_lt, is_eq, nat_cmp, ordering_reverse}
use Rattle.std.specs.Cmp.Lexicographic.{slice_cmp}
use Rattle.std.specs.List.{list_any}
use Rattle.std.specs.Str.{bytes_eq}
use Rattle.std.proofs.lemmas.Bool.{true≢false, and_parts, or_from}
use Rattle.std.proofs.lemmas.Cmp.{nat_list_cmp_total}
use Rattle.std.proofs.lemmas.Map.Text.{is_eq-slice_cmp}
use Rattle.etcd_types.specs.declared.kv.PutReq.{PutReq}
use Rattle.etcd_model.specs.Fields.{has_twice}
use Rattle.request_checks.specs.Branch.{rise}

less : (o : Ordering) → is_lt o ≡ true → o ≡ Less
less Less e = refl
less Equal e = absurd (true≢false (sym e))
less Greater e = absurd (true≢false (sym e))

-- a key above another is not it
another : (j k : List ℕ) → slice_cmp nat_cmp j k ≡ Less → bytes_eq k j ≡ false
another j k below = sym (is_eq-slice_cmp k j) ∙ ap is_eq (nat_list_cmp_total.antisymm k j ∙ ap ordering_reverse below)

-- keys that rise from one above another are not that one
not_there : (j k : List ℕ) (ps : List PutReq) → slice_cmp nat_cmp j k ≡ Less → rise (Some k) ps ≡ true → list_any (λ p. bytes_eq p.key j) ps ≡ false
not_there j k [] below h = refl
not_there j k (p ∷ ps) below h =
    let parts = and_parts (is_lt (slice_cmp nat_cmp k p.key)) (rise (Some p.key) ps) h in
    let above = nat_list_cmp_total.trans j k p.key below (less (slice_cmp nat_cmp k p.key) parts.0) in
    or_from (bytes_eq p.key j) (list_any (λ q. bytes_eq q.key j) ps) (another j p.key above) (not_there j p.key ps above parts.1)

-- keys that rise from one are not that one
not_again : (k : List ℕ) (ps : List PutReq) → rise (Some k) ps ≡ true → list_any (λ p. bytes_eq p.key k) ps ≡ false
not_again k [] h = refl
not_again k (p ∷ ps) h =
    let parts = and_parts (is_lt (slice_cmp nat_cmp k p.key)) (rise (Some p.key) ps) h in
    let above = less (slice_cmp nat_cmp k p.key) parts.0 in
    or_from (bytes_eq p.key k) (list_any (λ q. bytes_eq q.key k) ps) (another k p.key above) (not_there k p.key ps above parts.1)

pub no_key_twice : (before : Option (List ℕ)) (ps : List PutReq) → rise before ps ≡ true → has_twice ps ≡ false
no_key_twice before [] h = refl
no_key_twice before (p ∷ ps) h =
    let parts = and_parts _ (rise (Some p.key) ps) h in
    or_from (list_any (λ q. bytes_eq q.key p.key) ps) (has_twice ps) (not_again p.key ps parts.1) (no_key_twice (Some p.key) ps parts.1)
