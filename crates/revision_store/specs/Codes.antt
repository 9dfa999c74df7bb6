-- The codes of what a store is to its callers, by which proofs tell values apart.
use Rattle.std.specs.Prelude.{ℕ, ℤ, List, Option, refl}
use Rattle.std.specs.Coded.{Coded, code_by, coded×, coded_ℕ, coded_ℤ, coded_list, coded_option}
use Rattle.etcd_types.specs.declared.key_value.KeyValue.{KeyValue}
use Rattle.etcd_model.specs.Changes.{Recorded}
use Rattle.etcd_model.specs.Store.{Store}

abbrev pub bytes_code : Coded (List ℕ)
bytes_code = coded_list coded_ℕ

abbrev pub row_code : Coded KeyValue
row_code =
    code_by ((List ℕ × ℕ) × ((ℕ × ℕ) × (List ℕ × ℤ)))
    (coded× (coded× bytes_code coded_ℕ) (coded× (coded× coded_ℕ coded_ℕ) (coded× bytes_code coded_ℤ)))
    (λ r. ((r.key, r.create_revision), ((r.mod_revision, r.version), (r.value, r.lease))))
    (λ p. record {
      key = p.0.0;
      create_revision = p.0.1;
      mod_revision = p.1.0.0;
      version = p.1.0.1;
      value = p.1.1.0;
      lease = p.1.1.1;
    })
    (λ _. refl)

abbrev pub recorded_code : Coded Recorded
recorded_code =
    code_by (List ℕ × (ℕ × Option KeyValue)) (coded× bytes_code (coded× coded_ℕ (coded_option row_code)))
    (λ x. (x.key, (x.revision, x.row)))
    (λ p. record { key = p.0; revision = p.1.0; row = p.1.1 })
    (λ _. refl)

abbrev pub changes_code : Coded (List Recorded)
changes_code = coded_list recorded_code

abbrev pub kept_code : Coded Store
kept_code =
    code_by (ℕ × (ℕ × List Recorded)) (coded× coded_ℕ (coded× coded_ℕ changes_code))
    (λ s. (s.current, (s.compacted, s.changes)))
    (λ p. record { current = p.0; compacted = p.1.0; changes = p.1.1 })
    (λ _. refl)
