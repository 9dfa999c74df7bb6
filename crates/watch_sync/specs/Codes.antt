-- The code of what watchers are to their callers, by which proofs tell values apart.
use Rattle.std.specs.Prelude.{ℕ, ℤ, Bool, List, Option, refl}
use Rattle.std.specs.Coded.{Coded, code_by, coded×, coded_ℕ, coded_ℤ, coded_bool, coded_list, coded_option}
use Rattle.etcd_model.specs.declared.state.Watch.{Watch}
use Rattle.revision_store.specs.Codes.{bytes_code}
use Rattle.watch_sync.specs.declared.noted.Noted.{Noted}
use Rattle.watch_sync.specs.Agreeing.{WatchState}

abbrev pub watch_code : Coded Watch
watch_code =
    code_by ((List ℕ × List ℕ) × (((Bool × Bool) × (Bool × Bool)) × (ℤ × (ℕ × ℕ))))
    (coded× (coded× bytes_code bytes_code)
    (coded× (coded× (coded× coded_bool coded_bool) (coded× coded_bool coded_bool))
    (coded× coded_ℤ (coded× coded_ℕ coded_ℕ))))
    (λ w. (
      (w.key, w.range_end),
      (((w.no_put, w.no_delete), (w.prev_kv, w.progress_notify)), (w.id, (w.next, w.told))),
    ))
    (λ p. record {
      key = p.0.0;
      range_end = p.0.1;
      no_put = p.1.0.0.0;
      no_delete = p.1.0.0.1;
      prev_kv = p.1.0.1.0;
      id = p.1.1.0;
      next = p.1.1.1.0;
      progress_notify = p.1.0.1.1;
      told = p.1.1.1.1;
    })
    (λ _. refl)

abbrev pub noted_code : Coded Noted
noted_code =
    code_by (ℕ × ℕ) (coded× coded_ℕ coded_ℕ) (λ n. (n.revision, n.cell))
    (λ p. record { revision = p.0; cell = p.1 })
    (λ _. refl)

abbrev pub watch_state_code : Coded WatchState
watch_state_code =
    code_by (Watch × (List Noted × ℕ)) (coded× watch_code (coded× (coded_list noted_code) coded_ℕ))
    (λ w. (w.watch, (w.ring, w.position)))
    (λ p. record { watch = p.0; ring = p.1.0; position = p.1.1 })
    (λ _. refl)

abbrev pub watchers_code : Coded (List (Option WatchState))
watchers_code = coded_list (coded_option watch_state_code)
