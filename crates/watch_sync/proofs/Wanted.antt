-- What is read of a change under its cell.
use Rattle.std.proofs.Common.{◌≡◌, ℕ, List, [], Bool, false, ◌&&◌, refl}
use Rattle.std.specs.Prelude.{Option, Some, None, IsSome, IfSome, not, is_some, nat_le, option_map, unwrap_or, if◌then◌else◌}
use Rattle.std.specs.Option.{option_map_or}
use Rattle.etcd_types.specs.declared.key_value.KeyValue.{KeyValue}
use Rattle.etcd_model.specs.declared.state.Watch.{Watch}
use Rattle.etcd_model.specs.Changes.{Recorded, change_by}
use Rattle.etcd_model.specs.Interval.{is_in}
use Rattle.etcd_model.specs.Watches.{is_ahead}
use Rattle.key_index.specs.Links.{Cells, Linked}
use Rattle.revision_store.specs.Plans.{key_at}
use Rattle.watch_sync.specs.Ahead.{is_ahead_at, is_ahead_of, is_put_at, revision_at}

module _ (cells : Cells) (c : ℕ) where
  pub read_revision : (r : ℕ) → IsSome (cells c) → IfSome (cells c) (λ e. r ≡ e.change.revision) → r ≡ revision_at cells c
  read_revision r some is = by (cells c) some is
    where
      by : (o : Option Linked) → IsSome o → IfSome o (λ e. r ≡ e.change.revision) → r ≡ option_map_or (λ (x : Recorded). x.revision) (option_map (λ (e : Linked). e.change) o) 0
      by None some is = let bad : ⊥ = cc in absurd bad
      by (Some e) some is = is

  pub read_put : (b : Bool) → IsSome (cells c) → IfSome (cells c) (λ e. b ≡ is_some e.change.row) → b ≡ is_put_at cells c
  read_put b some is = by (cells c) some is
    where
      by : (o : Option Linked) → IsSome o → IfSome o (λ e. b ≡ is_some e.change.row) → b ≡ option_map_or (λ (x : Recorded). is_some x.row) (option_map (λ (e : Linked). e.change) o) false
      by None some is = let bad : ⊥ = cc in absurd bad
      by (Some e) some is = is

  abbrev pub passes : Watch → Bool → Bool
  passes w put = if put then not w.no_put else not w.no_delete

  -- the three parts of what is ahead
  pub read_ahead : (w : Watch) → IsSome (cells c) → (nat_le w.next (revision_at cells c) && (is_in w.key w.range_end (key_at cells c) && passes w (is_put_at cells c))) ≡ is_ahead_at cells w c
  read_ahead w some = by (cells c) some
    where
      of_row : (key : List ℕ) (revision : ℕ) (row : Option KeyValue) → (nat_le w.next revision && (is_in w.key w.range_end key && passes w (is_some row))) ≡ is_ahead w (record { revision = revision; change = change_by key row })
      of_row key revision None = refl
      of_row key revision (Some row) = refl

      by : (o : Option Linked) → IsSome o
          → (nat_le w.next (option_map_or (λ (x : Recorded). x.revision) (option_map (λ (e : Linked). e.change) o) 0)
          && (is_in w.key w.range_end (unwrap_or (option_map (λ (x : Recorded). x.key) (option_map (λ (e : Linked). e.change) o)) [])
          && passes w (option_map_or (λ (x : Recorded). is_some x.row) (option_map (λ (e : Linked). e.change) o) false)))
          ≡ option_map_or (is_ahead_of w) (option_map (λ (e : Linked). e.change) o) false
      by None some = let bad : ⊥ = cc in absurd bad
      by (Some e) some = of_row e.change.key e.change.revision e.change.row
