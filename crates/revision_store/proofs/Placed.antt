-- What a region has once a put, a delete or a lease was placed.
use Rattle.std.proofs.Common.{◌≡◌, ℕ, List, [], Option, Some, None, IsSome, IfSome, option_map, sym, ap, ◌∙◌, refl, subst}
use Rattle.std.specs.Prelude.{option_and_then, unwrap_or, ℤ}
use Rattle.std.specs.Ordering.{nat_cmp}
use Rattle.std.specs.FinMap.{FinMap, get, insert}
use Rattle.etcd_types.specs.declared.key_value.KeyValue.{KeyValue}
use Rattle.cell_arena.specs.declared.cell.Kind.{Kind}
use Rattle.cell_arena.specs.declared.cell.Kind.TheVariants.{Put, Delete, Lease}
use Rattle.cell_arena.specs.declared.cell.Fields.{Fields}
use Rattle.cell_arena.specs.Chain.{Record}
use Rattle.key_index.specs.Links.{Linked}
use Rattle.key_index.specs.Order.{with_record}
use Rattle.revision_store.specs.Recorded.{linked_by, linked_of, cells_of, leases_of, with_lease_cell, ArePlain}
use Rattle.revision_store.specs.Plans.{key_at}
use Rattle.revision_store.proofs.Recorded.{at_some, is_change, cells_placed, cells_beside, leases_placed, lease_placed, plain_placed}

abbrev pub put_record : KeyValue → Record
put_record row = record {
  kind = Put;
  fields = record { revision = row.mod_revision; create_revision = row.create_revision; version = row.version; lease = row.lease };
  key = row.key;
  value = row.value;
  older = None;
}

abbrev put_linked : KeyValue → ℕ → Linked
put_linked row revision = record { change = record { key = row.key; revision = revision; row = Some row }; older = None }

-- the record of a row's parts is that of the row
pub put_parts : (m n : FinMap nat_cmp Record) (k : ℕ) (row : KeyValue) (fields : Fields) (key value : List ℕ) → n ≡ insert m k (record { kind = Put; fields = fields; key = key; value = value; older = None })
    → fields ≡ record { revision = row.mod_revision; create_revision = row.create_revision; version = row.version; lease = row.lease } → key ≡ row.key → value ≡ row.value
    → n ≡ insert m k (put_record row)
put_parts m n k row fields key value placed same_fields same_key same_value =
    let of_parts : insert m k (record { kind = Put; fields = fields; key = key; value = value; older = None }) ≡ insert m k (put_record row) = λ i. insert m k (record { kind = Put; fields = same_fields i; key = same_key i; value = same_value i; older = None }) in
    placed ∙ of_parts

module _ (m n : FinMap nat_cmp Record) (k : ℕ) (row : KeyValue) (is : n ≡ insert m k (put_record row)) where
  pub put_cells : (revision : ℕ) → row.mod_revision ≡ revision → cells_of n ≡ with_record (cells_of m) k (record { change = record { key = row.key; revision = revision; row = Some row }; older = None })
  put_cells revision of =
      let here : linked_of (put_record row) ≡ Some (put_linked row revision) = ap (λ (x : ℕ). let o : Option Linked = Some (put_linked row x) in o) of in
      ap cells_of is ∙ cells_placed m k (put_record row) (put_linked row revision) here

  pub put_leases : get m k ≡ None → leases_of n ≡ leases_of m
  put_leases fresh = ap leases_of is ∙ leases_placed m k (put_record row) fresh refl

  pub put_plain : ArePlain m → ArePlain n
  put_plain plain = subst ArePlain (sym is) (plain_placed m k (put_record row) plain (record { delete = λ h. absurd (cc); lease = λ h. absurd (cc) }))

-- the key of a change's record is that of the change
pub key_of_record : (m : FinMap nat_cmp Record) (c : ℕ) (r : Record) → get m c ≡ Some r → IsSome (cells_of m c) → key_at (cells_of m) c ≡ r.key
key_of_record m c r at some =
    let here : cells_of m c ≡ linked_of r = ap (option_and_then linked_of) at in
    ap (λ (o : Option Linked). unwrap_or (option_map (λ x. x.key) (option_map (λ (e : Linked). e.change) o)) []) here ∙ by_kind r.kind r (subst IsSome here some)
  where
    by_kind : (kind : Kind) (r : Record) → IsSome (linked_by kind r) → unwrap_or (option_map (λ x. x.key) (option_map (λ (e : Linked). e.change) (linked_by kind r))) [] ≡ r.key
    by_kind Put r some = refl
    by_kind Delete r some = refl
    by_kind Lease r some = absurd (cc)

abbrev delete_record : Fields → List ℕ → Record
delete_record fields key = record { kind = Delete; fields = fields; key = key; value = []; older = None }

abbrev delete_linked : List ℕ → ℕ → Linked
delete_linked key revision = record { change = record { key = key; revision = revision; row = None }; older = None }

module _ (m n : FinMap nat_cmp Record) (of k : ℕ) (fields : Fields) (some : IsSome (cells_of m of)) (placed : IfSome (get m of) (λ r. n ≡ insert m k (record { kind = Delete; fields = fields; key = r.key; value = []; older = None }))) where
  delete_is : n ≡ insert m k (delete_record fields (key_at (cells_of m) of))
  delete_is =
      let h = is_change (get m of) some in
      at_some (get m of) (λ (r : Record). n ≡ insert m k (delete_record fields r.key)) h.0 h.1 placed
      ∙ ap (λ key. insert m k (delete_record fields key)) (sym (key_of_record m of h.0 h.1 some))

  pub delete_cells : (revision : ℕ) → fields.revision ≡ revision → cells_of n ≡ with_record (cells_of m) k (record { change = record { key = key_at (cells_of m) of; revision = revision; row = None }; older = None })
  delete_cells revision of_revision =
      let key = key_at (cells_of m) of in
      let here : linked_of (delete_record fields key) ≡ Some (delete_linked key revision) = ap (λ (x : ℕ). let o : Option Linked = Some (delete_linked key x) in o) of_revision in
      ap cells_of delete_is ∙ cells_placed m k (delete_record fields key) (delete_linked key revision) here

  pub delete_leases : get m k ≡ None → leases_of n ≡ leases_of m
  delete_leases fresh = ap leases_of delete_is ∙ leases_placed m k (delete_record fields (key_at (cells_of m) of)) fresh refl

  pub delete_plain : ArePlain m → ArePlain n
  delete_plain plain = subst ArePlain (sym delete_is) (plain_placed m k (delete_record fields (key_at (cells_of m) of)) plain (record { delete = λ h. refl; lease = λ h. absurd (cc) }))

abbrev pub lease_record : ℤ → ℕ → Record
lease_record id ttl = record {
  kind = Lease;
  fields = record { revision = 0; create_revision = 0; version = ttl; lease = id };
  key = [];
  value = [];
  older = None;
}

-- so is that of a lease's numbers
pub lease_parts : (m n : FinMap nat_cmp Record) (k : ℕ) (fields : Fields) (id read : ℤ) (ttl : ℕ) → n ≡ insert m k (record { kind = Lease; fields = fields; key = []; value = []; older = None })
    → fields ≡ record { revision = 0; create_revision = 0; version = ttl; lease = read } → read ≡ id
    → n ≡ insert m k (lease_record id ttl)
lease_parts m n k fields id read ttl placed same is =
    let whole : ℤ → Fields = λ z. record { revision = 0; create_revision = 0; version = ttl; lease = z } in
    placed ∙ ap (λ (f : Fields). insert m k (record { kind = Lease; fields = f; key = []; value = []; older = None })) (same ∙ ap whole is)

module _ (m n : FinMap nat_cmp Record) (k : ℕ) (id : ℤ) (ttl : ℕ) (is : n ≡ insert m k (lease_record id ttl)) where
  pub lease_cells : get m k ≡ None → cells_of n ≡ cells_of m
  lease_cells fresh = ap cells_of is ∙ cells_beside m k (lease_record id ttl) fresh refl

  pub lease_leases : leases_of n ≡ with_lease_cell (leases_of m) k (record { id = id; ttl = ttl })
  lease_leases = ap leases_of is ∙ lease_placed m k (lease_record id ttl) (record { id = id; ttl = ttl }) refl

  pub lease_plain : ArePlain m → ArePlain n
  lease_plain plain = subst ArePlain (sym is) (plain_placed m k (lease_record id ttl) plain (record { delete = λ h. absurd (cc); lease = λ h. (refl, refl) }))
