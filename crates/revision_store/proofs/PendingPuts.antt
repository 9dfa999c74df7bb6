-- One more put among writes that are pending.
use Rattle.std.proofs.Common.{◌≡◌, ℕ, ◌+◌, ◌<◌, ◌≤◌, ◌^◌, List, [], ◌∷◌, ◌++◌, length, length-append, refl, ap, ◌∙◌, sym, subst, arith}
use Rattle.std.specs.Prelude.{Bool, true, false, zero, suc, cond, ◌||◌, fold, filter_map, Option, Some, None, option_and_then, option_map, slice_get, if◌then◌else◌}
use Rattle.std.specs.List.{AllByRecursion, cons_option}
use Rattle.std.specs.Option.{option_or}
use Rattle.std.specs.Str.{bytes_eq}
use Rattle.std.specs.Cmp.Lexicographic.{bytes_decides}
use Rattle.std.proofs.lemmas.List.{map-append, append-nil}
use Rattle.std.proofs.lemmas.List.Elements.{filter-append, filter_map-append}
use Rattle.etcd_types.specs.declared.key_value.KeyValue.{KeyValue}
use Rattle.etcd_types.specs.declared.kv.DeleteReq.{DeleteReq}
use Rattle.etcd_types.specs.declared.kv.PutReq.{PutReq}
use Rattle.etcd_types.specs.declared.txn.Op.TheVariants.{Put as PutOp}
use Rattle.etcd_model.specs.Operations.{and_changes, put_change, row_put}
use Rattle.etcd_model.specs.declared.state.Change.{Change}
use Rattle.etcd_model.specs.declared.state.Change.TheVariants.{Put as Set}
use Rattle.etcd_model.specs.History.{key_of}
use Rattle.etcd_model.proofs.HistoryLaws.{changes_of as of_key}
use Rattle.etcd_model.specs.Changes.{next_row, live, version_of}
use Rattle.etcd_model.specs.Store.{IsStore}
use Rattle.etcd_model.proofs.RowLaws.{filter-none}
use Rattle.model_laws.specs.Once.{IsOnce}
use Rattle.model_laws.proofs.LastLaws.{last_push}
use Rattle.model_laws.proofs.RecordedLaws.{all_push, all_weaker}
use Rattle.revision_store.specs.Plans.{change_in}
use Rattle.revision_store.specs.Stored.{StoreState, Follows, IsPlanFor, cells, changes_of, look}
use Rattle.revision_store.specs.Pending.{IsPending, PendingState, changes_key, left_by, numbers_alone, present, put_at, put_row, row_put_to, rows_at}
use Rattle.revision_store.specs.declared.plan.Write.{Write}
use Rattle.revision_store.specs.declared.plan.Write.TheVariants.{Put}
use Rattle.revision_store.proofs.PendingReads.{one_revision, row_more, row_untouched}

-- ---- places

get-front : (ws more : List Write) (i : ℕ) → i < length ws → slice_get (ws ++ more) i ≡ slice_get ws i
get-front [] more i h = absurd (omega (arith, h))
get-front (w ∷ ws) more zero h = refl
get-front (w ∷ ws) more (suc i) h = get-front ws more i (omega (arith, h))

get-end : (ws : List Write) (w : Write) → slice_get (ws ++ w ∷ []) (length ws) ≡ Some w
get-end [] w = refl
get-end (x ∷ ws) w = get-end ws w

pub rows_at-more : (ws more : List Write) (places : List ℕ) → AllByRecursion (λ place. place < length ws) places → rows_at (ws ++ more) places ≡ rows_at ws places
rows_at-more ws more [] h = refl
rows_at-more ws more (p ∷ ps) h =
    ap (λ o. cons_option (option_and_then put_row o) (rows_at (ws ++ more) ps)) (get-front ws more p h.0)
    ∙ ap (cons_option (put_at ws p)) (rows_at-more ws more ps h.1)

rows_at-put : (ws : List Write) (row : KeyValue) (places : List ℕ) → AllByRecursion (λ place. place < length ws) places → rows_at (ws ++ Put row ∷ []) (places ++ length ws ∷ []) ≡ rows_at ws places ++ row ∷ []
rows_at-put ws row places h =
    filter_map-append (put_at (ws ++ Put row ∷ [])) places (length ws ∷ [])
    ∙ ap (λ rs. rs ++ filter_map (put_at (ws ++ Put row ∷ [])) (length ws ∷ [])) (rows_at-more ws (Put row ∷ []) places h)
    ∙ ap (λ o. rows_at ws places ++ cons_option (option_and_then put_row o) []) (get-end ws (Put row))

-- ---- once

once_by : (b : Bool) (c : Change) (xs : List Change) → length xs ≤ 1 → (b ≡ true → xs ≡ []) → length (xs ++ cond b (c ∷ []) []) ≤ 1
once_by true c xs few none = subst (λ ys. length (ys ++ c ∷ []) ≤ 1) (sym (none refl)) (omega arith)
once_by false c xs few none = subst (λ ys. length ys ≤ 1) (sym (append-nil xs)) few

pub once_more : (cs : List Change) (c : Change) → IsOnce cs → changes_key (key_of c) cs ≡ false → IsOnce (cs ++ c ∷ [])
once_more cs c once none key =
    subst (λ xs. length xs ≤ 1) (sym (filter-append (λ (d : Change). bytes_eq (key_of d) key) cs (c ∷ [])))
    (once_by (bytes_eq (key_of c) key) c (of_key key cs) (once key)
    (λ t. subst (λ k. of_key k cs ≡ []) ((bytes_decides (key_of c) key).0 t) (filter-none (λ (d : Change). bytes_eq (key_of d) (key_of c)) cs none)))

-- ---- one more put

seen_by : (b : Bool) (row : KeyValue) (o left now : Option KeyValue) (n : ℕ) (c : Change) → option_or o left ≡ now → (b ≡ true → next_row n now c ≡ Some row) → option_or (if b then Some row else o) left ≡ fold (next_row n) now (cond b (c ∷ []) [])
seen_by true row o left now n c same made = sym (made refl)
seen_by false row o left now n c same made = same

module _ (store : StoreState) (ws : List Write) (row : KeyValue) (free : changes_key row.key (changes_of store ws) ≡ false) (follows : Follows store (Put row)) where
  abbrev put : Change
  put = change_in (cells store) (Put row)

  changes_put : changes_of store (ws ++ Put row ∷ []) ≡ changes_of store ws ++ put ∷ []
  changes_put = map-append (change_in (cells store)) ws (Put row ∷ [])

  put_is_plan : IsPlanFor store ws → IsPlanFor store (ws ++ Put row ∷ [])
  put_is_plan is = record {
    follow = all_push (Follows store) ws (Put row) is.follow follows;
    once = subst IsOnce (sym changes_put) (once_more (changes_of store ws) put is.once free);
  }

  -- the row of its key goes on from what the store shows
  makes : IsStore store.kept → (key : List ℕ) → bytes_eq row.key key ≡ true → next_row (store.kept.current + 1) ((look store (changes_of store ws)).row key) put ≡ Some row
  makes is key t =
      let same : row.key ≡ key = (bytes_decides row.key key).0 t in
      ap (λ k. next_row (store.kept.current + 1) ((look store (changes_of store ws)).row k) put) (sym same)
      ∙ ap (λ o. next_row (store.kept.current + 1) o put) (row_untouched store.kept (changes_of store ws) row.key is free)
      ∙ follows

  pub put_is_pending : (places : List ℕ) (deletes : List DeleteReq) → store.kept.current + 1 < 2 ^ 63 → IsPending store ws places deletes → IsPending store (ws ++ Put row ∷ []) (places ++ length ws ∷ []) deletes
  put_is_pending places deletes room is = record {
    sound = is.sound;
    plan = put_is_plan is.plan;
    short = omega (arith, room, one_revision store.kept (changes_of store (ws ++ Put row ∷ [])));
    within = all_push (λ place. place < length (ws ++ Put row ∷ [])) places (length ws) (all_weaker (λ place. place < length ws) (λ place. place < length (ws ++ Put row ∷ [])) (λ place h. omega (arith, h, longer)) places is.within) (omega (arith, longer));
    puts = rows_at-put ws row places is.within ∙ ap (λ rs. rs ++ row ∷ []) is.puts ∙ sym (filter_map-append put_row ws (Put row ∷ []));
    seen = λ key.
        let rs = rows_at ws places in
        let left = left_by deletes store key in
        let now = (look store (changes_of store ws)).row key in
        let b = bytes_eq row.key key in
        ap (λ qs. option_or (row_put_to key qs) left) (rows_at-put ws row places is.within)
        ∙ ap (λ o. option_or o left) (last_push (λ (r : KeyValue). bytes_eq r.key key) rs row)
        ∙ seen_by b row (row_put_to key rs) left now (store.kept.current + 1) put (is.seen key) (makes is.sound.kept key)
        ∙ sym (row_more store.kept (changes_of store ws) (put ∷ []) key is.sound.kept)
        ∙ ap (λ cs. (look store cs).row key) (sym changes_put);
  }
    where
      longer : length (ws ++ Put row ∷ []) ≡ length ws + 1
      longer = length-append ws (Put row ∷ [])

-- ---- the put of a request

-- its row follows what the store shows
pub put_follows : (store : StoreState) (p : PutReq) (row : KeyValue) → row ≡ row_put (store.kept.current + 1) p (live p.key store.kept.current store.kept.changes) → Follows store (Put row)
put_follows store p row e = subst (λ (r : KeyValue). Follows store (Put r)) (sym e) refl

pub put_key : (store : StoreState) (p : PutReq) (row : KeyValue) (cs : List Change) → row ≡ row_put (store.kept.current + 1) p (live p.key store.kept.current store.kept.changes) → changes_key p.key cs ≡ false → changes_key row.key cs ≡ false
put_key store p row cs e free = subst (λ (r : KeyValue). changes_key r.key cs ≡ false) (sym e) free

pub same_pending : (store : StoreState) (cs ds : List Change) → cs ≡ ds → ◌≡◌ {A = PendingState} (record { store = store; changes = cs }) (record { store = store; changes = ds })
same_pending store cs ds e = ap {B = PendingState} (λ (xs : List Change). record { store = store; changes = xs }) e

pub put_changes : (store : StoreState) (ws : List Write) (p : PutReq) (row : KeyValue) → IsStore store.kept → changes_key p.key (changes_of store ws) ≡ false
    → row ≡ row_put (store.kept.current + 1) p (live p.key store.kept.current store.kept.changes) → changes_of store (ws ++ Put row ∷ []) ≡ and_changes (look store) (changes_of store ws) (PutOp p)
put_changes store ws p row is free e =
    let old = changes_of store ws in
    map-append (change_in (cells store)) ws (Put row ∷ [])
    ∙ ap (λ (r : KeyValue). old ++ Set r.key r.value r.lease ∷ []) e
    ∙ ap (λ o. old ++ put_change p o ∷ []) (sym (row_untouched store.kept old p.key is free))

-- ---- the present row's numbers alone

-- they have its version
pub version_present : (p : PutReq) (now : Option KeyValue) → version_of (present p now) ≡ version_of now
version_present p now = by (p.prev_kv || p.ignore_value) now
  where
    by : (b : Bool) (o : Option KeyValue) → version_of (if b then o else option_map numbers_alone o) ≡ version_of o
    by true o = refl
    by false None = refl
    by false (Some r) = refl
