use Rattle.std.proofs.Common.{rules, ◌≡◌, ℕ, suc, ◌+◌, ◌<◌, List, [], ◌∷◌, ◌++◌, append-nil, append_assoc, length, get_or, take, drop, is_some, true, false, sym, ap, ◌∙◌, refl, arith}
use Rattle.std.specs.List.{remove}
use Rattle.std.proofs.Math.Seq.{drop-cons}
use Rattle.std.proofs.lemmas.List.{get_or_default, length-append, length-drop, take_more}
use Rattle.std.proofs.lemmas.List.Elements.{filter-append}
use Rattle.chunk_list.specs.Chunked.{position_of}
use Rattle.key_index.specs.Links.{Cells}
use Rattle.key_index.specs.Order.{with_records}
use Rattle.key_index.proofs.Times.{filter_no, filter_yes}
use Rattle.key_index.proofs.visiting.settle.Goals.{then-has, else-has}
use Rattle.key_index.proofs.visiting.settle.Goals as goal

pub settling-init : goal.settling-init
settling-init g c = record {
  recent = refl;
  settled = sym (append-nil c.args.settled.now.items);
  long = omega arith;
  recent_room = refl;
  settled_room = refl;
}

pub remove-cell-requires : goal.remove-cell-requires
remove-cell-requires g c =
    let long = ap (λ (xs : List ℕ). length xs) c.settling.invariant.recent ∙ length-drop c.settling._settled c.args.recent.now.items in
    c.start-first.ensures.item_is (omega (arith, long, c.requires.within, c.settling-test.true))

pub append-requires : goal.append-requires
append-requires g c = omega (arith, c.settling.invariant.long, c.settling.invariant.settled_room, c.requires.room, c.settling-test.true)

-- the first of what is left of a list, and the rest
first_out : (xs ys : List ℕ) (i k : ℕ) → xs ≡ drop i ys → i < length ys → k ≡ 0 → (remove xs k ≡ drop (i + 1) ys) × (get_or xs k 0 ≡ get_or ys i 0)
first_out xs ys i k is lt first =
    let next : suc i ≡ i + 1 = omega arith in
    let cons : xs ≡ get_or ys i 0 ∷ drop (i + 1) ys = is ∙ drop-cons ys i 0 lt ∙ ap (λ (n : ℕ). get_or ys i 0 ∷ drop n ys) next in (
      ap (λ (n : ℕ). remove xs n) first ∙ ap (λ (zs : List ℕ). remove zs 0) cons,
      ap (λ (n : ℕ). get_or xs n 0) first ∙ ap (λ (zs : List ℕ). get_or zs 0 0) cons,
    )

-- those with records among one more
one_more : (cells : Cells) (xs : List ℕ) (i c : ℕ) → i < length xs → get_or xs i 0 ≡ c → with_records cells (take (i + 1) xs) ≡ with_records cells (take i xs) ++ with_records cells (c ∷ [])
one_more cells xs i c lt is =
    ap (with_records cells) (take_more xs i 0 lt ∙ ap (λ (x : ℕ). take i xs ++ x ∷ []) is) ∙ filter-append (λ x. is_some (cells x)) (take i xs) (c ∷ [])

pub settling-preserved : goal.settling-preserved
settling-preserved g c =
    let cells = g.R.Records.cells c.args.records.now in
    let ys = c.args.recent.now.items in
    let i = c.settling._settled in
    let lt : i < length ys = omega (arith, c.requires.within, c.settling-test.true) in
    let k = position_of c.settling.recent.sizes c.start-first.result in
    let out = first_out c.settling.recent.items ys i k c.settling.invariant.recent lt c.start-first.ensures.position_is in
    let long = ap (λ (xs : List ℕ). length xs) c.settling.invariant.recent ∙ length-drop i ys in
    let fits : k < length c.settling.recent.items = omega (arith, long, lt, c.start-first.ensures.position_is) in
    let cell : get_or ys i 0 ≡ c.remove-cell.result = sym (c.remove-cell.ensures.value ∙ get_or_default c.settling.recent.items k c.remove-cell.result 0 fits ∙ out.1) in
    let more = one_more cells ys i c.remove-cell.result lt cell in
    elim c.if-has.branch [
      | then-has w ↦
          let there : is_some (cells c.remove-cell.result) ≡ true = sym c.has.ensures ∙ w.if-has.true in
          let one : with_records cells (c.remove-cell.result ∷ []) ≡ c.remove-cell.result ∷ [] = filter_yes (λ x. is_some (cells x)) c.remove-cell.result [] there in
          let settled : w.append.new.self.items ≡ c.args.settled.now.items ++ with_records cells (take (i + 1) ys) =
          w.append.ensures.items ∙ ap (λ (xs : List ℕ). xs ++ c.remove-cell.result ∷ []) c.settling.invariant.settled
          ∙ append_assoc c.args.settled.now.items (with_records cells (take i ys)) (c.remove-cell.result ∷ [])
          ∙ ap (λ (xs : List ℕ). c.args.settled.now.items ++ xs) (ap (λ (xs : List ℕ). with_records cells (take i ys) ++ xs) (sym one) ∙ sym more) in
          let longer = ap (λ (xs : List ℕ). length xs) w.append.ensures.items ∙ length-append c.settling.settled.items (c.remove-cell.result ∷ []) in
          rw w.settled-is (record {
            recent = c.remove-cell.ensures.items ∙ out.0;
            settled = settled;
            long = omega (arith, longer, c.settling.invariant.long);
            recent_room = c.remove-cell.ensures.room ∙ c.settling.invariant.recent_room;
            settled_room = w.append.ensures.room ∙ c.settling.invariant.settled_room;
          })
      | else-has w ↦
          let none : is_some (cells c.remove-cell.result) ≡ false = sym c.has.ensures ∙ w.if-has.false in
          let without : with_records cells (c.remove-cell.result ∷ []) ≡ [] = filter_no (λ x. is_some (cells x)) c.remove-cell.result [] none in
          let settled : c.settling.settled.items ≡ c.args.settled.now.items ++ with_records cells (take (i + 1) ys) =
          c.settling.invariant.settled
          ∙ ap (λ (xs : List ℕ). c.args.settled.now.items ++ xs) (sym (append-nil (with_records cells (take i ys))) ∙ ap (λ (xs : List ℕ). with_records cells (take i ys) ++ xs) (sym without) ∙ sym more) in
          rw w.settled-is (record {
            recent = c.remove-cell.ensures.items ∙ out.0;
            settled = settled;
            long = omega (arith, c.settling.invariant.long);
            recent_room = c.remove-cell.ensures.room ∙ c.settling.invariant.recent_room;
            settled_room = c.settling.invariant.settled_room;
          })
    ]

pub returns-clause-settled : goal.returns-clause-settled
returns-clause-settled g c =
    let all : c.settling._settled ≡ c.args.count = search rules in
    c.settling.invariant.settled ∙ ap (λ (n : ℕ). c.args.settled.now.items ++ with_records (g.R.Records.cells c.args.records.now) (take n c.args.recent.now.items)) all

pub returns-clause-recent : goal.returns-clause-recent
returns-clause-recent g c =
    let all : c.settling._settled ≡ c.args.count = search rules in
    c.settling.invariant.recent ∙ ap (λ (n : ℕ). drop n c.args.recent.now.items) all

pub returns-clause-settled_room : goal.returns-clause-settled_room
returns-clause-settled_room g c = c.settling.invariant.settled_room

pub returns-clause-recent_room : goal.returns-clause-recent_room
returns-clause-recent_room g c = c.settling.invariant.recent_room
