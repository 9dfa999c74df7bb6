-- Bays that share no place, and what one change leaves of the chunks in them.
use Rattle.std.proofs.Common.{◌≡◌, ℕ, zero, suc, ◌+◌, ◌-◌, ◌*◌, ◌<◌, ◌≤◌, ◌⊎◌, List, [], ◌∷◌, ◌++◌, length, get_or, set, take, drop, refl, sym, ap, subst, ◌∙◌, arith, inl, inr}
use Rattle.std.specs.List.{insert, remove, AllByRecursion}
use Rattle.std.proofs.lemmas.Bool.{cases_lt}
use Rattle.std.proofs.lemmas.List.{map-append, length-append, length-map, length-set, length-drop, length-take-le, take-append-drop, drop_more, get_or-map, map-set, set_split, take-map, drop-map, set-get_or}
use Rattle.std.proofs.lemmas.List.Edits.{length-insert, length-remove}
use Rattle.chunk_list.specs.Chunks.{chunk_at}
use Rattle.chunk_list.specs.Shelves.{Shelved, stretch, written, span_items, chunks_in, bays_of, covers, covered, TakesBay, IsSpan, IsShelf}
use Rattle.chunk_list.specs.declared.span.TheConstants.{MOST}
use Rattle.chunk_list.specs.declared.span.Span.{Span}
use Rattle.chunk_list.proofs.Stretches.{length_written, written_here, written_below, written_above, stretch_kept}

-- ---- what holds of each of a list

module _ {X : Type 0} where
  pub all_append : (P : X → Type 0) (xs ys : List X) → AllByRecursion P xs → AllByRecursion P ys → AllByRecursion P (xs ++ ys)
  all_append P [] ys all more = more
  all_append P (x ∷ xs) ys all more = (all.0, all_append P xs ys all.1 more)

  pub all_take : (P : X → Type 0) (xs : List X) (i : ℕ) → AllByRecursion P xs → AllByRecursion P (take i xs)
  all_take P xs zero all = tt
  all_take P [] (suc i) all = tt
  all_take P (x ∷ xs) (suc i) all = (all.0, all_take P xs i all.1)

  pub all_drop : (P : X → Type 0) (xs : List X) (i : ℕ) → AllByRecursion P xs → AllByRecursion P (drop i xs)
  all_drop P xs zero all = all
  all_drop P [] (suc i) all = tt
  all_drop P (x ∷ xs) (suc i) all = all_drop P xs i all.1

  pub all_at : (P : X → Type 0) (xs : List X) (i : ℕ) (d : X) → i < length xs → AllByRecursion P xs → P (get_or xs i d)
  all_at P [] i d lt all = absurd (omega (arith, lt))
  all_at P (x ∷ xs) zero d lt all = all.0
  all_at P (x ∷ xs) (suc i) d lt all = all_at P xs i d (omega (arith, lt)) all.1

  pub all_set : (P : X → Type 0) (xs : List X) (i : ℕ) (y : X) → AllByRecursion P xs → P y → AllByRecursion P (set xs i y)
  all_set P [] i y all here = tt
  all_set P (x ∷ xs) zero y all here = (here, all.1)
  all_set P (x ∷ xs) (suc i) y all here = (all.0, all_set P xs i y all.1 here)

  pub all_map : (P Q : X → Type 0) → ((x : X) → P x → Q x) → (xs : List X) → AllByRecursion P xs → AllByRecursion Q xs
  all_map P Q more [] all = tt
  all_map P Q more (x ∷ xs) all = (more x all.0, all_map P Q more xs all.1)

-- ---- places in bays

covered_append : (place : ℕ) (xs ys : List ℕ) → covered place (xs ++ ys) ≡ covered place xs + covered place ys
covered_append place [] ys = omega arith
covered_append place (x ∷ xs) ys = omega (arith, covered_append place xs ys)

-- two bays share no place
abbrev AreApart : ℕ → ℕ → Type 0
AreApart first other = (first + MOST ≤ other) ⊎ (other + MOST ≤ first)

apart_one : (first other : ℕ) → ((place : ℕ) → first ≤ place → place < first + MOST → covers place other ≡ 0) → AreApart first other
apart_one first other none = elim (cases_lt first other) [
  | inl before ↦ elim (cases_lt other (first + MOST)) [
    | inl near ↦ absurd (omega (arith, before, near, none other (omega (arith, before)) near))
    | inr far ↦ inl far
  ]
  | inr after ↦ elim (cases_lt first (other + MOST)) [
    | inl near ↦ absurd (omega (arith, after, near, none first (omega arith) (omega arith)))
    | inr far ↦ inr far
  ]
]

apart_all : (first : ℕ) (spans : List Span) → ((place : ℕ) → first ≤ place → place < first + MOST → covered place (bays_of spans) ≡ 0) → AllByRecursion (λ s. AreApart first s.first) spans
apart_all first [] none = tt
apart_all first (s ∷ spans) none = (
  apart_one first s.first (λ p a b. omega (arith, none p a b)),
  apart_all first spans (λ p a b. omega (arith, none p a b)),
)

spans_split : (spans : List Span) (i : ℕ) (s : Span) → i < length spans → s ≡ get_or spans i s → spans ≡ take i spans ++ (s ∷ drop (i + 1) spans)
spans_split spans i s lt is =
    sym (take-append-drop i spans) ∙ ap (λ xs. take i spans ++ xs) (drop_more spans i s lt ∙ ap (λ x. x ∷ drop (i + 1) spans) (sym is))

covered_split : (place : ℕ) (spans : List Span) (i : ℕ) (s : Span) → i < length spans → s ≡ get_or spans i s → covered place (bays_of spans) ≡ covered place (bays_of (take i spans)) + (covers place s.first + covered place (bays_of (drop (i + 1) spans)))
covered_split place spans i s lt is =
    ap (λ xs. covered place (bays_of xs)) (spans_split spans i s lt is)
    ∙ ap (covered place) (map-append (λ (o : Span). o.first) (take i spans) (s ∷ drop (i + 1) spans))
    ∙ covered_append place (bays_of (take i spans)) (bays_of (s ∷ drop (i + 1) spans))

-- the bays of other chunks share no place with that of one
record IsAround (spans : List Span) (i : ℕ) (s : Span) : Type 0 where
  pub before : AllByRecursion (λ o. AreApart s.first o.first) (take i spans)
  pub after : AllByRecursion (λ o. AreApart s.first o.first) (drop (i + 1) spans)

around : (spans : List Span) (i : ℕ) (s : Span) → i < length spans → s ≡ get_or spans i s → ((place : ℕ) → covered place (bays_of spans) ≤ 1) → IsAround spans i s
around spans i s lt is once = record {
  before = apart_all s.first (take i spans) (λ p a b. omega (arith, a, b, once p, covered_split p spans i s lt is));
  after = apart_all s.first (drop (i + 1) spans) (λ p a b. omega (arith, a, b, once p, covered_split p spans i s lt is));
}

same_bays : (spans : List Span) (i : ℕ) (s s' : Span) → i < length spans → s ≡ get_or spans i s → s'.first ≡ s.first → bays_of (set spans i s') ≡ bays_of spans
same_bays spans i s s' lt is first =
    map-set (λ (o : Span). o.first) spans i s'
    ∙ ap (set (bays_of spans) i) (first ∙ ap (λ (o : Span). o.first) is ∙ sym (get_or-map (λ (o : Span). o.first) spans i s 0 lt))
    ∙ set-get_or (bays_of spans) i 0

-- how a bay that is taken stands to the others
pub record IsTaken (spans : List Span) (free free' : List ℕ) (most first : ℕ) : Type 0 where
  pub apart : (place : ℕ) → covers place first + (covered place (bays_of spans) + covered place free') ≤ 1
  pub made : (place : ℕ) → (length spans + 1 + length free') * MOST ≤ place → covers place first + (covered place (bays_of spans) + covered place free') ≡ 0
  pub few : length spans + 1 + length free' ≤ most
  pub within : first + MOST ≤ most * MOST

module _ {T : Type 0} where
  -- ---- what is read

  pub chunks_count : (xs : List T) (spans : List Span) → length (chunks_in xs spans) ≡ length spans
  chunks_count xs spans = length-map spans (λ s. span_items xs s)

  pub chunk_of : (xs : List T) (spans : List Span) (i : ℕ) (s : Span) → i < length spans → s ≡ get_or spans i s → chunk_at (chunks_in xs spans) i ≡ span_items xs s
  chunk_of xs spans i s lt is = get_or-map (λ o. span_items xs o) spans i s [] lt ∙ ap (λ o. span_items xs o) (sym is)

  pub span_of : (xs : List T) (spans : List Span) (i : ℕ) (s : Span) → i < length spans → s ≡ get_or spans i s → AllByRecursion (IsSpan xs) spans → IsSpan xs s
  span_of xs spans i s lt is all = subst (IsSpan xs) (sym is) (all_at (IsSpan xs) spans i s lt all)

  pub span_length : (xs : List T) (s : Span) → IsSpan xs s → length (span_items xs s) ≡ s.len
  span_length xs s is = length-take-le s.len (drop s.first xs) (omega (arith, is.within, length-drop s.first xs))

  -- a chunk that is read: its span, where it stands and how long it is
  pub record IsRead (xs : List T) (spans : List Span) (i : ℕ) (s : Span) (v : List (List T)) : Type 0 where
    pub lt : i < length spans
    pub is : s ≡ get_or spans i s
    pub span_is : IsSpan xs s
    pub items : chunk_at v i ≡ span_items xs s
    pub len : length (chunk_at v i) ≡ s.len

  pub read : (xs : List T) (spans : List Span) (i : ℕ) (s : Span) (v : List (List T)) → chunks_in xs spans ≡ v → i < length v → s ≡ get_or spans i s → AllByRecursion (IsSpan xs) spans → IsRead xs spans i s v
  read xs spans i s v same lt is all =
      let less : i < length spans = omega (arith, lt, ap length same, chunks_count xs spans) in
      let here = span_of xs spans i s less is all in
      let items = ap (λ ps. chunk_at ps i) (sym same) ∙ chunk_of xs spans i s less is in
      record { lt = less; is = is; span_is = here; items = items; len = ap length items ∙ span_length xs s here }

  -- the same of a shelf, as its view tells of it
  pub spans_count : {xs : List T} {spans : List Span} {free : List ℕ} {most a b c : ℕ} {w : Shelved T} → IsShelf xs spans free most a b c → record { chunks = chunks_in xs spans; most = most } ≡ w → length w.chunks ≡ length spans
  spans_count {xs} {spans} shelf same = omega (arith, ap (λ (w : Shelved T). length w.chunks) same, chunks_count xs spans)

  pub read_of : {xs : List T} {spans : List Span} {free : List ℕ} {most a b c : ℕ} {w : Shelved T} {i : ℕ} {s : Span} → IsShelf xs spans free most a b c → record { chunks = chunks_in xs spans; most = most } ≡ w → i < length w.chunks → s ≡ get_or spans i s → IsRead xs spans i s w.chunks
  read_of {xs} {spans} {i = i} {s} shelf same lt is = read xs spans i s _ (ap (λ (w : Shelved T). w.chunks) same) lt is shelf.spans_are

  -- there is room in a bay for as many items as it has places, if any bay was made
  pub within_bay : {xs : List T} {s : Span} → IsSpan xs s → (n : ℕ) → n ≤ MOST → (length xs ≡ 0 → n ≡ 0) → s.first + n ≤ length xs
  within_bay {xs} {s} is n few none = elim (cases_lt 0 (length xs)) [
    | inl some ↦ omega (arith, few, is.whole some)
    | inr le ↦ omega (arith, is.within, none (omega (arith, le)))
  ]

  -- ---- one chunk changed

  -- a chunk's items give way to others, which are written in its bay
  pub record IsChange (xs ys : List T) (spans spans' : List Span) (i : ℕ) (s s' : Span) (p : List T) : Type 0 where
    pub lt : i < length spans
    pub is : s ≡ get_or spans i s
    pub first : s'.first ≡ s.first
    pub len : s'.len ≡ length p
    pub short : length p ≤ MOST
    pub within : s.first + length p ≤ length xs
    pub places : ys ≡ written xs s.first p
    pub spans_are : spans' ≡ set spans i s'

  kept_one : (xs : List T) (b : ℕ) (ys : List T) (o : Span) → b ≤ length xs → length ys ≤ MOST → IsSpan xs o → AreApart b o.first → span_items (written xs b ys) o ≡ span_items xs o
  kept_one xs b ys o le few is apart = elim apart [
    | inl above ↦ written_above xs b ys o.first o.len le (omega (arith, above, few))
    | inr below ↦ written_below xs b ys o.first o.len le (omega (arith, below, is.short))
  ]

  kept_chunks : (xs : List T) (b : ℕ) (ys : List T) (spans : List Span) → b ≤ length xs → length ys ≤ MOST → AllByRecursion (IsSpan xs) spans → AllByRecursion (λ o. AreApart b o.first) spans → chunks_in (written xs b ys) spans ≡ chunks_in xs spans
  kept_chunks xs b ys [] le few all apart = refl
  kept_chunks xs b ys (o ∷ spans) le few all apart =
      ap (λ p. p ∷ chunks_in (written xs b ys) spans) (kept_one xs b ys o le few all.0 apart.0) ∙ ap (λ ps. span_items xs o ∷ ps) (kept_chunks xs b ys spans le few all.1 apart.1)

  -- a chunk in the middle
  pub chunks_around : (xs : List T) (before : List Span) (s : Span) (after : List Span) → chunks_in xs (before ++ s ∷ after) ≡ chunks_in xs before ++ (span_items xs s ∷ chunks_in xs after)
  chunks_around xs before s after = map-append (λ o. span_items xs o) before (s ∷ after)

  set_chunks : (xs : List T) (spans : List Span) (i : ℕ) (p : List T) → i < length spans → set (chunks_in xs spans) i p ≡ chunks_in xs (take i spans) ++ (p ∷ chunks_in xs (drop (i + 1) spans))
  set_chunks xs spans i p lt =
      let one : suc i ≡ i + 1 = omega arith in
      set_split (chunks_in xs spans) i p (omega (arith, lt, chunks_count xs spans))
      ∙ ap (λ n. take i (chunks_in xs spans) ++ p ∷ drop n (chunks_in xs spans)) one
      ∙ ap (λ ps. ps ++ p ∷ drop (i + 1) (chunks_in xs spans)) (take-map (λ s. span_items xs s) i spans)
      ∙ ap (λ ps. chunks_in xs (take i spans) ++ p ∷ ps) (drop-map (λ s. span_items xs s) (i + 1) spans)

  pub change_chunks : (xs ys : List T) (spans spans' : List Span) (i : ℕ) (s s' : Span) (p : List T) → AllByRecursion (IsSpan xs) spans → ((place : ℕ) → covered place (bays_of spans) ≤ 1) → IsChange xs ys spans spans' i s s' p → chunks_in ys spans' ≡ set (chunks_in xs spans) i p
  change_chunks xs ys spans spans' i s s' p all once c =
      let one : suc i ≡ i + 1 = omega arith in
      let le : s.first ≤ length xs = omega (arith, c.within) in
      let a = around spans i s c.lt c.is once in
      let before = kept_chunks xs s.first p (take i spans) le c.short (all_take (IsSpan xs) spans i all) a.before in
      let after = kept_chunks xs s.first p (drop (i + 1) spans) le c.short (all_drop (IsSpan xs) spans (i + 1) all) a.after in
      let here : span_items (written xs s.first p) s' ≡ p = ap (λ b. stretch (written xs s.first p) b s'.len) c.first ∙ ap (stretch (written xs s.first p) s.first) c.len ∙ written_here xs s.first p le in
      ap (λ zs. chunks_in zs spans') c.places
      ∙ ap (chunks_in (written xs s.first p)) (c.spans_are ∙ set_split spans i s' c.lt ∙ ap (λ n. take i spans ++ s' ∷ drop n spans) one)
      ∙ chunks_around (written xs s.first p) (take i spans) s' (drop (i + 1) spans)
      ∙ ap (λ ps. ps ++ span_items (written xs s.first p) s' ∷ chunks_in (written xs s.first p) (drop (i + 1) spans)) before
      ∙ ap (λ q. chunks_in xs (take i spans) ++ q ∷ chunks_in (written xs s.first p) (drop (i + 1) spans)) here
      ∙ ap (λ ps. chunks_in xs (take i spans) ++ p ∷ ps) after
      ∙ sym (set_chunks xs spans i p c.lt)

  once : (xs : List T) (spans : List Span) (free : List ℕ) (most a b c : ℕ) → IsShelf xs spans free most a b c → (place : ℕ) → covered place (bays_of spans) ≤ 1
  once xs spans free most a b c shelf place = omega (arith, shelf.apart place)

  pub changed : (xs ys : List T) (spans spans' : List Span) (free : List ℕ) (most a b c : ℕ) (i : ℕ) (s s' : Span) (p : List T) (v : List (List T)) → chunks_in xs spans ≡ v → IsShelf xs spans free most a b c → IsChange xs ys spans spans' i s s' p → chunks_in ys spans' ≡ set v i p
  changed xs ys spans spans' free most a b c i s s' p v same shelf change =
      change_chunks xs ys spans spans' i s s' p shelf.spans_are (once xs spans free most a b c shelf) change ∙ ap (λ ps. set ps i p) same

  pub span_same : (xs ys : List T) (s : Span) → length ys ≡ length xs → IsSpan xs s → IsSpan ys s
  span_same xs ys s size is = record {
    within = omega (arith, size, is.within);
    whole = λ some. omega (arith, size, is.whole (omega (arith, size, some)));
    short = is.short;
    fits = is.fits;
  }

  -- a shelf after a change of one chunk
  pub changed_shelf : (xs ys : List T) (spans spans' : List Span) (free : List ℕ) (most a b c a' b' c' : ℕ) (i : ℕ) (s s' : Span) (p : List T) → IsShelf xs spans free most a b c → a' ≡ a → b' ≡ b → c' ≡ c → IsChange xs ys spans spans' i s s' p → IsShelf ys spans' free most a' b' c'
  changed_shelf xs ys spans spans' free most a b c a' b' c' i s s' p shelf la lb lc change =
      let here = span_of xs spans i s change.lt change.is shelf.spans_are in
      let size : length ys ≡ length xs = ap length change.places ∙ length_written xs s.first p change.within in
      let bays : bays_of spans' ≡ bays_of spans = ap bays_of change.spans_are ∙ same_bays spans i s s' change.lt change.is change.first in
      let count : length spans' ≡ length spans = ap length change.spans_are ∙ length-set spans i s' in
      let new : IsSpan ys s' = record {
        within = omega (arith, size, change.first, change.len, change.within);
        whole = λ some. omega (arith, size, change.first, here.whole (omega (arith, size, some)));
        short = omega (arith, change.len, change.short);
        fits = omega (arith, change.first, here.fits);
      } in
      record {
        spans_are = subst (AllByRecursion (IsSpan ys)) (sym change.spans_are) (all_set (IsSpan ys) spans i s' (all_map (IsSpan xs) (IsSpan ys) (λ o. span_same xs ys o size) spans shelf.spans_are) new);
        apart = λ place. omega (arith, ap (covered place) bays, shelf.apart place);
        made = λ place far. omega (arith, ap (covered place) bays, shelf.made place (omega (arith, far, count)));
        few = omega (arith, count, shelf.few);
        fits = shelf.fits;
        places_room_is = omega (arith, la, shelf.places_room_is);
        spans_room_is = omega (arith, lb, shelf.spans_room_is);
        free_room_is = omega (arith, lc, shelf.free_room_is);
      }

  -- ---- more places

  filled_one : (xs ys : List T) (s : Span) → length xs ≤ length ys → MOST ≤ length ys → IsSpan xs s → IsSpan ys s
  filled_one xs ys s more enough is = record {
    within = omega (arith, more, is.within);
    whole = λ _. elim (cases_lt 0 (length xs)) [ inl some ↦ omega (arith, more, is.whole some) | inr none ↦ omega (arith, none, enough, is.within) ];
    short = is.short;
    fits = is.fits;
  }

  pub filled_spans : (xs ys : List T) (spans : List Span) → length xs ≤ length ys → MOST ≤ length ys → AllByRecursion (IsSpan xs) spans → AllByRecursion (IsSpan ys) spans
  filled_spans xs ys spans more enough all = all_map (IsSpan xs) (IsSpan ys) (λ s. filled_one xs ys s more enough) spans all

  pub filled_chunks : (xs ys : List T) (spans : List Span) → take (length xs) ys ≡ xs → AllByRecursion (IsSpan xs) spans → chunks_in ys spans ≡ chunks_in xs spans
  filled_chunks xs ys [] kept all = refl
  filled_chunks xs ys (s ∷ spans) kept all =
      ap (λ p. p ∷ chunks_in ys spans) (stretch_kept xs ys s.first s.len kept all.0.within) ∙ ap (λ ps. span_items xs s ∷ ps) (filled_chunks xs ys spans kept all.1)

  pub filled_shelf : (xs ys : List T) (spans : List Span) (free : List ℕ) (most a b c a' : ℕ) → IsShelf xs spans free most a b c → length xs ≤ length ys → MOST ≤ length ys → a' ≡ a → IsShelf ys spans free most a' b c
  filled_shelf xs ys spans free most a b c a' shelf more enough la = record {
    spans_are = filled_spans xs ys spans more enough shelf.spans_are;
    apart = shelf.apart;
    made = shelf.made;
    few = shelf.few;
    fits = shelf.fits;
    places_room_is = omega (arith, la, shelf.places_room_is);
    spans_room_is = shelf.spans_room_is;
    free_room_is = shelf.free_room_is;
  }

  -- ---- a chunk more

  pub opened_chunks : (xs : List T) (spans : List Span) (i : ℕ) (s : Span) → s.len ≡ 0 → chunks_in xs (insert spans i s) ≡ insert (chunks_in xs spans) i []
  opened_chunks xs spans i s none =
      chunks_around xs (take i spans) s (drop i spans)
      ∙ ap (λ n. chunks_in xs (take i spans) ++ take n (drop s.first xs) ∷ chunks_in xs (drop i spans)) none
      ∙ ap (λ ps. ps ++ [] ∷ chunks_in xs (drop i spans)) (sym (take-map (λ o. span_items xs o) i spans))
      ∙ ap (λ ps. take i (chunks_in xs spans) ++ [] ∷ ps) (sym (drop-map (λ o. span_items xs o) i spans))

  pub taken : (xs : List T) (spans : List Span) (free free' : List ℕ) (most a b c first : ℕ) → IsShelf xs spans free most a b c → length spans < most → TakesBay free free' (length spans) first → IsTaken spans free free' most first
  taken xs spans free free' most a b c first shelf less takes = elim takes [
    | inl again ↦
        let count : length free ≡ length free' + 1 = ap length again ∙ length-append free' (first ∷ []) in
        let parts : (place : ℕ) → covered place free ≡ covered place free' + (covers place first + 0) = λ place. ap (covered place) again ∙ covered_append place free' (first ∷ []) in
        record {
          apart = λ place. omega (arith, parts place, shelf.apart place);
          made = λ place far. omega (arith, parts place, shelf.made place (omega (arith, far, count)));
          few = omega (arith, count, shelf.few);
          within = elim (cases_lt (first + (MOST - 1)) ((length spans + length free) * MOST)) [
            | inl near ↦ omega (arith, near, shelf.few)
            | inr far ↦ absurd (omega (arith, shelf.made (first + (MOST - 1)) far, parts (first + (MOST - 1))))
          ];
        }
    | inr new ↦
        let old : length free ≡ 0 = ap length new.0 in
        let left : length free' ≡ 0 = ap length new.1 in
        let none : (place : ℕ) → covered place free' ≡ 0 = λ place. ap (covered place) new.1 in
        record {
          apart = λ place. elim (cases_lt place first) [
            | inl before ↦ omega (arith, before, none place, shelf.apart place)
            | inr after ↦ omega (arith, none place, shelf.made place (omega (arith, after, old, new.2)))
          ];
          made = λ place far. omega (arith, none place, new.2, left, far, shelf.made place (omega (arith, far, old, left)));
          few = omega (arith, left, less);
          within = omega (arith, new.2, less);
        }
  ]

  pub opened_shelf : (xs ys : List T) (spans : List Span) (free free' : List ℕ) (most a b c a' b' c' : ℕ) (i : ℕ) (s : Span) → IsShelf xs spans free most a b c → IsTaken spans free free' most s.first → s.len ≡ 0 → i ≤ length spans → length xs ≤ length ys → s.first + MOST ≤ length ys → a' ≡ a → b' ≡ b → c' ≡ c → IsShelf ys (insert spans i s) free' most a' b' c'
  opened_shelf xs ys spans free free' most a b c a' b' c' i s shelf taken none le more enough la lb lc =
      let count = length-insert spans i s le in
      let whole : (place : ℕ) → covered place (bays_of spans) ≡ covered place (bays_of (take i spans)) + covered place (bays_of (drop i spans)) =
      λ place. ap (λ xs. covered place (bays_of xs)) (sym (take-append-drop i spans)) ∙ ap (covered place) (map-append (λ (o : Span). o.first) (take i spans) (drop i spans)) ∙ covered_append place (bays_of (take i spans)) (bays_of (drop i spans)) in
      let parts : (place : ℕ) → covered place (bays_of (insert spans i s)) ≡ covered place (bays_of (take i spans)) + (covers place s.first + covered place (bays_of (drop i spans))) =
      λ place. ap (covered place) (map-append (λ (o : Span). o.first) (take i spans) (s ∷ drop i spans)) ∙ covered_append place (bays_of (take i spans)) (bays_of (s ∷ drop i spans)) in
      let all = filled_spans xs ys spans more (omega (arith, enough)) shelf.spans_are in
      let new : IsSpan ys s = record {
        within = omega (arith, none, enough);
        whole = λ _. enough;
        short = omega (arith, none);
        fits = omega (arith, taken.within, shelf.fits);
      } in
      record {
        spans_are = all_append (IsSpan ys) (take i spans) (s ∷ drop i spans) (all_take (IsSpan ys) spans i all) (new, all_drop (IsSpan ys) spans i all);
        apart = λ place. omega (arith, whole place, parts place, taken.apart place);
        made = λ place far. omega (arith, whole place, parts place, taken.made place (omega (arith, far, count)));
        few = omega (arith, count, taken.few);
        fits = shelf.fits;
        places_room_is = omega (arith, la, shelf.places_room_is);
        spans_room_is = omega (arith, lb, shelf.spans_room_is);
        free_room_is = omega (arith, lc, shelf.free_room_is);
      }

  -- ---- a chunk less

  pub closed_chunks : (xs : List T) (spans : List Span) (i : ℕ) → chunks_in xs (remove spans i) ≡ remove (chunks_in xs spans) i
  closed_chunks xs spans i =
      map-append (λ s. span_items xs s) (take i spans) (drop (suc i) spans)
      ∙ ap (λ ps. ps ++ chunks_in xs (drop (suc i) spans)) (sym (take-map (λ s. span_items xs s) i spans))
      ∙ ap (λ ps. take i (chunks_in xs spans) ++ ps) (sym (drop-map (λ s. span_items xs s) (suc i) spans))

  pub closed_shelf : (xs : List T) (spans spans' : List Span) (free free' : List ℕ) (most a b c b' c' : ℕ) (i : ℕ) (s : Span) → IsShelf xs spans free most a b c → i < length spans → s ≡ get_or spans i s → spans' ≡ remove spans i → free' ≡ free ++ s.first ∷ [] → b' ≡ b → c' ≡ c → IsShelf xs spans' free' most a b' c'
  closed_shelf xs spans spans' free free' most a b c b' c' i s shelf lt is gone given lb lc =
      let one : suc i ≡ i + 1 = omega arith in
      let count = ap length gone in
      let less = length-remove spans i lt in
      let more = ap length given ∙ length-append free (s.first ∷ []) in
      let parts : (place : ℕ) → covered place (bays_of spans') ≡ covered place (bays_of (take i spans)) + covered place (bays_of (drop (i + 1) spans)) =
      λ place. ap (λ xs. covered place (bays_of xs)) (gone ∙ ap (λ n. take i spans ++ drop n spans) one) ∙ ap (covered place) (map-append (λ (o : Span). o.first) (take i spans) (drop (i + 1) spans)) ∙ covered_append place (bays_of (take i spans)) (bays_of (drop (i + 1) spans)) in
      let kept : (place : ℕ) → covered place free' ≡ covered place free + (covers place s.first + 0) = λ place. ap (covered place) given ∙ covered_append place free (s.first ∷ []) in
      record {
        spans_are = subst (AllByRecursion (IsSpan xs)) (sym gone) (all_append (IsSpan xs) (take i spans) (drop (suc i) spans) (all_take (IsSpan xs) spans i shelf.spans_are) (all_drop (IsSpan xs) spans (suc i) shelf.spans_are));
        apart = λ place. omega (arith, parts place, kept place, covered_split place spans i s lt is, shelf.apart place);
        made = λ place far. omega (arith, parts place, kept place, covered_split place spans i s lt is, shelf.made place (omega (arith, far, count, less, more)));
        few = omega (arith, count, less, more, shelf.few);
        fits = shelf.fits;
        places_room_is = shelf.places_room_is;
        spans_room_is = omega (arith, lb, shelf.spans_room_is);
        free_room_is = omega (arith, lc, shelf.free_room_is);
      }
