-- Lines that are read in order, of which the first alone may name a pool.
use Rattle.std.proofs.Common.{◌≡◌, ◌∙◌, sym, ap, refl, ℕ, ◌≤◌, Bool, true, false, List, [], ◌∷◌, ◌++◌, length}
use Rattle.std.proofs.Common.{Option, None, Some, cond, arith, subst, ne_eqb, ◌≢◌, ◌^◌}
use Rattle.std.specs.Prelude.{codes}
use Rattle.std.specs.Prelude.{◌==◌, ◌&&◌, nat_lt, nat_le, option_and_then, option_map}
use Rattle.std.specs.Str.{bytes_eq}
use Rattle.std.proofs.lemmas.Bool.{and_parts}
use borrow.Author.Tests.{ltb-true, leb-true}
use Rattle.etcd_types.specs.Limits.{max_script_line}
use Rattle.etcd_types.specs.declared.limits.TheConstants.{MAX_SEGMENTS}
use Rattle.etcd_types.specs.declared.step.Step.{Step}
use Rattle.etcd_types.specs.declared.step.Step.TheVariants.{Take, DropWatch, Tick, CatchUp}
use Rattle.host_front.specs.declared.front.Front.{Front}
use Rattle.host_front.specs.Lines.{Resize}
use Rattle.script_replay.specs.Script.{Asked, Pool, Live, Parts, call_asked, in_place, is_first, removed_by}
use Rattle.script_replay.specs.Script.{number_of, parts_of, pool_of, read_line, read_lines, read_word, read_words}
use Rattle.script_replay.specs.Script.{read_pool, read_add, read_resize, read_remove, read_call_line, read_take, read_drop, read_tick}
use Rattle.script_replay.specs.Script.{read_catch_up, read_step, read_event, number_below}
use Rattle.script_replay.specs.Replaying.{IsInPlace}

-- ---- one more line

later_push : (ls : List (List ℕ)) (l : List ℕ)
    → read_lines false (ls ++ l ∷ []) ≡ read_lines false ls ++ read_line false l ∷ []
later_push [] l = refl
later_push (k ∷ ls) l = ap (λ qs. read_line false k ∷ qs) (later_push ls l)

pub read_push : (ls : List (List ℕ)) (l : List ℕ)
    → read_lines true (ls ++ l ∷ []) ≡ read_lines true ls ++ read_line (is_first ls) l ∷ []
read_push [] l = refl
read_push (k ∷ ls) l = ap (λ qs. read_line true k ∷ qs) (later_push ls l)

pub first_is : (ls : List (List ℕ)) (n : ℕ) → length ls ≡ n → is_first ls ≡ (n == 0)
first_is [] n is = ap (λ k. k == 0) is
first_is (l ∷ ls) n is = sym (ne_eqb (length (l ∷ ls)) 0 (some l ls)) ∙ ap (λ k. k == 0) is
  where
    some : (l : List ℕ) (ls : List (List ℕ)) → length (l ∷ ls) ≢ 0
    some l ls = λ none. absurd (omega (arith, none))

-- ---- a pool

-- the number of a pool's segments is one that it may have
IsPoolSize : Asked → Type 0
IsPoolSize (Pool n) = (1 ≤ n) × (n ≤ MAX_SEGMENTS)
IsPoolSize (Live line) = Unit {0}

IfSize : Option Asked → Type 0
IfSize None = Unit {0}
IfSize (Some q) = IsPoolSize q

sized_then : {A : Type 0} (f : A → Option Asked) (o : Option A) → ((x : A) → IfSize (f x))
    → IfSize (option_and_then f o)
unfolding IfSize
sized_then f None each = tt
sized_then f (Some x) each = each x

pool_sized : (n : ℕ) → IfSize (pool_of n)
unfolding IfSize IsPoolSize
pool_sized n = by (nat_lt 0 n && nat_le n MAX_SEGMENTS) refl
  where
    by : (b : Bool) → (nat_lt 0 n && nat_le n MAX_SEGMENTS) ≡ b → IfSize (cond b (Some (Pool n)) None)
    by true h = let parts = and_parts _ _ h in (ltb-true 0 n parts.0, leb-true n MAX_SEGMENTS parts.1)
    by false h = tt

add_sized : (text : List ℕ) → IfSize (read_add text)
unfolding IfSize IsPoolSize
add_sized text =
    sized_then _ (parts_of text) (λ name.
    sized_then _ (parts_of name.rest) (λ cluster.
    sized_then _ (parts_of cluster.rest) (λ quota.
    sized_then _ (number_of cluster.field) (λ i.
    sized_then _ (number_of quota.field) (λ c.
    sized_then _ (number_of quota.rest) (λ f. tt))))))

resize_sized : (text : List ℕ) → IfSize (read_resize text)
unfolding IfSize IsPoolSize
resize_sized text = sized_then _ (parts_of text) (λ name. by name.field (number_of name.rest))
  where
    by : (name : List ℕ) (o : Option ℕ) → IfSize (option_map (λ cells. Live (Resize name cells)) o)
    by name None = tt
    by name (Some cells) = tt

remove_sized : (text : List ℕ) → IfSize (read_remove text)
unfolding IfSize IsPoolSize
remove_sized text = by (parts_of text)
  where
    by : (o : Option Parts) → IfSize (removed_by text o)
    by None = tt
    by (Some more) = tt

call_sized : (text : List ℕ) → IfSize (read_call_line text)
unfolding IfSize IsPoolSize
call_sized text = by (parts_of text)
  where
    target : (method : Parts) (o : Option Parts) → IsPoolSize (call_asked method.field method.rest o)
    target method None = tt
    target method (Some t) = tt

    by : (o : Option Parts)
        → IfSize (option_map (λ method. call_asked method.field method.rest (parts_of method.rest)) o)
    by None = tt
    by (Some method) = target method (parts_of method.rest)

step_sized : (step : ℕ → Step) (number : List ℕ → Option ℕ) (text : List ℕ) → IfSize (read_step step number text)
unfolding IfSize IsPoolSize
step_sized step number text = sized_then _ (parts_of text) (λ tenant. sized_then _ (number tenant.rest) (λ n. tt))

event_sized : (word rest : List ℕ) → IfSize (read_event word rest)
unfolding IfSize
event_sized word rest =
    by (bytes_eq word (codes "call")) (bytes_eq word (codes "take")) (bytes_eq word (codes "drop"))
    (bytes_eq word (codes "tick")) (bytes_eq word (codes "catchup"))
  where
    by : (c t d k u : Bool)
        → IfSize (cond c (read_call_line rest) (cond t (read_take rest) (cond d (read_drop rest)
        (cond k (read_tick rest) (cond u (read_catch_up rest) None)))))
    by true t d k u = call_sized rest
    by false true d k u = step_sized Take (number_below (2 ^ 8)) rest
    by false false true k u = step_sized DropWatch (number_below (2 ^ 8)) rest
    by false false false true u = step_sized Tick number_of rest
    by false false false false true = step_sized CatchUp (number_below (2 ^ 32)) rest
    by false false false false false = tt

word_sized : (word rest : List ℕ) → IfSize (read_word word rest)
word_sized word rest =
    by (bytes_eq word (codes "pool")) (bytes_eq word (codes "add")) (bytes_eq word (codes "resize"))
    (bytes_eq word (codes "remove"))
  where
    by : (p a s r : Bool)
        → IfSize (cond p (read_pool rest) (cond a (read_add rest) (cond s (read_resize rest)
        (cond r (read_remove rest) (read_event word rest)))))
    by true a s r = sized_then pool_of (number_of rest) pool_sized
    by false true s r = add_sized rest
    by false false true r = resize_sized rest
    by false false false true = remove_sized rest
    by false false false false = event_sized word rest

words_sized : (text : List ℕ) → IfSize (read_words text)
unfolding read_words IfSize
words_sized text = by (nat_lt max_script_line (length text))
  where
    by : (b : Bool)
        → IfSize (cond b None (option_and_then (λ word. read_word word.field word.rest) (parts_of text)))
    by true = tt
    by false =
        sized_then (λ word. read_word word.field word.rest) (parts_of text)
        (λ word. word_sized word.field word.rest)

-- a line that was read is in its place
pub line_in_place : (front : Option Front) (first : Bool) (text : List ℕ) (q : Asked)
    → read_line first text ≡ Some q → (first ≡ true → front ≡ None) → IsInPlace front q
unfolding IfSize IsPoolSize
line_in_place front first text q read empty = by first (read_words text) q read (words_sized text) empty
  where
    by : (b : Bool) (o : Option Asked) (q : Asked) → option_and_then (in_place b) o ≡ Some q → IfSize o
        → (b ≡ true → front ≡ None) → IsInPlace front q
    by b o (Live line) is sized empty = tt
    by b None (Pool n) is sized empty = cc
    by true (Some p) (Pool n) is sized empty = at p is sized
      where
        at : (p : Asked) → Some p ≡ Some (Pool n) → IfSize (Some p) → IsInPlace front (Pool n)
        at p is sized =
            let size : (1 ≤ n) × (n ≤ MAX_SEGMENTS) = subst IfSize is sized in
            record { first = empty refl; some = size.0; most = size.1 }
    by false (Some (Pool m)) (Pool n) is sized empty = cc
    by false (Some (Live line)) (Pool n) is sized empty = cc

-- only the first line names a pool
pub pool_is_first : (first : Bool) (text : List ℕ) (n : ℕ) → read_line first text ≡ Some (Pool n) → first ≡ true
pool_is_first first text n = by first (read_words text)
  where
    by : (b : Bool) (o : Option Asked) → option_and_then (in_place b) o ≡ Some (Pool n) → b ≡ true
    by true o is = refl
    by false None is = cc
    by false (Some (Pool m)) is = cc
    by false (Some (Live line)) is = cc
