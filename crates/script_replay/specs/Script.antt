-- What a script says: its lines, and what each line asks for.
use Rattle.std.specs.Prelude.{ℕ, ◌+◌, ◌==◌, ◌^◌, ◌&&◌, Bool, true, false, List, [], ◌∷◌, length, take}
use Rattle.std.specs.Prelude.{drop, nat_lt, nat_le, position, Option, None, Some, option_map, codes}
use Rattle.std.specs.Prelude.{option_and_then, if◌then◌else◌}
use Rattle.std.specs.Char.{is_ascii_digit}
use Rattle.std.specs.List.{list_all}
use Rattle.std.specs.Str.{bytes_eq}
use Rattle.std.specs.Str.Parse.{digits_value}
use Rattle.etcd_types.specs.Limits.{max_script_line}
use Rattle.etcd_types.specs.declared.limits.TheConstants.{MAX_SEGMENTS}
use Rattle.etcd_types.specs.declared.step.Step.{Step}
use Rattle.etcd_types.specs.declared.step.Step.TheVariants.{Take, DropWatch, Tick, CatchUp}
use Rattle.etcd_model.specs.Alone.{Called, Stepped}
use Rattle.host_front.specs.Lines.{Line, Happens, Add, Resize, Remove, lent_line}
use Rattle.script_replay.specs.declared.script.Asked.{Asked as Read}
use Rattle.script_replay.specs.declared.script.Asked.TheVariants as asked

-- ---- lines

-- a byte in front of the first of some lines
abbrev pub onto : ℕ → List (List ℕ) → List (List ℕ)
onto x [] = (x ∷ []) ∷ []
onto x (l ∷ ls) = (x ∷ l) ∷ ls

-- the lines without their newlines; the last may lack its own
abbrev pub lines_of : List ℕ → List (List ℕ)
lines_of [] = []
lines_of (x ∷ xs) = if x == 10 then [] ∷ lines_of xs else onto x (lines_of xs)

-- ---- what a line asks for

-- a pool of so many segments, or what the host is asked
pub data Asked : Type 0 where
  Pool : ℕ → Asked
  Live : Line → Asked

-- what is before the first space, and what is after it
pub record Parts : Type 0 where
  pub field : List ℕ
  pub rest : List ℕ

abbrev pub parts_of : List ℕ → Option Parts
parts_of text =
    option_map (λ i. record { field = take i text; rest = drop (i + 1) text }) (position (λ c. c == 32) text)

-- one or more decimal digits
abbrev pub is_number : List ℕ → Bool
is_number text = nat_lt 0 (length text) && list_all is_ascii_digit text

-- the number that they spell, within 64 bits
abbrev pub number_of : List ℕ → Option ℕ
number_of text =
    if is_number text && nat_lt (digits_value 10 text) (2 ^ 64) then Some (digits_value 10 text) else None

-- the number, if it is below a limit
abbrev pub below : ℕ → ℕ → Option ℕ
below limit n = if nat_lt n limit then Some n else None

abbrev pub number_below : ℕ → List ℕ → Option ℕ
number_below limit text = option_and_then (below limit) (number_of text)

abbrev pub pool_of : ℕ → Option Asked
pool_of n = if nat_lt 0 n && nat_le n MAX_SEGMENTS then Some (Pool n) else None

-- `<segments>`
abbrev pub read_pool : List ℕ → Option Asked
read_pool text = option_and_then pool_of (number_of text)

-- `<name> <cluster> <quota> <first>`
abbrev pub read_add : List ℕ → Option Asked
read_add text =
    option_and_then (λ name.
    option_and_then (λ cluster.
    option_and_then (λ quota.
    option_and_then (λ cluster_id.
    option_and_then (λ cells.
    option_and_then (λ first.
    Some (Live (Add name.field cluster_id cells first)))
    (number_of quota.rest))
    (number_of quota.field))
    (number_of cluster.field))
    (parts_of cluster.rest))
    (parts_of name.rest))
    (parts_of text)

-- `<name> <quota>`
abbrev pub read_resize : List ℕ → Option Asked
read_resize text =
    option_and_then (λ name. option_map (λ cells. Live (Resize name.field cells)) (number_of name.rest)) (parts_of text)

-- all of it, if nothing is parted from it
abbrev pub removed_by : List ℕ → Option Parts → Option Asked
removed_by name None = Some (Live (Remove name))
removed_by name (Some more) = None

-- `<name>`
abbrev pub read_remove : List ℕ → Option Asked
read_remove text = removed_by text (parts_of text)

-- `<method> <target> <body>`: the body is all that follows, and without its space it is empty
abbrev pub call_asked : List ℕ → List ℕ → Option Parts → Asked
call_asked method text None = Live (Happens (Called method text []))
call_asked method text (Some target) = Live (Happens (Called method target.field target.rest))

abbrev pub read_call_line : List ℕ → Option Asked
read_call_line text =
    option_map (λ method. call_asked method.field method.rest (parts_of method.rest)) (parts_of text)

-- `<tenant> <number>`, for a step of that number
abbrev pub read_step : (ℕ → Step) → (List ℕ → Option ℕ) → List ℕ → Option Asked
read_step step number text =
    option_and_then (λ tenant.
    option_and_then (λ n. Some (Live (Happens (Stepped tenant.field (step n))))) (number tenant.rest))
    (parts_of text)

abbrev pub read_take : List ℕ → Option Asked
read_take text = read_step Take (number_below (2 ^ 8)) text

abbrev pub read_drop : List ℕ → Option Asked
read_drop text = read_step DropWatch (number_below (2 ^ 8)) text

abbrev pub read_tick : List ℕ → Option Asked
read_tick text = read_step Tick number_of text

abbrev pub read_catch_up : List ℕ → Option Asked
read_catch_up text = read_step CatchUp (number_below (2 ^ 32)) text

-- what a tenant is asked
abbrev pub read_event : List ℕ → List ℕ → Option Asked
read_event word rest =
    if bytes_eq word (codes "call") then read_call_line rest
    else if bytes_eq word (codes "take") then read_take rest
    else if bytes_eq word (codes "drop") then read_drop rest
    else if bytes_eq word (codes "tick") then read_tick rest
    else if bytes_eq word (codes "catchup") then read_catch_up rest
    else None

-- what the operator asks for, or a tenant
abbrev pub read_word : List ℕ → List ℕ → Option Asked
read_word word rest =
    if bytes_eq word (codes "pool") then read_pool rest
    else if bytes_eq word (codes "add") then read_add rest
    else if bytes_eq word (codes "resize") then read_resize rest
    else if bytes_eq word (codes "remove") then read_remove rest
    else read_event word rest

-- a line that is too long, or says anything else, can't be read
unfoldable pub read_words : List ℕ → Option Asked
read_words text =
    if nat_lt max_script_line (length text) then None
    else option_and_then (λ word. read_word word.field word.rest) (parts_of text)

-- a pool is named by the first line alone
abbrev pub in_place : Bool → Asked → Option Asked
in_place true q = Some q
in_place false (Pool segments) = None
in_place false (Live l) = Some (Live l)

-- a line, which is the first or a later one
abbrev pub read_line : Bool → List ℕ → Option Asked
read_line first text = option_and_then (in_place first) (read_words text)

-- lines in order, of which the first is the script's first or not
abbrev pub read_lines : Bool → List (List ℕ) → List (Option Asked)
read_lines first [] = []
read_lines first (l ∷ ls) = read_line first l ∷ read_lines false ls

-- the line after some lines is the first
abbrev pub is_first : List (List ℕ) → Bool
is_first [] = true
is_first (l ∷ ls) = false

-- what a line asks for, by what was read of it
abbrev pub asked_by : Read → Asked
asked_by (asked.Pool segments) = Pool segments
asked_by (asked.Live l) = Live (lent_line l)
