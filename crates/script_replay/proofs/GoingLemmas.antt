-- A replay goes on line by line.
use Rattle.std.proofs.Common.{◌≡◌, ◌≢◌, ◌∙◌, sym, ap, subst, refl, ℕ, Bool, ◌+◌, ◌<◌, List, [], ◌∷◌, ◌++◌, append_assoc, append-nil, length, length-append, Option, None, Some, IfSome, arith, lt-ltb, eq-eqb, true, false, flat_map, map}
use Rattle.std.proofs.lemmas.Bool.{true≢false}
use Rattle.std.proofs.lemmas.Grind.{flat_map-append}
use Rattle.std.proofs.KnownBytes.{Appends-kept, Appends-nil, Appends-trans}
use Rattle.std.specs.Io.KnownBytes.{Appends, Keeps, append_known}
use Rattle.std.specs.Io.BufRead.{take_through, drop_through, strip_last, DropsThrough}
use Rattle.etcd_types.specs.Limits.{max_script_line}
use Rattle.host_front.specs.declared.line.LineAnswer.{LineAnswer}
use Rattle.host_front.specs.Lines.{LineTurn, line_turn}
use Rattle.host_front.specs.Living.{AreLived}
use Rattle.host_front.proofs.Lived.{all_lived, lived_push}
use Rattle.std.specs.Prelude.{Result, Ok, Err, IsErr, IsErrAnd, ◌==◌}
use borrow.Author.Tests.{eqb-true}
use Rattle.script_replay.specs.declared.fault.ReplayFault.{ReplayFault}
use Rattle.script_replay.specs.declared.fault.ReplayFault.TheVariants as fault
use Rattle.script_replay.specs.declared.lines.TakenLine.{TakenLine}
use Rattle.script_replay.specs.declared.lines.TakenLine.TheVariants.{Line, TooLong}
use Rattle.steps_core.specs.Hosts.{HostState}
use Rattle.script_replay.specs.Script.{Asked, Pool, Live, lines_of, read_line, read_lines, read_words}
use Rattle.script_replay.specs.Answers.{answer_line}
use Rattle.script_replay.specs.Replaying.{Tells, asked_in, first_host, told_in}
use Rattle.script_replay.specs.Lines.{BeginsTooLong, BeginsWithLine}
use Rattle.script_replay.specs.Fronts.{AppendsFront}
use Rattle.script_replay.specs.Written.{EndsAtLine, EndsCut, EndsEarly, Replays, Wrote}
use Rattle.script_replay.specs.Going.{Going}
use Rattle.script_replay.proofs.FirstLine.{first_line, at_end}
use Rattle.script_replay.proofs.FrontLemmas.{appends_known, front_behind, front_of_all}
use Rattle.script_replay.proofs.ReadLemmas.{first_is, pool_is_first, read_push}
use Rattle.script_replay.proofs.TurnLemmas.{none_told, read_more, told_more}

-- ---- facts of values

pub line_taken : (t : TakenLine) → (t ≡ TooLong → ⊥) → t ≡ Line
line_taken Line short = refl
line_taken TooLong short = absurd (short refl)

pub empty_is : {A : Type 0} (n : ℕ) (xs : List A) → n ≡ length xs → (n == 0) ≡ true → xs ≡ []
empty_is n [] len zero = refl
empty_is n (x ∷ xs) len zero = let none : n ≡ 0 = eqb-true n 0 zero in absurd (omega (arith, len, none))

pub full_is : (n : ℕ) (xs : List ℕ) → n ≡ length xs → (n == 0) ≡ false → xs ≢ []
full_is n [] len some = λ _. true≢false (sym (eq-eqb n 0 len) ∙ some)
full_is n (x ∷ xs) len some = λ h. cc

-- ---- how far

pub going_first : (o old : Option (List ℕ)) → IfSome o (λ script. Going script o old old (first_host None) 0)
going_first None old = tt
going_first (Some script) old = record { done = []; rest = script; remains = refl; lines = refl; number = refl; pool = None; turns = []; read = refl; lived = refl; text = Appends-nil old }

-- what was written is flushed
pub going_kept : (o now old mid new : Option (List ℕ)) (host : HostState) (n : ℕ)
    → IfSome o (λ script. Going script now old mid host n) → Keeps mid new → IfSome o (λ script. Going script now old new host n)
going_kept None now old mid new host n going kept = tt
going_kept (Some script) now old mid new host n going kept =
    let g : Going script now old mid host n = going in
    record {
      done = g.done;
      rest = g.rest;
      remains = g.remains;
      lines = g.lines;
      number = g.number;
      pool = g.pool;
      turns = g.turns;
      read = g.read;
      lived = g.lived;
      text = Appends-kept old mid new _ g.text kept;
    }

-- what is taken is the first line of what is left
module _ (script : List ℕ) (now old new : Option (List ℕ)) (host : HostState) (n : ℕ) (going : Going script now old new host n) where
  taken_is : (line : List ℕ) → BeginsWithLine now line → line ≡ take_through 10 going.rest
  taken_is line taken = subst (λ o. BeginsWithLine o line) going.remains taken

  first_line_is : (line : List ℕ) → BeginsWithLine now line → line ≢ [] → lines_of going.rest ≡ strip_last 10 line ∷ lines_of (drop_through 10 going.rest)
  first_line_is line taken some =
      let is = taken_is line taken in
      subst (λ l. lines_of going.rest ≡ strip_last 10 l ∷ lines_of (drop_through 10 going.rest)) (sym is) (first_line going.rest (λ e. some (is ∙ e)))

  so_far : Wrote old new going.done
  so_far = record {
    pool = going.pool;
    turns = going.turns;
    last = host;
    read = going.read;
    lived = all_lived (first_host going.pool) host going.turns going.lived;
    text = going.text;
  }

-- ---- one more line

module _ (script : List ℕ) (now next old mid new : Option (List ℕ)) (before after : HostState) (n : ℕ) (line : List ℕ)
    (going : Going script now old mid before n) (taken : BeginsWithLine now line) (drops : DropsThrough now next 10)
    (some : line ≢ []) where
  -- so the lines ask, with the new one, and are answered
  going_on : (pool : Option ℕ) (turns : List LineTurn)
      → read_lines true (going.done ++ strip_last 10 line ∷ []) ≡ map Some (asked_in pool turns)
      → AreLived (first_host pool) turns after → Appends old new (flat_map answer_line (told_in pool turns))
      → Going script next old new after (n + 1)
  going_on pool turns read lived text =
      let first = first_line_is script now old mid before n going line taken some in
      record {
        done = going.done ++ strip_last 10 line ∷ [];
        rest = drop_through 10 going.rest;
        remains = subst (λ o. DropsThrough o next 10) going.remains drops;
        lines =
            going.lines ∙ ap (λ ls. going.done ++ ls) first
            ∙ sym (append_assoc going.done (strip_last 10 line ∷ []) (lines_of (drop_through 10 going.rest)));
        number = omega (arith, length-append going.done (strip_last 10 line ∷ []), going.number);
        pool = pool;
        turns = turns;
        read = read;
        lived = lived;
        text = text;
      }

  -- what is read of the lines, with the new one
  read_on : (q : Asked) → read_line (n == 0) (strip_last 10 line) ≡ Some q
      → read_lines true (going.done ++ strip_last 10 line ∷ []) ≡ read_lines true going.done ++ Some q ∷ []
  read_on q is =
      read_push going.done (strip_last 10 line)
      ∙ ap (λ o. read_lines true going.done ++ o ∷ [])
      (ap (λ b. read_line b (strip_last 10 line)) (first_is going.done n going.number) ∙ is)

  -- no line is done before the first
  none_done : (b : Bool) → (n == 0) ≡ b → b ≡ true → going.done ≡ []
  none_done b zero is = empty_is n going.done (sym going.number) (zero ∙ is)

  -- what is written, with the new answer
  text_on : (as' : List LineAnswer) (a : LineAnswer) → Appends old mid (flat_map answer_line as')
      → Appends mid new (answer_line a) → Appends old new (flat_map answer_line (as' ++ a ∷ []))
  text_on as' a told wrote =
      subst (Appends old new) (sym (flat_map-append answer_line as' (a ∷ [])))
      (Appends-trans old mid new (flat_map answer_line as') (answer_line a ++ []) told
      (subst (Appends mid new) (sym (append-nil (answer_line a))) wrote))

  going_asked : (q : Asked) (a : LineAnswer) → read_line (n == 0) (strip_last 10 line) ≡ Some q
      → Tells before q a after → Appends mid new (answer_line a) → Going script next old new after (n + 1)
  going_asked (Live l) a is tells wrote =
      let x : LineTurn = line_turn l a in
      going_on going.pool (going.turns ++ x ∷ [])
      (read_on (Live l) is ∙ ap (λ qs. qs ++ Some (Live l) ∷ []) going.read ∙ sym (read_more going.pool going.turns x))
      (lived_push (first_host going.pool) before after going.turns x going.lived tells)
      (subst (λ as'. Appends old new (flat_map answer_line as')) (sym (told_more going.pool going.turns x))
      (text_on (told_in going.pool going.turns) a going.text wrote))
  going_asked (Pool m) a is tells wrote =
      let none = none_done (n == 0) refl (pool_is_first (n == 0) (strip_last 10 line) m is) in
      let silent = none_told going.pool going.turns (sym (ap (read_lines true) none) ∙ going.read) in
      going_on (Some m) []
      (read_on (Pool m) is ∙ ap (λ ls. read_lines true ls ++ Some (Pool m) ∷ []) none)
      tells.1
      (subst (λ b. Appends old new (flat_map answer_line (b ∷ []))) tells.0
      (text_on [] a (subst (λ as'. Appends old mid (flat_map answer_line as')) silent going.text) wrote))

pub going_more : (o now next old mid new : Option (List ℕ)) (before after : HostState) (n : ℕ) (line : List ℕ) (q : Asked) (a : LineAnswer)
    → IfSome o (λ script. Going script now old mid before n) → BeginsWithLine now line → DropsThrough now next 10 → line ≢ []
    → read_line (n == 0) (strip_last 10 line) ≡ Some q → Tells before q a after → Appends mid new (answer_line a)
    → IfSome o (λ script. Going script next old new after (n + 1))
going_more None now next old mid new before after n line q a going taken drops some is tells wrote = tt
going_more (Some script) now next old mid new before after n line q a going taken drops some is tells wrote =
    going_asked script now next old mid new before after n line going taken drops some q a is tells wrote

pub going_ends : (o now old new : Option (List ℕ)) (host : HostState) (n : ℕ) (line : List ℕ) → IfSome o (λ script. Going script now old new host n)
    → BeginsWithLine now line → line ≡ [] → IfSome o (λ script. Wrote old new (lines_of script))
going_ends None now old new host n line going taken none = tt
going_ends (Some script) now old new host n line going taken none =
    let g : Going script now old new host n = going in
    let over = at_end g.rest (sym (taken_is script now old new host n g line taken) ∙ none) in
    let all : lines_of script ≡ g.done = g.lines ∙ ap (λ xs. g.done ++ lines_of xs) over ∙ append-nil g.done in
    subst (Wrote old new) (sym all) (so_far script now old new host n g)

pub going_stops : (o now old new : Option (List ℕ)) (host : HostState) (n m : ℕ) (line : List ℕ) → IfSome o (λ script. Going script now old new host n)
    → BeginsWithLine now line → line ≢ [] → read_line (n == 0) (strip_last 10 line) ≡ None → n + 1 ≡ m → IfSome o (λ script. EndsAtLine m script old new)
going_stops None now old new host n m line going taken some unread number = tt
going_stops (Some script) now old new host n m line going taken some unread number =
    let g : Going script now old new host n = going in
    record {
      before = g.done;
      line = strip_last 10 line;
      rest = lines_of (drop_through 10 g.rest);
      lines = g.lines ∙ ap (λ ls. g.done ++ ls) (first_line_is script now old new host n g line taken some);
      number = omega (arith, g.number, number);
      unread = ap (λ b. read_line b (strip_last 10 line)) (first_is g.done n g.number) ∙ unread;
      wrote = so_far script now old new host n g;
    }

pub going_among : (o now old new : Option (List ℕ)) (host : HostState) (n : ℕ) → IfSome o (λ script. Going script now old new host n) → IfSome o (λ script. EndsEarly script old new)
going_among None now old new host n going = tt
going_among (Some script) now old new host n going =
    let g : Going script now old new host n = going in
    record { before = g.done; rest = lines_of g.rest; lines = g.lines; answered = so_far script now old new host n g }

-- the answers of the lines that are done are written whole
pub going_whole : (o now old new : Option (List ℕ)) (host : HostState) (n : ℕ) → IfSome o (λ script. Going script now old new host n)
    → IfSome o (λ script. EndsCut script old new)
going_whole None now old new host n going = tt
going_whole (Some script) now old new host n going =
    let g : Going script now old new host n = going in
    record {
      before = g.done;
      rest = lines_of g.rest;
      lines = g.lines;
      answered = record {
        pool = g.pool;
        turns = g.turns;
        last = host;
        read = g.read;
        lived = all_lived (first_host g.pool) host g.turns g.lived;
        text = front_of_all old new (flat_map answer_line (told_in g.pool g.turns)) g.text;
      };
    }

-- the answer of one more line is not written whole
pub going_cut : (o now next old mid new : Option (List ℕ)) (before after : HostState) (n : ℕ) (line : List ℕ) (q : Asked) (a : LineAnswer)
    → IfSome o (λ script. Going script now old mid before n) → BeginsWithLine now line → DropsThrough now next 10 → line ≢ []
    → read_line (n == 0) (strip_last 10 line) ≡ Some q → Tells before q a after → AppendsFront mid new (answer_line a)
    → IfSome o (λ script. EndsCut script old new)
going_cut None now next old mid new before after n line q a going taken drops some is tells cut = tt
going_cut (Some script) now next old mid new before after n line q a going taken drops some is tells cut =
    let g : Going script now old mid before n = going in
    let whole : Going script next old (append_known mid (answer_line a)) after (n + 1) =
    going_asked script now next old mid (append_known mid (answer_line a)) before after n line g taken drops some q a is tells
    (appends_known mid (answer_line a)) in
    record {
      before = whole.done;
      rest = lines_of whole.rest;
      lines = whole.lines;
      answered = record {
        pool = whole.pool;
        turns = whole.turns;
        last = after;
        read = whole.read;
        lived = all_lived (first_host whole.pool) after whole.turns whole.lived;
        text =
            front_behind old mid new (flat_map answer_line (told_in g.pool g.turns))
            (flat_map answer_line (told_in whole.pool whole.turns)) (answer_line a) g.text whole.text cut;
      };
    }

-- a fault that is not that of a line
pub going_fault : {T : Type 0} (r : Result T ReplayFault) (f : ReplayFault) (o now old new : Option (List ℕ))
    (host : HostState) (n : ℕ) → IsErr r × IsErrAnd r (λ e. e ≡ f) → ((m : ℕ) → f ≢ fault.Line m)
    → IfSome o (λ script. Going script now old new host n) → Replays o old new r
going_fault (Ok end) f o now old new host n is named going = absurd (true≢false (sym is.0))
going_fault (Err (fault.Line m)) f o now old new host n is named going = absurd (named m (sym is.1))
going_fault (Err fault.Io) f o now old new host n is named going = going_whole o now old new host n going
going_fault (Err fault.Memory) f o now old new host n is named going = going_among o now old new host n going

-- ---- a line that is too long

too_long_unread : (first : Bool) (text : List ℕ) → max_script_line < length text → read_line first text ≡ None
unfolding read_words
too_long_unread first text long = rw (lt-ltb max_script_line (length text) long) refl

pub going_long : (o now old new : Option (List ℕ)) (host : HostState) (n m : ℕ) → IfSome o (λ script. Going script now old new host n)
    → BeginsTooLong now → n + 1 ≡ m → IfSome o (λ script. EndsAtLine m script old new)
going_long None now old new host n m going long number = tt
going_long (Some script) now old new host n m going long number =
    let g : Going script now old new host n = going in
    let line = take_through 10 g.rest in
    let long_line : max_script_line < length (strip_last 10 line) = subst BeginsTooLong g.remains long in
    let taken : BeginsWithLine now line = subst (λ o. BeginsWithLine o line) (sym g.remains) refl in
    let some : line ≢ [] = λ e. not_short (ap (λ l. length (strip_last 10 l)) e) long_line in
    going_stops (Some script) now old new host n m line g taken some (too_long_unread (n == 0) (strip_last 10 line) long_line) number
  where
    not_short : {k : ℕ} → k ≡ 0 → max_script_line < k → ⊥
    not_short e h = omega (arith, e, h)
