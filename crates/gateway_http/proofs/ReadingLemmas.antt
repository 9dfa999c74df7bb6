-- How the body of a request is read, piece by piece.
use Rattle.std.specs.Prelude.{⊤, ◌⊎◌, map, Option, Some, None, IfSome, Ok, Err, IsOk, is_some}
use Rattle.std.proofs.Common.{◌≡◌, ◌∙◌, sym, ap, subst, refl, ℕ, List, [], ◌∷◌, ◌++◌, append_assoc, append-nil, inl, inr, true, true≢false}
use Rattle.futures.specs.Runs.{After, Within}
use Rattle.http_body.specs.declared.frame.Frame.{Frame}
use Rattle.http_body.specs.Frame.{bytes_in, joined_data}
use Rattle.http_body_util.specs.declared.limited.Limited.{Limited}
use Rattle.http_body_util.specs.declared.limited.LimitedError.TheVariants.{LengthLimit}
use Rattle.hyper.specs.declared.body.incoming.Incoming.{Incoming}
use Rattle.gateway_http.specs.declared.reading.Loss.{Loss}
use Rattle.gateway_http.specs.declared.reading.Loss.TheVariants as loss
use Rattle.gateway_http.specs.declared.reading.Reading.{Reading}
use Rattle.gateway_http.specs.Readings.{Came, comes_of, IsBodyOf, IsTooLong, MayLose, IsReadOn, IsWhole, IsKept, IsLost}

-- ---- why a body may be thrown away

abbrev is_there : {A : Type 0} → Option A → Type 0
is_there (Some x) = ⊤
is_there None = ⊥

abbrev why_of : Loss → Option Loss → Loss
why_of other (Some why) = why
why_of other None = other

-- it was thrown away
is_lost : {I : Type 0} (lost : Option Loss) (body : Limited (Incoming I)) (why : Loss) → lost ≡ Some why → MayLose lost body why
is_lost lost body loss.TooLarge is = inl is
is_lost lost body loss.Coded is = is
is_lost lost body loss.NoMemory is = tt

-- what may become of it from now on might have become of it before
lose_from : {I : Type 0} (was now : Option Loss) (old new : Limited (Incoming I)) → (IsTooLong new → IsTooLong old) → ((why : Loss) → now ≡ Some why → MayLose was old why) → (why : Loss) → MayLose now new why → MayLose was old why
lose_from was now old new long lost loss.TooLarge (inl is) = lost loss.TooLarge is
lose_from was now old new long lost loss.TooLarge (inr is) = inr (long is)
lose_from was now old new long lost loss.Coded is = lost loss.Coded is
lose_from was now old new long lost loss.NoMemory is = tt

-- it was thrown away before, or there is no memory
lost_or_memory : {I : Type 0} (lost : Option Loss) (body : Limited (Incoming I)) (why : Loss) → (lost ≡ Some why) ⊎ (why ≡ loss.NoMemory) → MayLose lost body why
lost_or_memory lost body why (inl is) = is_lost lost body why is
lost_or_memory lost body why (inr is) = subst (λ w. MayLose lost body w) (sym is) tt

not_none : (lost : Option Loss) → is_some lost ≡ true → lost ≡ None → ⊥
not_none None there none = true≢false (sym there)
not_none (Some why) there none = subst is_there none tt

-- ---- reading on

pub read_on : {I R : Type 0} (one two three : Reading I R) → IsReadOn one two → IsReadOn two three → IsReadOn one three
read_on one two three first then = (
  then.0 ∙ first.0,
  λ lost routed.
      let late = then.1 lost routed in
      let early = first.1 late.0 (subst (λ r. IsOk r) then.0 routed)
      in (early.0, λ body is. early.1 body (late.1 body is)),
  λ why may. first.2 why (then.2 why may),
)

pub read_whole : {I R : Type 0} (one two three : Reading I R) → IsReadOn one two → IsWhole two three → IsWhole one three
read_whole one two three first then = (
  then.0 ∙ first.0,
  λ lost routed.
      let late = then.1 lost routed in
      let early = first.1 late.0 (subst (λ r. IsOk r) then.0 routed)
      in (early.0, early.1 three.read.items late.1),
  λ why is. first.2 why (then.2 why is),
)

-- enough of a body was passed over that was thrown away
pub passed_over : {I R : Type 0} (old new : Reading I R) → is_some new.lost ≡ true → IsReadOn old new → IsWhole old new
passed_over old new there on = (
  on.0,
  λ none routed. elim (not_none new.lost there none) [ ],
  λ why is. on.2 why (is_lost new.lost new.body why is),
)

-- nothing came
pub kept_nothing : {I R : Type 0} (old new : Reading I R) → IsKept old [] new → IsReadOn old new
kept_nothing old new k = (
  k.0,
  λ lost routed.
      let is = k.2 lost routed
      in (
        is.0,
        λ body b. record {
          frames = b.frames;
          ends = subst (λ it. comes_of it (map (λ f. Ok f) b.frames) None) k.1 b.ends;
          is = b.is ∙ ap (λ read. read ++ joined_data b.frames) (is.1 ∙ append-nil old.read.items);
        },
      ),
  lose_from old.lost new.lost old.body new.body (λ long. subst (λ it. IsTooLong it) k.1 long) (λ why is. lost_or_memory old.lost old.body why (k.3 why is)),
)

-- what is lost is kept no more, whatever came
pub lost : {I R : Type 0} (old new : Reading I R) (piece : List ℕ) → IsLost old new → IsKept old piece new
lost old new piece l = (
  l.0,
  l.1,
  λ none routed. elim (subst is_there (sym l.2 ∙ none) tt) [ ],
  λ why is. inr (ap (why_of why) (sym is ∙ l.2)),
)

-- a frame came, and its data was kept
pub kept_frame : {I R : Type 0} (old new : Reading I R) (source : Limited (Incoming I)) (given : Option Came) (frame : Frame (List ℕ)) → given ≡ Some (Ok frame) → IfSome given (λ x. After (comes_of old.body) x (comes_of source)) → (new.route ≡ old.route) × (new.body ≡ source) × (new.lost ≡ None → IsOk new.route → (old.lost ≡ None) × (new.read.items ≡ old.read.items ++ bytes_in frame.kind)) × ((why : Loss) → new.lost ≡ Some why → (old.lost ≡ Some why) ⊎ (why ≡ loss.NoMemory)) → IsReadOn old new
kept_frame old new source given frame gave afters k =
    let after = subst (λ o. IfSome o (λ x. After (comes_of old.body) x (comes_of source))) gave afters
    in (
      k.0,
      λ none routed.
          let is = k.2 none routed
          in (
            is.0,
            λ body b. record {
              frames = frame ∷ b.frames;
              ends = after (map (λ f. Ok f) b.frames) None (subst (λ it. comes_of it (map (λ f. Ok f) b.frames) None) k.1 b.ends);
              is = b.is ∙ ap (λ r. r ++ joined_data b.frames) is.1 ∙ append_assoc old.read.items (bytes_in frame.kind) (joined_data b.frames);
            },
          ),
      lose_from old.lost new.lost old.body new.body
          (λ long. record { frames = frame ∷ long.frames; over = after (map (λ f. Ok f) long.frames) (Some (Err LengthLimit)) (subst (λ it. comes_of it (map (λ f. Ok f) long.frames) (Some (Err LengthLimit))) k.1 long.over) })
          (λ why is. lost_or_memory old.lost old.body why (k.3 why is)),
    )

-- it was read on to these parts of a reading
abbrev ReadOnTo : {I R : Type 0} → Reading I R → Option Loss → Limited (Incoming I) → Type 0
ReadOnTo old lost source =
    (old.route ≡ old.route)
    × (lost ≡ None → IsOk old.route → (old.lost ≡ None) × ((body : List ℕ) → IsBodyOf source old.read.items body → IsBodyOf old.body old.read.items body))
    × ((why : Loss) → MayLose lost source why → MayLose old.lost old.body why)

-- it has to be waited for
pub waited : {I R : Type 0} (old : Reading I R) (source : Limited (Incoming I)) → Within (comes_of old.body) (comes_of source) → ReadOnTo old old.lost source
waited old source within = (
  refl,
  λ none routed. (
    none,
    λ body b. record { frames = b.frames; ends = within (map (λ f. Ok f) b.frames) None b.ends; is = b.is },
  ),
  lose_from old.lost old.lost old.body source
      (λ long. record { frames = long.frames; over = within (map (λ f. Ok f) long.frames) (Some (Err LengthLimit)) long.over })
      (λ why is. is_lost old.lost old.body why is),
)

-- it came to be too long, and is thrown away
pub too_long : {I R : Type 0} (old : Reading I R) (source : Limited (Incoming I)) → comes_of old.body [] (Some (Err LengthLimit)) → ReadOnTo old (Some loss.TooLarge) source
too_long old source over =
    let long : IsTooLong old.body = record { frames = []; over = over }
    in (
      refl,
      λ none routed. elim (subst is_there none tt) [ ],
      lose_from old.lost (Some loss.TooLarge) old.body source (λ other. long) (λ why is. subst (λ w. MayLose old.lost old.body w) (ap (why_of why) is) (inr long)),
    )

-- it has ended
pub ended : {I R : Type 0} (old new : Reading I R) → new.route ≡ old.route → new.read.items ≡ old.read.items → new.lost ≡ old.lost → comes_of old.body [] None → IsWhole old new
ended old new route read lost end = (
  route,
  λ none routed. (
    sym lost ∙ none,
    record {
      frames = [];
      ends = end;
      is = read ∙ sym (append-nil old.read.items);
    },
  ),
  λ why is. is_lost old.lost old.body why (sym lost ∙ is),
)
