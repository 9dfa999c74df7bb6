-- An answer line that is not written whole, by the piece at which the writer failed.
use Rattle.std.proofs.Common.{◌≡◌, ◌∙◌, ap, refl, sym, subst, ℕ, Bool, true, false, List, [], ◌∷◌, ◌++◌, Option, decimal, codes, if◌then◌else◌}
use Rattle.std.specs.Io.KnownBytes.{Appends}
use Rattle.std.specs.Io.BufRead.{ends_with_byte}
use Rattle.tenant_rules.specs.declared.fault.OperatorFault.{OperatorFault}
use Rattle.host_front.specs.declared.line.LineAnswer.{LineAnswer}
use Rattle.host_front.specs.declared.line.LineAnswer.TheVariants.{Event, No}
use Rattle.etcd_model.specs.ReplyText.{Answer}
use Rattle.script_replay.specs.Answers.{answer_line, body_line, ended, word_of}
use Rattle.script_replay.specs.Fronts.{AppendsFront}
use Rattle.script_replay.proofs.FrontLemmas.{front_of_first, front_of_next}

-- ---- a fault

module _ (answer : LineAnswer) (fault : OperatorFault) (word : List ℕ) (is : answer ≡ No fault) (named : word ≡ word_of fault) where
  no_line : answer_line answer ≡ codes "no " ++ word ++ 10 ∷ []
  no_line = ap answer_line is ∙ ap (λ w. codes "no " ++ w ++ 10 ∷ []) (sym named)

  pub no_cut : (old new : Option (List ℕ)) → AppendsFront old new (codes "no ") → AppendsFront old new (answer_line answer)
  no_cut old new f =
      subst (AppendsFront old new) (sym no_line) (front_of_first old new (codes "no ") (word ++ 10 ∷ []) f)

  pub word_cut : (old mid new : Option (List ℕ)) → Appends old mid (codes "no ") → AppendsFront mid new word
      → AppendsFront old new (answer_line answer)
  word_cut old mid new first f =
      subst (AppendsFront old new) (sym no_line)
      (front_of_next old mid new (codes "no ") (word ++ 10 ∷ []) first (front_of_first mid new word (10 ∷ []) f))

  pub end_cut : (old mid late new : Option (List ℕ)) → Appends old mid (codes "no ") → Appends mid late word
      → AppendsFront late new (10 ∷ []) → AppendsFront old new (answer_line answer)
  end_cut old mid late new first next f =
      subst (AppendsFront old new) (sym no_line)
      (front_of_next old mid new (codes "no ") (word ++ 10 ∷ []) first (front_of_next mid late new word (10 ∷ []) next f))

-- ---- an event

module _ (answer : LineAnswer) (event : Answer) (digits : List ℕ) (is : answer ≡ Event event)
    (text : digits ≡ decimal event.status) where
  event_line : answer_line answer ≡ digits ++ body_line event.body
  event_line = ap answer_line is ∙ ap (λ d. d ++ body_line event.body) (sym text)

  pub status_cut : (old new : Option (List ℕ)) → AppendsFront old new digits → AppendsFront old new (answer_line answer)
  status_cut old new f =
      subst (AppendsFront old new) (sym event_line) (front_of_first old new digits (body_line event.body) f)

  pub told_cut : (old mid new : Option (List ℕ)) (body : List ℕ) → body ≡ event.body → Appends old mid digits
      → AppendsFront mid new (body_line body) → AppendsFront old new (answer_line answer)
  told_cut old mid new body same first f =
      subst (AppendsFront old new) (sym event_line)
      (front_of_next old mid new digits (body_line event.body) first (subst (λ b. AppendsFront mid new (body_line b)) same f))

-- ---- a body

pub space_cut : (old new : Option (List ℕ)) (body : List ℕ) → (body ≡ [] → ⊥) → AppendsFront old new (32 ∷ [])
    → AppendsFront old new (body_line body)
space_cut old new [] some f = absurd (some refl)
space_cut old new (b ∷ bs) some f = front_of_first old new (32 ∷ []) (ended (b ∷ bs)) f

ended_cut : (old new : Option (List ℕ)) (body : List ℕ) (whole : Bool) → AppendsFront old new body
    → AppendsFront old new (if whole then body else body ++ 10 ∷ [])
ended_cut old new body true f = f
ended_cut old new body false f = front_of_first old new body (10 ∷ []) f

pub body_cut : (old mid new : Option (List ℕ)) (body : List ℕ) → (body ≡ [] → ⊥) → Appends old mid (32 ∷ [])
    → AppendsFront mid new body → AppendsFront old new (body_line body)
body_cut old mid new [] some space f = absurd (some refl)
body_cut old mid new (b ∷ bs) some space f =
    front_of_next old mid new (32 ∷ []) (ended (b ∷ bs)) space
    (ended_cut mid new (b ∷ bs) (ends_with_byte 10 (b ∷ bs)) f)

-- the newline behind a body that has none
pub newline_cut : (old mid late new : Option (List ℕ)) (body : List ℕ) → (body ≡ [] → ⊥)
    → ends_with_byte 10 body ≡ false → Appends old mid (32 ∷ []) → Appends mid late body
    → AppendsFront late new (10 ∷ []) → AppendsFront old new (body_line body)
newline_cut old mid late new [] some unended space text f = absurd (some refl)
newline_cut old mid late new (b ∷ bs) some unended space text f =
    front_of_next old mid new (32 ∷ []) (ended (b ∷ bs)) space
    (subst (λ whole. AppendsFront mid new (if whole then b ∷ bs else (b ∷ bs) ++ 10 ∷ [])) (sym unended)
    (front_of_next mid late new (b ∷ bs) (10 ∷ []) text f))
