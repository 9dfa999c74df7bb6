-- A front of what was to be written, piece by piece.
use Rattle.std.proofs.Common.{◌≡◌, ◌∙◌, sym, ap, refl, subst, ℕ, List, [], ◌++◌, append_assoc, append-nil, take, drop, Option, None, Some}
use Rattle.std.proofs.lemmas.List.{append_cancel_left, take-append-drop}
use Rattle.std.proofs.KnownBytes.{Appends-kept, Appends-nil, Appends-trans}
use Rattle.std.specs.Io.KnownBytes.{Appends, Keeps, append_known}
use Rattle.script_replay.specs.Fronts.{AppendsFront, LeavesRest}

-- ---- one piece

pub leaves_all : (a : Option (List ℕ)) (bs : List ℕ) → LeavesRest a a bs bs
leaves_all a bs = record { front = []; is = refl; text = Appends-nil a }

pub leaves_kept : (old mid new : Option (List ℕ)) (bs rest : List ℕ) → LeavesRest old mid bs rest → Keeps mid new
    → LeavesRest old new bs rest
leaves_kept old mid new bs rest l kept =
    record { front = l.front; is = l.is; text = Appends-kept old mid new l.front l.text kept }

pub leaves_more : (old mid new : Option (List ℕ)) (bs rest : List ℕ) (n : ℕ) → LeavesRest old mid bs rest
    → Appends mid new (take n rest) → LeavesRest old new bs (drop n rest)
leaves_more old mid new bs rest n l wrote = record {
  front = l.front ++ take n rest;
  is =
      l.is ∙ ap (λ r. l.front ++ r) (sym (take-append-drop n rest))
      ∙ sym (append_assoc l.front (take n rest) (drop n rest));
  text = Appends-trans old mid new l.front (take n rest) l.text wrote;
}

pub leaves_none : (old new : Option (List ℕ)) (bs rest : List ℕ) → LeavesRest old new bs rest → rest ≡ []
    → Appends old new bs
leaves_none old new bs rest l none =
    subst (Appends old new) (sym (l.is ∙ ap (λ r. l.front ++ r) none ∙ append-nil l.front)) l.text

-- ---- more pieces

pub front_of_first : (old new : Option (List ℕ)) (bs cs : List ℕ) → AppendsFront old new bs → AppendsFront old new (bs ++ cs)
front_of_first old new bs cs f =
    (f.0 ++ cs, record { front = f.1.front; is = ap (λ l. l ++ cs) f.1.is ∙ append_assoc f.1.front f.0 cs; text = f.1.text })

pub front_of_next : (old mid new : Option (List ℕ)) (bs cs : List ℕ) → Appends old mid bs → AppendsFront mid new cs
    → AppendsFront old new (bs ++ cs)
front_of_next old mid new bs cs wrote f = (
  f.0,
  record {
    front = bs ++ f.1.front;
    is = ap (λ l. bs ++ l) f.1.is ∙ sym (append_assoc bs f.1.front f.0);
    text = Appends-trans old mid new bs f.1.front wrote f.1.text;
  },
)

pub front_of_all : (old new : Option (List ℕ)) (bs : List ℕ) → Appends old new bs → AppendsFront old new bs
front_of_all old new bs wrote = ([], record { front = bs; is = sym (append-nil bs); text = wrote })

-- ---- behind what is known to be written

pub appends_known : (a : Option (List ℕ)) (bs : List ℕ) → Appends a (append_known a bs) bs
appends_known None bs = tt
appends_known (Some xs) bs = refl

-- all is what was told and then bs, so a front of bs behind what was told is one of all
pub front_behind : (old mid new : Option (List ℕ)) (told all bs : List ℕ) → Appends old mid told
    → Appends old (append_known mid bs) all → AppendsFront mid new bs → AppendsFront old new all
front_behind None mid new told all bs wrote whole f = (all, record { front = []; is = refl; text = tt })
front_behind (Some xs) None new told all bs wrote whole f = absurd wrote
front_behind (Some xs) (Some ys) None told all bs wrote whole f = absurd f.1.text
front_behind (Some xs) (Some ys) (Some zs) told all bs wrote whole f =
    let is : all ≡ told ++ bs =
    append_cancel_left xs all (told ++ bs) (sym whole ∙ ap (λ l. l ++ bs) wrote ∙ append_assoc xs told bs) in (
      f.0,
      record {
        front = told ++ f.1.front;
        is = is ∙ ap (λ l. told ++ l) f.1.is ∙ sym (append_assoc told f.1.front f.0);
        text = f.1.text ∙ ap (λ l. l ++ f.1.front) wrote ∙ append_assoc xs told f.1.front;
      },
    )
