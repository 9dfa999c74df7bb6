use denote.Enum.Bare.{same_true}
use Rattle.std.specs.contracts.io.ErrorKind.{the_type}
use Rattle.std.proofs.Common.{rules, ◌≡◌, ◌∙◌, sym, subst, ap, arith, ℕ, List, drop, Bor}
use Rattle.std.proofs.lemmas.List.{length-drop, take_all}
use Rattle.script_replay.specs.Fronts.{LeavesRest}
use Rattle.script_replay.proofs.FrontLemmas.{leaves_kept, leaves_more}
use Rattle.script_replay.proofs.writer.AnswerWriter.write_bytes.Goals as goal
use Rattle.script_replay.proofs.writer.AnswerWriter.write_bytes.Goals.{in-Ok, in-Err}

pub loop-preserved : goal.loop-preserved
loop-preserved g c =
    let leaves = λ (rest : List ℕ). LeavesRest (g.W.Write.contents c.args.self.now.stream) (g.W.Write.contents c.write_once.new.self.stream) c.args.bytes.now rest in
    elim c.match-write_once.branch [
      | in-Ok w ↦
          let rest = drop w.in-Ok.taken c.loop.rest.now in
          let is : c.match-write_once.rest.now ≡ rest =
          ap (λ (r : Bor (List ℕ)). r.now) w.rest-is ∙ take_all _ rest (omega (arith, length-drop w.in-Ok.taken c.loop.rest.now)) in
          record {
            leaves = subst leaves (sym is) (leaves_more _ _ _ _ _ _ c.loop.invariant.leaves w.in-Ok.ensures.bytes);
            unmarked = w.in-Ok.ensures.unmarked ∙ c.loop.invariant.unmarked;
          }
      | in-Err w ↦
          let is : c.match-write_once.rest.now ≡ c.loop.rest.now = ap (λ (r : Bor (List ℕ)). r.now) w.rest-is in
          let interrupted = sym w.kind.ensures ∙ same_true the_type (search rules) _ _ (sym w.eq.ensures ∙ w.if-eq.true) in
          record {
            leaves = subst leaves (sym is) (leaves_kept _ _ _ _ _ c.loop.invariant.leaves w.in-Err.ensures.bytes);
            unmarked = w.in-Err.ensures.interrupted interrupted ∙ c.loop.invariant.unmarked;
          }
    ]
