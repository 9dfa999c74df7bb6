use Rattle.std.proofs.Common.{◌≡◌, sym, subst, arith, length, take, ◌+◌}
use Rattle.std.proofs.lemmas.List.{take_all}
use Rattle.host_front.specs.Lines.{line_turns_of}
use Rattle.host_front.specs.Living.{AreLived}
use Rattle.host_front.proofs.Lived.{lived_more, all_lived}
use Rattle.host_front.proofs.front.Front.live_all.Goals as goal

pub loop-line-preserved : goal.loop-line-preserved
loop-line-preserved c =
    let old = c.args.self.now.host in
    let lines = c.args.lines.now in
    let n = c.loop-line.line-index in
    let new = c.live-answer.new.self.host in
    let told = c.loop-line.answers.items in
    let count : length told ≡ n = omega (arith, c.loop-line.answers.ok.0, c.loop-line.invariant.count) in
    record {
      lived =
          subst (λ as'. AreLived old (line_turns_of (take (n + 1) lines) as') new) (sym c.push_reserved.ensures.items)
          (lived_more old _ new lines n c.line-item.result told c.live-answer.result
          c.loop-line.invariant.lived c.live-answer.ensures count c.loop-line-test.true c.line-item.is);
      count = omega arith;
      room = omega arith;
    }

pub returns-clause-lived : goal.returns-clause-lived
returns-clause-lived c =
    let old = c.args.self.now.host in
    let new = c.loop-line.self.host in
    let all = take_all c.loop-line.line-index c.args.lines.now c.loop-line-test.false in
    let lived = c.loop-line.invariant.lived in
    all_lived _ _ _ (subst (λ ls. AreLived old (line_turns_of ls c.loop-line.answers.items) new) all lived)
