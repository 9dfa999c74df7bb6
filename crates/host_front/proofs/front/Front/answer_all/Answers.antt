use Rattle.std.proofs.Common.{◌≡◌, sym, subst, arith, length, take, ◌+◌}
use Rattle.std.proofs.lemmas.List.{take_all}
use Rattle.host_front.specs.Events.{turns_of}
use Rattle.host_front.specs.Isolation.{AreAnswered}
use Rattle.host_front.proofs.Alone.{answered_more, all_alone}
use Rattle.host_front.proofs.front.Front.answer_all.Goals as goal

pub loop-event-preserved : goal.loop-event-preserved
loop-event-preserved c =
    let old = c.args.self.now.host in
    let events = c.args.events.now in
    let n = c.loop-event.event-index in
    let new = c.answer-answer.new.self.host in
    let told = c.loop-event.answers.items in
    let count : length told ≡ n = omega (arith, c.loop-event.answers.ok.0, c.loop-event.invariant.count) in
    record {
      answered =
          subst (λ as'. AreAnswered old (turns_of (take (n + 1) events) as') new) (sym c.push_reserved.ensures.items)
          (answered_more old _ new events n c.event-item.result told c.answer-answer.result
          c.loop-event.invariant.answered c.answer-answer.ensures count c.loop-event-test.true c.event-item.is);
      count = omega arith;
      room = omega arith;
    }

pub returns-clause-alone : goal.returns-clause-alone
returns-clause-alone c =
    let old = c.args.self.now.host in
    let new = c.loop-event.self.host in
    let all = take_all c.loop-event.event-index c.args.events.now c.loop-event-test.false in
    let answered = c.loop-event.invariant.answered in
    all_alone _ _ _ (subst (λ es. AreAnswered old (turns_of es c.loop-event.answers.items) new) all answered)
