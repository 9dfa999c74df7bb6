use Rattle.std.proofs.Common.{rules}
use Rattle.gateway_http.proofs.ReadingLemmas.{kept_nothing, passed_over, read_on, read_whole}
use Rattle.gateway_http.proofs.reading.Reading.poll_whole.Goals as goal

pub returns-clause-read : goal.returns-clause-read
returns-clause-read g c = kept_nothing c.args.self.now c.poll_share.new.self c.poll_share.ensures.kept_all

pub returns-in-loop-clause-read : goal.returns-in-loop-clause-read
returns-in-loop-clause-read g c =
    let shared = kept_nothing c.args.self.now c.poll_share.new.self c.poll_share.ensures.kept_all in
    let looped = read_on c.args.self.now c.poll_share.new.self c.loop.self shared c.loop.invariant.1
    in read_on c.args.self.now c.loop.self c.poll_piece.new.self looped (search rules)

pub returns-in-Ok-None-clause-read : goal.returns-in-Ok-None-clause-read
returns-in-Ok-None-clause-read g c =
    let shared = kept_nothing c.args.self.now c.poll_share.new.self c.poll_share.ensures.kept_all in
    let looped = read_on c.args.self.now c.poll_share.new.self c.loop.self shared c.loop.invariant.1
    in read_whole c.args.self.now c.loop.self c.poll_piece.new.self looped (search rules)

pub returns-then-self-gt-MAX_PASSED-clause-read : goal.returns-then-self-gt-MAX_PASSED-clause-read
returns-then-self-gt-MAX_PASSED-clause-read g c =
    let shared = kept_nothing c.args.self.now c.poll_share.new.self c.poll_share.ensures.kept_all in
    let looped = read_on c.args.self.now c.poll_share.new.self c.loop.self shared c.loop.invariant.1 in
    let on = read_on c.args.self.now c.loop.self c.poll_piece.new.self looped (search rules)
    in passed_over c.args.self.now c.poll_piece.new.self (search rules) on
