-- A turn takes a part of the last piece, up to the end of a case, or reads the next one.
use Rattle.std.proofs.Common.{◌≡◌, ◌≤◌, length, take, arith, length-take, length-take-le}
use Rattle.replay.specs.Batch.{Takes, refilled_ok, taken_ok}
use Rattle.replay.proofs.step.Goals as goal

pub returns-then-state-till-clause-turn : goal.returns-then-state-till-clause-turn
returns-then-state-till-clause-turn g c =
    let s = c.args.state in
    let buffer = c.args.buffer.now in
    let t = c.taken-next.ensures in
    let long : length (take s.till buffer) ≡ s.till = length-take-le s.till buffer (omega arith) in
    let takes : Takes buffer c.args.text.now s c.taken-next.new.text c.taken-next.result =
    record { some = omega (arith, c.if-state-till.true); cut = t.cut; count = t.count; put = t.kept; till = t.rest.0; more = t.rest.1 } in
    taken_ok c.run.result _ _ _ buffer c.args.text.now c.taken-next.new.text s c.taken-next.result t.within.1 takes c.run.ensures.rested c.run.ensures.printed

pub returns-clause-turn : goal.returns-clause-turn
returns-clause-turn g c =
    let s = c.args.state in
    let buffer = c.args.buffer.now in
    let f = c.refilled.ensures in
    let done : length (take s.till buffer) ≤ s.from = omega (arith, length-take s.till buffer, c.if-state-till.false) in
    refilled_ok c.refilled.result _ _ _ buffer c.args.text.now c.refilled.new.buffer s done (omega arith) f.state f.more f.came f.none_came
