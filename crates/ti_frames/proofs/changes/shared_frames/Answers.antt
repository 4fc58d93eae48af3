use Rattle.std.proofs.Common.{arith, sym, ◌∙◌}
use Rattle.ti_frames.proofs.ChangeLaws.{shared_stop, shared_more, shared_all}
use Rattle.ti_frames.proofs.changes.shared_frames.Goals as goal

pub returns-then-not-is_same-clause-shared : goal.returns-then-not-is_same-clause-shared
returns-then-not-is_same-clause-shared c =
    shared_stop c.args.old.now c.args.new.now c.loop-i.i _ c.loop-i.invariant (omega (arith, c.loop-i-test.true, c.min-most.ensures)) (omega (arith, c.loop-i-test.true, c.min-most.ensures))
    (sym c.is_same.ensures ∙ c.if-not-is_same.true)

pub loop-i-preserved : goal.loop-i-preserved
loop-i-preserved c =
    shared_more c.args.old.now c.args.new.now c.loop-i.i _ c.loop-i.invariant (omega (arith, c.loop-i-test.true, c.min-most.ensures)) (omega (arith, c.loop-i-test.true, c.min-most.ensures))
    (sym c.is_same.ensures ∙ c.if-not-is_same.false)

pub returns-clause-shared : goal.returns-clause-shared
returns-clause-shared c =
    let w = shared_all c.args.old.now c.args.new.now c.loop-i.i c.loop-i.invariant (omega (arith, c.loop-i-test.false, c.min-most.ensures)) in
    omega (arith, c.loop-i-test.false, c.loop-i.auto.i-end, w)
