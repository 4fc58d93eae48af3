use Rattle.std.proofs.Common.{inl, inr}
use Rattle.ti_jdwp.specs.Asking.{reading_of, no_filters, steps}
use Rattle.ti_jdwp.proofs.Stepping.{goes_on, ends, is_done}
use Rattle.ti_jdwp.proofs.asking.read_each.Goals as goal

pub returns-in-Err-clause-err : goal.returns-in-Err-clause-err
returns-in-Err-clause-err c = elim c.in-Err.ensures.err [
  | inl none ↦ inl none
  | inr is ↦ inr (ends c.args.kind c.args.standing c.args.bytes.now c.args.count c.loop.counter c.loop.place (reading_of c.loop.filters) c.in-Err.error (steps c.args.count c.args.kind c.args.standing c.args.bytes.now c.args.at no_filters) c.loop-test.true is c.loop.invariant)
]

pub loop-preserved : goal.loop-preserved
loop-preserved c =
    goes_on c.args.kind c.args.standing c.args.bytes.now c.args.count c.loop.counter c.loop.place (reading_of c.loop.filters) (reading_of c.in-Ok.read.0, c.in-Ok.read.1) (steps c.args.count c.args.kind c.args.standing c.args.bytes.now c.args.at no_filters) c.loop-test.true c.in-Ok.ensures.ok c.loop.invariant

pub returns-clause-ok : goal.returns-clause-ok
returns-clause-ok c =
    is_done c.args.kind c.args.standing c.args.bytes.now c.args.count c.loop.counter c.loop.place (reading_of c.loop.filters) (steps c.args.count c.args.kind c.args.standing c.args.bytes.now c.args.at no_filters) c.loop-test.false c.loop.invariant
