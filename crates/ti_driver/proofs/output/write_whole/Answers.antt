use Rattle.std.proofs.Common.{◌+◌, arith, length-drop}
use Rattle.std.proofs.lemmas.List.{take_rest}
use Rattle.ti_driver.proofs.StreamLaws.{taken_more, front_taken}
use Rattle.ti_driver.proofs.output.write_whole.Goals as goal

pub loop-written-preserved : goal.loop-written-preserved
loop-written-preserved g c =
    let count = rw (take_rest c.args.bytes.now c.loop-written.written) at c.in-Ok.ensures.bound in
    let bytes = rw (take_rest c.args.bytes.now c.loop-written.written) at c.in-Ok.ensures.bytes in
    record {
      within = omega (arith, length-drop c.loop-written.written c.args.bytes.now);
      taken = taken_more _ _ _ c.loop-written.written c.in-Ok.count c.args.bytes.now c.loop-written.invariant.taken bytes;
    }

pub returns-in-Ok-eq0-clause-front : goal.returns-in-Ok-eq0-clause-front
returns-in-Ok-eq0-clause-front g c =
    let none = rw (take_rest c.args.bytes.now c.loop-written.written) at c.in-Ok-eq0.ensures.bytes in
    front_taken _ _ (c.loop-written.written + c.in-Ok-eq0.field-0) c.args.bytes.now
    (taken_more _ _ _ c.loop-written.written c.in-Ok-eq0.field-0 c.args.bytes.now c.loop-written.invariant.taken none)
