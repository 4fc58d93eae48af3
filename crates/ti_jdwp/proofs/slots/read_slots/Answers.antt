use Rattle.std.proofs.Common.{arith, inr, refl}
use Rattle.ti_jdwp.proofs.Slotted.{are_slots, only_these, none_spelled, memory}
use Rattle.ti_jdwp.proofs.slots.read_slots.Goals as goal

pub returns-then-bytes-ne0-clause-err : goal.returns-then-bytes-ne0-clause-err
returns-then-bytes-ne0-clause-err c = inr (refl, none_spelled c.args.bytes.now c.if-bytes-ne0.true)

pub returns-clause-found : goal.returns-clause-found
returns-clause-found c = are_slots c.args.bytes.now c.slots_in.result (λ i. omega (arith, c.type_inv.bytes i)) c.if-bytes-ne0.false c.slots_in.ensures.ok

pub returns-clause-only : goal.returns-clause-only
returns-clause-only c = only_these c.args.bytes.now c.slots_in.result c.if-bytes-ne0.false c.slots_in.ensures.ok

pub returns-clause-err : goal.returns-clause-err
returns-clause-err c = memory c.args.bytes.now c.slots_in.result c.slots_in.ensures.memory
