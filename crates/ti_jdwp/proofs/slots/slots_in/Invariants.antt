use Rattle.std.proofs.Common.{◌≡◌, ◌*◌, ◌-◌, ◌++◌}
use Rattle.ti_jdwp.specs.Slots.{slots_from}
use Rattle.ti_jdwp.proofs.slots.slots_in.Given as goal

abbrev pub invariant-loop-i : goal.invariant-loop-i
invariant-loop-i l = l.slots.items ++ slots_from (l.count - l.i) (5 * l.i) l.bytes ≡ slots_from l.count 0 l.bytes
