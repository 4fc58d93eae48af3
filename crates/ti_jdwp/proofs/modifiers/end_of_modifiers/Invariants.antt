use Rattle.std.proofs.Common.{◌≡◌, ◌-◌}
use Rattle.ti_jdwp.specs.Modifiers.{modifiers_end}
use Rattle.ti_jdwp.proofs.modifiers.end_of_modifiers.Given as goal

abbrev pub invariant-loop : goal.invariant-loop
invariant-loop l = modifiers_end (l.count - l.counter) l.end l.bytes ≡ modifiers_end l.fn.count l.fn.at l.bytes
