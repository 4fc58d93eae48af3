use Rattle.std.proofs.Common.{◌≡◌, true, take}
use Rattle.ti_vmop.specs.Turns.{are_paid}
use Rattle.ti_vmop.proofs.global_stops.are_paid_for.Given as goal

abbrev pub invariant-loop-i : goal.invariant-loop-i
invariant-loop-i l = are_paid l.state (take l.i l.threads) ≡ true
