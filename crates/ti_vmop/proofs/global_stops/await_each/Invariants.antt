use Rattle.std.proofs.Common.{[], take}
use Rattle.ti_vmop.specs.Turns.{AtEach, AllStand}
use Rattle.ti_vmop.proofs.global_stops.await_each.Given as goal

abbrev pub invariant-loop-i : goal.invariant-loop-i
invariant-loop-i g l = AtEach (take l.i l.threads) l.initial.desks l.desks (λ e. []) × AllStand (take l.i l.threads) l.desks
