use Rattle.std.proofs.Common.{◌≡◌, Some, take}
use Rattle.std.specs.Prelude.{map}
use Rattle.ti_vmop.specs.Turns.{cells_of}
use Rattle.ti_vmop.proofs.global_stops.listed_desks.Given as goal

-- those so far
abbrev pub invariant-loop-i : goal.invariant-loop-i
invariant-loop-i l = map (λ p. Some p.cell) l.listed.items ≡ cells_of (take l.i l.threads) l.desks
