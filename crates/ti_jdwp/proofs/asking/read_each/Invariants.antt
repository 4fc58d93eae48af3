use Rattle.std.proofs.Common.{◌≡◌, ◌-◌}
use Rattle.ti_jdwp.specs.Asking.{steps, reading_of, no_filters}
use Rattle.ti_jdwp.proofs.asking.read_each.Given as goal

-- what is left gives what all of them give
abbrev pub invariant-loop : goal.invariant-loop
invariant-loop l = steps (l.count - l.counter) l.kind l.standing l.bytes l.place (reading_of l.filters) ≡ steps l.fn.count l.fn.kind l.fn.standing l.fn.bytes l.fn.at no_filters
