use Rattle.std.proofs.Common.{◌≡◌}
use Rattle.ti_wanted.proofs.watch.Watch.free_place.Given as goal

abbrev pub invariant-loop : goal.invariant-loop
invariant-loop l = l.self-inside.places ≡ l.initial.self-inside.places
