use Rattle.std.specs.Prelude.{◌≡◌, ◌++◌, drop}
use Rattle.ti_pprof.specs.Wire.{varints}
use Rattle.ti_pprof.proofs.wire.push_varints.Given as goal

abbrev pub invariant-loop-number : goal.invariant-loop-number
invariant-loop-number l = l.out.items ++ varints (drop l.number-index l.numbers) ≡ l.fn.out.items ++ varints l.numbers
