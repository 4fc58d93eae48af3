use Rattle.std.specs.Prelude.{◌≡◌, ◌++◌, drop}
use Rattle.ti_pprof.specs.Wire.{number_fields}
use Rattle.ti_pprof.proofs.wire.push_numbers.Given as goal

abbrev pub invariant-loop-field : goal.invariant-loop-field
invariant-loop-field l = l.out.items ++ number_fields (drop l.field-index l.fields) ≡ l.fn.out.items ++ number_fields l.fields
