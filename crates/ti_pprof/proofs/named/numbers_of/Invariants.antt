use Rattle.std.specs.Prelude.{◌≡◌, ◌++◌, drop, map}
use Rattle.std.specs.String.{string_bytes}
use Rattle.ti_pprof.specs.Strings.{number_of, strings_in}
use Rattle.ti_pprof.proofs.named.numbers_of.Given as goal

abbrev pub invariant-loop-text : goal.invariant-loop-text
invariant-loop-text l = l.numbers.items ++ map (number_of (strings_in l.texts)) (map string_bytes (drop l.text-index l.list)) ≡ map (number_of (strings_in l.texts)) (map string_bytes l.list)
