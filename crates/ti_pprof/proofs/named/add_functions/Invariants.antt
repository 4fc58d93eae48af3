use Rattle.std.specs.Prelude.{◌≡◌, drop, fold}
use Rattle.std.specs.List.{flat_map}
use Rattle.ti_pprof.specs.Profile.{texts_of_function}
use Rattle.ti_pprof.specs.Strings.{strings_in, with_string}
use Rattle.ti_pprof.proofs.named.add_functions.Given as goal

abbrev pub invariant-loop-function : goal.invariant-loop-function
invariant-loop-function l = fold with_string (strings_in l.texts) (flat_map texts_of_function (drop l.function-index l.functions)) ≡ fold with_string (strings_in l.fn.texts) (flat_map texts_of_function l.functions)
