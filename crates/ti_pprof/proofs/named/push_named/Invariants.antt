use Rattle.std.specs.Prelude.{◌≡◌, ◌+◌, ◌++◌, drop}
use Rattle.ti_pprof.specs.Profile.{functions_from}
use Rattle.ti_pprof.specs.Strings.{strings_in}
use Rattle.ti_pprof.proofs.named.push_named.Given as goal

abbrev pub invariant-loop-function : goal.invariant-loop-function
invariant-loop-function l = record {
  id : l.id ≡ l.function-index + 4;
  rest : l.out.items ++ functions_from (strings_in l.texts) l.id (drop l.function-index l.functions) ≡ l.fn.out.items ++ functions_from (strings_in l.texts) 4 l.functions;
}
