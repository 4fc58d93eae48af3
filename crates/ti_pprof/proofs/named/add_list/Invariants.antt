use Rattle.std.specs.Prelude.{◌≡◌, drop, fold, map}
use Rattle.std.specs.String.{string_bytes}
use Rattle.ti_pprof.specs.Strings.{strings_in, with_string}
use Rattle.ti_pprof.proofs.named.add_list.Given as goal

abbrev pub invariant-loop-text : goal.invariant-loop-text
invariant-loop-text l = fold with_string (strings_in l.texts) (map string_bytes (drop l.text-index l.list)) ≡ fold with_string (strings_in l.fn.texts) (map string_bytes l.list)
