use Rattle.std.specs.Prelude.{◌≡◌, ◌++◌, drop}
use Rattle.ti_monitor.specs.Texts.{escaped}
use Rattle.ti_monitor.proofs.texts.push_escaped.Given as goal

abbrev pub invariant-loop-byte : goal.invariant-loop-byte
invariant-loop-byte l = l.out.items ++ escaped (drop l.byte-index l.bytes) ≡ l.fn.out.items ++ escaped l.bytes
