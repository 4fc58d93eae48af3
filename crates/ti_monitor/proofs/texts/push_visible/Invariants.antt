use Rattle.std.specs.Prelude.{◌≡◌, ◌++◌, drop}
use Rattle.ti_monitor.specs.Texts.{visible}
use Rattle.ti_monitor.proofs.texts.push_visible.Given as goal

abbrev pub invariant-loop-byte : goal.invariant-loop-byte
invariant-loop-byte l = l.out.items ++ visible (drop l.byte-index l.bytes) ≡ l.fn.out.items ++ visible l.bytes
