use Rattle.std.specs.Prelude.{◌≡◌, ◌++◌, drop}
use Rattle.ti_monitor.specs.Texts.{plain_json}
use Rattle.ti_monitor.proofs.texts.push_json.Given as goal

abbrev pub invariant-loop-byte : goal.invariant-loop-byte
invariant-loop-byte l = l.out.items ++ plain_json (drop l.byte-index l.bytes) ≡ l.fn.out.items ++ plain_json l.bytes
