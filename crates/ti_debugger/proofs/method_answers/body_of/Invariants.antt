use Rattle.std.specs.Prelude.{◌≡◌, map, take}
use Rattle.ti_debugger.specs.MethodReplies.{known_method}
use Rattle.ti_debugger.proofs.MethodLaws.{row_method}
use Rattle.ti_debugger.proofs.method_answers.body_of.Given as goal

abbrev pub invariant-loop-known : goal.invariant-loop-known
invariant-loop-known l = map row_method l.rows.items ≡ map known_method (take l.known-index l.methods)
