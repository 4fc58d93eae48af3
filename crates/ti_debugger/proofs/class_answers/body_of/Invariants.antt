use Rattle.std.specs.Prelude.{◌≡◌, map, take}
use Rattle.ti_debugger.specs.Replies.{known_class}
use Rattle.ti_debugger.proofs.ClassLaws.{row_class}
use Rattle.ti_debugger.proofs.class_answers.body_of.Given as goal

abbrev pub invariant-loop-known : goal.invariant-loop-known
invariant-loop-known l = map row_class l.rows.items ≡ map known_class (take l.known-index l.classes)
