use Rattle.std.specs.Prelude.{◌≡◌, map, take}
use Rattle.ti_debugger.specs.Replies.{found_in, known_class}
use Rattle.ti_debugger.proofs.class_answers.found_in.Given as goal

abbrev pub invariant-loop-known : goal.invariant-loop-known
invariant-loop-known l = l.found.items ≡ found_in l.signature (map known_class (take l.known-index l.classes))
