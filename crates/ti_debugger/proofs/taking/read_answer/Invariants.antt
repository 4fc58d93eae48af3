use Rattle.std.specs.Prelude.{◌≡◌, drop}
use Rattle.ti_debugger.specs.Questions.{nothing_read, read_all}
use Rattle.ti_debugger.specs.Taking.{reading_of}
use Rattle.ti_debugger.proofs.taking.read_answer.Given as goal

abbrev pub invariant-loop-told : goal.invariant-loop-told
invariant-loop-told l = read_all l.given (drop l.told-index l.values) (reading_of l.taken l.rest) ≡ read_all l.given l.values (nothing_read l.texts)
