-- What a caller is told to do with the connection.
use Rattle.std.specs.Prelude.{◌≡◌, ◌<◌, true, is_some, None, [], length}
use Rattle.ti_jdwp.specs.Talks.{Talk}
use Rattle.ti_debugger.specs.Questions.{question_in}
use Rattle.ti_debugger.specs.declared.asked.Asked.{Asked}
use Rattle.ti_debugger.specs.declared.seat.Todo.{Todo}
use Rattle.ti_debugger.specs.declared.seat.Todo.TheVariants as todo

-- with this question, if there is one
abbrev pub Says : Asked → Talk → Todo → Type 0
Says a t todo.Write = 0 < length t.bytes.output
Says a t todo.Close = t.bytes.output ≡ []
Says a t todo.Wait = (t.bytes.output ≡ []) × (question_in a ≡ None)
Says a t todo.Ask = (t.bytes.output ≡ []) × (is_some (question_in a) ≡ true)
