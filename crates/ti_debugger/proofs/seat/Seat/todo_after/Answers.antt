use Rattle.ti_debugger.proofs.seat.Seat.todo_after.Goals as goal

pub returns-in-Close : goal.returns-in-Close
returns-in-Close c = c.closing.ensures _
