use Rattle.std.proofs.Common.{refl}
use Rattle.ti_jdwp.specs.Notes.{starts, ends}
use Rattle.ti_jdwp.specs.SessionRuns.{Happened}
use Rattle.ti_debugger.proofs.TellLaws.{tells_one}
use Rattle.ti_debugger.proofs.seat.Seat.tell.Goals as goal

pub returns-in-ThreadStart-clause-told : goal.returns-in-ThreadStart-clause-told
returns-in-ThreadStart-clause-told c = λ log n. tells_one log n n (Happened _ (starts c.args.life.thread.0) _) _ _ refl c.thread_started-it_counts_what_is_lost.ensures refl

pub returns-in-ThreadEnd-clause-told : goal.returns-in-ThreadEnd-clause-told
returns-in-ThreadEnd-clause-told c = λ log n. tells_one log n n (Happened _ (ends c.args.life.thread.0) _) _ _ refl c.thread_ended-it_counts_what_is_lost.ensures refl
