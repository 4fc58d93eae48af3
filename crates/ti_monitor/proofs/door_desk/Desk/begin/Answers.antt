use Rattle.ti_monitor.proofs.BookLaws.{books_begun}
use Rattle.ti_monitor.proofs.door_desk.Desk.begin.Goals as goal

pub returns-in-Ok-clause-starts : goal.returns-in-Ok-clause-starts
returns-in-Ok-clause-starts c =
    books_begun c.args.self.now.monitor c.begin.new.self c.args.self.now.tally.rows c.args.request c.in-Ok.reading _ _ _ c.order_of.ensures c.in-Ok.ensures.begun c.in-Ok.ensures.number.0 c.in-Ok.ensures.number.1
    c.in-Ok.ensures.counted
