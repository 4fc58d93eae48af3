use Rattle.std.proofs.Common.{◌/◌, ◌∙◌}
use Rattle.ti_monitor.specs.Doors.{Feeds}
use Rattle.ti_monitor.proofs.DoorLaws.{changed, kept_door, no_memory, on_err, talk_is, unchanged}
use Rattle.ti_monitor.proofs.door.Door.feed.Goals as goal

pub returns-clause-fed : goal.returns-clause-fed
returns-clause-fed c =
    changed (Feeds c.args.bytes.now c.in_ok-taken.field-0 (c.args.now / 1000000)) c.self.inside.hosts c.self.inside.desk c.self.inside.seats.list.items c.take.new.self.list.items c.put.new.self.list.items c.args.self.now c.args.conn.0 c.in-Some.seat c.feed-taken.new.self c.self.view_is
    c.in-Some.ensures.was c.in-Some.ensures.taken c.put.ensures c.feed-taken.ensures.due (c.in_ok-taken.ensures.taken, c.in_ok-taken.ensures.fed)

pub returns-in_default-clause-kept : goal.returns-in_default-clause-kept
returns-in_default-clause-kept c =
    kept_door c.self.inside.hosts c.self.inside.desk c.self.inside.seats.list.items c.take.new.self.list.items c.args.self.now c.args.conn.0 c.self.view_is c.take.ensures.taken (c.take.ensures.was ∙ c.in_default.is)

pub returns-in_err-taken-clause-refused : goal.returns-in_err-taken-clause-refused
returns-in_err-taken-clause-refused c =
    no_memory c.from_residual.result _ c.in-Some.seat.connection
    (talk_is c.self.inside.hosts c.self.inside.desk c.self.inside.seats.list.items c.args.self.now c.args.conn.0 _ c.self.view_is c.in-Some.ensures.was) c.from_residual.ensures.1

pub returns-in_err-taken-clause-kept : goal.returns-in_err-taken-clause-kept
returns-in_err-taken-clause-kept c =
    on_err c.from_residual.result
    (unchanged c.self.inside.hosts c.self.inside.desk c.self.inside.seats.list.items c.take.new.self.list.items c.put.new.self.list.items c.args.self.now c.args.conn.0 c.in-Some.seat c.feed-taken.new.self c.self.view_is
    c.in-Some.ensures.was c.in-Some.ensures.taken c.put.ensures c.in_err-taken.ensures.kept c.feed-taken.ensures.due)
