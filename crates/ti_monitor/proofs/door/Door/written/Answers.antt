use Rattle.std.proofs.Common.{◌≡◌, ◌/◌, ◌∙◌}
use Rattle.ti_http.specs.Talks.{written_from}
use Rattle.ti_monitor.proofs.DoorLaws.{changed, kept_door}
use Rattle.ti_monitor.proofs.door.Door.written.Goals as goal

pub returns-clause-written : goal.returns-clause-written
returns-clause-written c =
    changed (λ t t'. t' ≡ written_from t c.args.count (c.args.now / 1000000)) c.self.inside.hosts c.self.inside.desk c.self.inside.seats.list.items c.take.new.self.list.items c.put.new.self.list.items c.args.self.now c.args.conn.0 c.in-Some.seat c.written.new.self c.self.view_is
    c.in-Some.ensures.was c.in-Some.ensures.taken c.put.ensures c.written.ensures.due c.written.ensures.written

pub returns-in_default-clause-kept : goal.returns-in_default-clause-kept
returns-in_default-clause-kept c =
    kept_door c.self.inside.hosts c.self.inside.desk c.self.inside.seats.list.items c.take.new.self.list.items c.args.self.now c.args.conn.0 c.self.view_is c.take.ensures.taken (c.take.ensures.was ∙ c.in_default.is)
