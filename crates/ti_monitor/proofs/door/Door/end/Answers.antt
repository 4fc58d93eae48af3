use Rattle.std.proofs.Common.{◌≡◌, ◌∙◌, refl, true}
use Rattle.std.specs.Prelude.{count_by, is_some}
use Rattle.ti_monitor.specs.Seats.{RunsTo}
use Rattle.ti_monitor.proofs.DoorLaws.{kept_door, served, went_on}
use Rattle.ti_monitor.proofs.door.Door.end.Goals as goal

pub returns-clause-ended : goal.returns-clause-ended
returns-clause-ended c =
    went_on (λ t t'. RunsTo t t' × (t'.ended ≡ true)) c.self.inside.hosts c.self.inside.desk c.end.new.desk c.self.inside.seats.list.items c.take.new.self.list.items c.put.new.self.list.items c.args.self.now c.args.conn.0 c.in-Some.seat c.end.new.self c.self.view_is
    c.in-Some.ensures.was c.in-Some.ensures.taken c.put.ensures c.end.ensures.desk (c.end.ensures.run, c.end.ensures.ended)

pub returns-clause-serves : goal.returns-clause-serves
returns-clause-serves c =
    let old = c.self.inside.seats.list.items in
    served c.self.inside.hosts c.self.inside.desk c.end.new.desk old c.take.new.self.list.items c.put.new.self.list.items c.args.self.now c.args.conn.0 (count_by is_some old) c.in-Some.seat c.end.new.self c.self.view_is refl
    c.in-Some.ensures.was c.in-Some.ensures.taken c.put.ensures c.end.ensures.desk (c.end.ensures.serves (count_by is_some old))

pub returns-in_default-clause-kept : goal.returns-in_default-clause-kept
returns-in_default-clause-kept c =
    kept_door c.self.inside.hosts c.self.inside.desk c.self.inside.seats.list.items c.take.new.self.list.items c.args.self.now c.args.conn.0 c.self.view_is c.take.ensures.taken (c.take.ensures.was ∙ c.in_default.is)
