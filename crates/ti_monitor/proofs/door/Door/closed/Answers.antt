use Rattle.std.proofs.Common.{subst, ◌∙◌}
use Rattle.std.specs.Prelude.{Option}
use Rattle.ti_monitor.specs.declared.door_desk.Due.{Due}
use Rattle.ti_monitor.specs.Desks.{books_of}
use Rattle.ti_monitor.specs.Serving.{MayLeave}
use Rattle.ti_monitor.proofs.DoorLaws.{closes, kept_door, talk_is}
use Rattle.ti_monitor.proofs.door.Door.closed.Goals as goal

pub returns-clause-gone : goal.returns-clause-gone
returns-clause-gone c =
    closes c.self.inside.hosts c.self.inside.desk c.forget.new.self c.self.inside.seats.list.items c.take.new.self.list.items c.args.self.now c.args.conn.0 c.in-Some.seat c.self.view_is
    c.in-Some.ensures.was c.take.ensures.taken c.forget.ensures.keeps c.forget.ensures.agent
    (subst (λ (u : Option Due). MayLeave u (books_of c.self.inside.desk) (books_of c.forget.new.self)) c.due.ensures c.forget.ensures.left)

pub returns-in_default-clause-kept : goal.returns-in_default-clause-kept
returns-in_default-clause-kept c =
    kept_door c.self.inside.hosts c.self.inside.desk c.self.inside.seats.list.items c.take.new.self.list.items c.args.self.now c.args.conn.0 c.self.view_is c.take.ensures.taken (c.take.ensures.was ∙ c.in_default.is)

pub returns-clause-known : goal.returns-clause-known
returns-clause-known c none =
    let there = talk_is c.self.inside.hosts c.self.inside.desk c.self.inside.seats.list.items c.args.self.now c.args.conn.0 _ c.self.view_is c.in-Some.ensures.was in
    absurd (cc (there, none))
