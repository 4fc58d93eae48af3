use Rattle.std.proofs.Common.{◌∙◌, inr, refl, sym, subst}
use Rattle.std.specs.Prelude.{count_by, is_some}
use Rattle.ti_monitor.specs.Doors.{AllRun}
use Rattle.ti_monitor.specs.Seats.{RunsTo}
use Rattle.ti_monitor.proofs.DoorLaws.{all_same, kept_door, one_went, served, serves_nobody, talk_is, went_on}
use Rattle.ti_monitor.proofs.door.Door.tick_one.Goals as goal

pub returns-in-Some-clause-run : goal.returns-in-Some-clause-run
returns-in-Some-clause-run c =
    one_went c.args.self.now _ c.args.conn.0 RunsTo (λ t t' run. run)
    (went_on RunsTo c.self.inside.hosts c.self.inside.desk c.tick.new.desk c.self.inside.seats.list.items c.take.new.self.list.items c.put.new.self.list.items c.args.self.now c.args.conn.0 c.in-Some.seat c.tick.new.self c.self.view_is
    c.in-Some.ensures.was c.in-Some.ensures.taken c.put.ensures c.tick.ensures.desk c.tick.ensures.run)

pub returns-in-Some-clause-serves : goal.returns-in-Some-clause-serves
returns-in-Some-clause-serves c =
    let old = c.self.inside.seats.list.items in
    inr (served c.self.inside.hosts c.self.inside.desk c.tick.new.desk old c.take.new.self.list.items c.put.new.self.list.items c.args.self.now c.args.conn.0 (count_by is_some old) c.in-Some.seat c.tick.new.self c.self.view_is refl
    c.in-Some.ensures.was c.in-Some.ensures.taken c.put.ensures c.tick.ensures.desk (c.tick.ensures.serves (count_by is_some old)))

pub returns-in_default-clause-run : goal.returns-in_default-clause-run
returns-in_default-clause-run c =
    let same = kept_door c.self.inside.hosts c.self.inside.desk c.self.inside.seats.list.items c.take.new.self.list.items c.args.self.now c.args.conn.0 c.self.view_is c.take.ensures.taken (c.take.ensures.was ∙ c.in_default.is) in
    subst (AllRun c.args.self.now) (sym same) (all_same c.args.self.now)

pub returns-in_default-clause-serves : goal.returns-in_default-clause-serves
returns-in_default-clause-serves c =
    let seats = c.self.inside.seats.list.items in
    let none = c.take.ensures.was ∙ c.in_default.is in
    serves_nobody c.args.self.now _ c.args.conn.0 (talk_is c.self.inside.hosts c.self.inside.desk seats c.args.self.now c.args.conn.0 _ c.self.view_is none)
    (kept_door c.self.inside.hosts c.self.inside.desk seats c.take.new.self.list.items c.args.self.now c.args.conn.0 c.self.view_is c.take.ensures.taken none)
