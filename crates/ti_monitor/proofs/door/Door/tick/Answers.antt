use Rattle.std.proofs.Common.{◌≡◌, refl, rules, subst}
use Rattle.ti_monitor.specs.Doors.{ServesBelow}
use Rattle.ti_monitor.specs.SeatLists.{door_of}
use Rattle.ti_monitor.proofs.DoorLaws.{all_trans, books_on, desk_ran, serves_next}
use Rattle.ti_monitor.proofs.door.Door.tick.Goals as goal

pub loop-place-init : goal.loop-place-init
loop-place-init c = record {
  run = desk_ran c.self.inside.hosts c.self.inside.desk c.tick.new.self c.self.inside.seats.list.items c.args.self.now c.self.view_is c.tick.ensures.keeps;
  serves = refl;
}

pub loop-place-preserved : goal.loop-place-preserved
loop-place-preserved c = record {
  run = all_trans c.args.self.now c.loop-place.self c.tick_one.new.self c.loop-place.invariant.run c.tick_one.ensures.run;
  serves = serves_next (door_of c.self.inside.hosts c.self.inside.seats.list.items c.tick.new.self) c.loop-place.self c.tick_one.new.self c.loop-place.place c.loop-place.invariant.serves c.tick_one.ensures.serves;
}

pub returns-clause-serves : goal.returns-clause-serves
returns-clause-serves c =
    let b = books_on c.self.inside.hosts c.self.inside.desk c.tick.new.self c.self.inside.seats.list.items c.args.self.now c.self.view_is c.tick.ensures.keeps c.tick.ensures.books in
    let end : c.loop-place.place ≡ 16 = search rules in
    ((door_of c.self.inside.hosts c.self.inside.seats.list.items c.tick.new.self), b.0, b.1, subst (λ n. ServesBelow n (door_of c.self.inside.hosts c.self.inside.seats.list.items c.tick.new.self) c.loop-place.self) end c.loop-place.invariant.serves)
