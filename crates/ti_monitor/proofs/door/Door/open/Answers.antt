use Rattle.ti_monitor.proofs.OpenLaws.{none_added, opens_add, opens_at}
use Rattle.ti_monitor.proofs.door.Door.open.Goals as goal

pub returns-in-Some-clause-opened : goal.returns-in-Some-clause-opened
returns-in-Some-clause-opened c =
    opens_at c.self.inside.hosts c.self.inside.desk c.self.inside.seats.list.items c.put.new.self.list.items c.args.self.now c.in-Some.conn.0 _ c.new-seat.result c.self.view_is
    c.in-Some.ensures.free.0 c.self.inside.seats.few c.in-Some.ensures.free.1 c.new-seat.ensures.connection c.new-seat.ensures.due c.put.ensures

pub returns-clause-opened : goal.returns-clause-opened
returns-clause-opened c =
    opens_add c.self.inside.hosts c.self.inside.desk c.add.result c.self.inside.seats.list.items c.add.new.self.list.items c.args.self.now _ c.new-seat.result c.self.view_is
    c.add.ensures.added c.new-seat.ensures.connection c.new-seat.ensures.due

pub returns-clause-refused : goal.returns-clause-refused
returns-clause-refused c =
    none_added c.self.inside.hosts c.self.inside.desk c.add.result c.self.inside.seats.list.items c.add.new.self.list.items _ c.self.view_is
    c.in_default.ensures.none c.if-is_full.ensures.room c.add.ensures.memory c.add.ensures.same
