use Rattle.ti_monitor.specs.Doors.{AllRun, ServesBelow}
use Rattle.ti_monitor.proofs.door.Door.tick.Given as goal

abbrev pub invariant-loop-place : goal.invariant-loop-place
invariant-loop-place l = record {
  run : AllRun l.fn.self l.self;
  serves : ServesBelow l.place l.initial.self l.self;
}
