use Rattle.std.proofs.Common.{◌≡◌, length, take}
use Rattle.ti_replay.specs.Outcomes.{happenings}
use Rattle.ti_core.specs.Runs.{HasSeen}
use Rattle.ti_core.proofs.engine.Core.run.Given as goal

-- the core has seen the events so far
abbrev pub invariant-loop-event : goal.invariant-loop-event
invariant-loop-event l = record {
  limits : l.core.limits ≡ l.fn.limits;
  count : length l.outcomes.items ≡ l.event-index;
  seen : HasSeen (happenings (take l.event-index l.events) l.outcomes.items) l.outcomes.items l.core;
}
