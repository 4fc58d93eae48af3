use Rattle.std.proofs.Common.{◌≡◌, [], take, drop}
use Rattle.ti_replay.specs.Legal.{first_illegal}
use Rattle.ti_replay.specs.PlacedState.{placed_state}
use Rattle.ti_replay.proofs.replays.replay.Given as goal

-- the progress is what the front leaves, and no illegal entry is in the front
abbrev pub invariant-loop-at : goal.invariant-loop-at
invariant-loop-at l = record {
  progress : l.progress ≡ placed_state l.limits (take l.at l.entries);
  legal : first_illegal l.limits (take l.at l.entries) (drop l.at l.entries) ≡ first_illegal l.limits [] l.entries;
}
