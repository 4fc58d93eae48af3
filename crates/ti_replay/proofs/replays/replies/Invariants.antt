use Rattle.std.proofs.Common.{◌≡◌, ◌≤◌, ℕ, true, [], take, drop, length}
use Rattle.ti_replay.specs.Legal.{first_illegal}
use Rattle.ti_replay.specs.Replies.{reply, told_at}
use Rattle.ti_replay.specs.PlacedState.{placed_state, all_calls, are_below}
use Rattle.ti_replay.proofs.replays.replies.Given as goal

-- the progress is what the front leaves, no illegal entry is in the front, and what is told is the front's replies
abbrev pub invariant-loop-at : goal.invariant-loop-at
invariant-loop-at l = record {
  progress : l.progress ≡ placed_state l.limits (take l.at l.entries);
  legal : first_illegal l.limits (take l.at l.entries) (drop l.at l.entries) ≡ first_illegal l.limits [] l.entries;
  told : (place : ℕ) → told_at l.told.items place ≡ reply l.limits (take l.at l.entries) place;
  places : length l.told.items ≡ l.at;
  few : length l.progress.view.frames ≤ l.limits.depth;
  calls : all_calls l.progress.waiting ≡ true;
  below : are_below l.at l.progress.waiting ≡ true;
}
