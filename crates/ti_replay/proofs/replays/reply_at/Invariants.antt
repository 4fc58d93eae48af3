use Rattle.std.proofs.Common.{◌≡◌, ◌≤◌, true, [], take, drop, length}
use Rattle.std.specs.Option.{option_map}
use Rattle.ti_types.specs.Answer.{said}
use Rattle.ti_replay.specs.Legal.{first_illegal}
use Rattle.ti_replay.specs.Replies.{reply}
use Rattle.ti_replay.specs.PlacedState.{placed_state, all_calls}
use Rattle.ti_replay.proofs.replays.reply_at.Given as goal

-- the progress is what the front leaves, no illegal entry is in the front, and what is given is the front's reply
abbrev pub invariant-loop-at : goal.invariant-loop-at
invariant-loop-at l = record {
  progress : l.progress ≡ placed_state l.limits (take l.at l.entries);
  legal : first_illegal l.limits (take l.at l.entries) (drop l.at l.entries) ≡ first_illegal l.limits [] l.entries;
  given : option_map said l.given ≡ reply l.limits (take l.at l.entries) l.place;
  few : length l.progress.view.frames ≤ l.limits.depth;
  calls : all_calls l.progress.waiting ≡ true;
}
