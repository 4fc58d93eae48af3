use Rattle.std.proofs.Common.{◌≡◌, ◌<◌, ◌^◌, ℕ, true, length, drop}
use Rattle.std.specs.Option.{option_or}
use Rattle.ti_replay.specs.View.{after_all}
use Rattle.ti_replay.specs.Replies.{reply_from, told_at}
use Rattle.ti_replay.specs.PlacedState.{all_calls, are_below}
use Rattle.ti_replay.proofs.all_answers.tell_entries.Given as goal

abbrev pub invariant-loop-at : goal.invariant-loop-at
invariant-loop-at l = record {
  view : after_all l.view (drop l.at-index l.entries) ≡ after_all l.fn.view l.entries;
  told : (place : ℕ) → option_or (told_at l.told place) (reply_from l.view (drop l.at-index l.entries) place)
      ≡ option_or (told_at l.fn.told place) (reply_from l.fn.view l.entries place);
  few : length l.view.frames < 2 ^ 32;
  calls : all_calls (drop l.at-index l.entries) ≡ true;
  long : length l.told ≡ length l.fn.told;
  below : are_below (length l.fn.told) (drop l.at-index l.entries) ≡ true;
}
