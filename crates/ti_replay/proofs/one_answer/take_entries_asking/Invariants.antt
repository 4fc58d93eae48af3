use Rattle.std.proofs.Common.{◌≡◌, ◌<◌, ◌^◌, true, length, drop}
use Rattle.std.specs.Option.{option_map, option_or}
use Rattle.ti_types.specs.Answer.{said}
use Rattle.ti_replay.specs.View.{after_all}
use Rattle.ti_replay.specs.Replies.{reply_from}
use Rattle.ti_replay.specs.PlacedState.{all_calls}
use Rattle.ti_replay.proofs.one_answer.take_entries_asking.Given as goal

abbrev pub invariant-loop-at : goal.invariant-loop-at
invariant-loop-at l = record {
  view : after_all l.view (drop l.at-index l.entries) ≡ after_all l.fn.view l.entries;
  reply : option_or (option_map said l.told) (reply_from l.view (drop l.at-index l.entries) l.place)
      ≡ option_or (option_map said l.fn.given) (reply_from l.fn.view l.entries l.place);
  few : length l.view.frames < 2 ^ 32;
  calls : all_calls (drop l.at-index l.entries) ≡ true;
}
