-- What a history replies to its calls.
use Rattle.std.specs.Prelude.{ℕ, if◌then◌else◌, ◌==◌, List, [], ◌∷◌, Option, Some, None, slice_get, option_and_then}
use Rattle.std.specs.Option.{option_or, option_map}
use Rattle.ti_types.specs.declared.limits.Limits.{Limits}
use Rattle.ti_types.specs.declared.entry.Entry.{Entry}
use Rattle.ti_types.specs.declared.entry.Entry.TheVariants.{Asked, Read}
use Rattle.ti_types.specs.declared.answer.Answer.{Answer}
use Rattle.ti_types.specs.declared.view.ThreadView.{ThreadView}
use Rattle.ti_types.specs.Answer.{said}
use Rattle.ti_replay.specs.Answers.{answer_of, stack_of}
use Rattle.ti_replay.specs.Settling.{Placed, settled}
use Rattle.ti_replay.specs.View.{new_thread, after}

-- what is answered when an entry takes place
abbrev pub answer_to : ThreadView → Entry → Option Answer
answer_to v (Asked env number call) = Some (answer_of v env call)
answer_to v (Read env max_count) = Some (stack_of v max_count)
answer_to v _ = None

-- the reply to the entry of a place, when these entries take place one after another
abbrev pub reply_from : ThreadView → List Placed → ℕ → Option Answer
reply_from v [] place = None
reply_from v (p ∷ entries) place = option_or (if p.0 == place then answer_to v p.1 else None) (reply_from (after v p.1) entries place)

-- the reply to the entry at a place of a history. None if it is no call or read, or is not answered yet
abbrev pub reply : Limits → List Entry → ℕ → Option Answer
reply limits history place = reply_from (new_thread limits) (settled history) place

-- what a list with an answer or none for each place says at a place. None after its end
abbrev pub told_at : List (Option Answer) → ℕ → Option Answer
told_at answers place = option_and_then (option_map said) (slice_get answers place)
