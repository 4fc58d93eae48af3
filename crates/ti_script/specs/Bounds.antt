-- Bounds for the lengths of texts.
use Rattle.std.specs.Prelude.{ℕ, ◌≤◌, ◌<◌, List, [], length, slice_get, unwrap_or, Option, None, Some}
use Rattle.ti_types.specs.declared.answer.Answer.{Answer}
use Rattle.ti_types.specs.declared.answer.Answer.TheVariants as answer
use Rattle.ti_types.specs.declared.event.Outcome.{Outcome}
use Rattle.ti_types.specs.declared.event.Outcome.TheVariants as outcome

-- no name is longer than this
abbrev pub AreNamesWithin : ℕ → List (List ℕ) → Type 0
AreNamesWithin most names = (number : ℕ) → length (unwrap_or (slice_get names number) []) ≤ most

-- no name before this number is longer
abbrev pub AreWithinBelow : ℕ → ℕ → List (List ℕ) → Type 0
AreWithinBelow most at names = (number : ℕ) → number < at → length (unwrap_or (slice_get names number) []) ≤ most

-- how many frames an answer's text has
abbrev pub frames_told : Answer → ℕ
frames_told (answer.Trace trace) = length trace.frames
frames_told (answer.Stack bits trace) = length trace.frames
frames_told (answer.Location frame) = 1
frames_told answer.Done = 0
frames_told (answer.State bits) = 0
frames_told (answer.Count n) = 0
frames_told (answer.Word word) = 0
frames_told (answer.Caps held) = 0
frames_told (answer.Refused e) = 0

abbrev pub frames_in_line : Option Outcome → ℕ
frames_in_line None = 0
frames_in_line (Some outcome.Done) = 0
frames_in_line (Some outcome.Clear) = 0
frames_in_line (Some outcome.Went) = 0
frames_in_line (Some outcome.Held) = 0
frames_in_line (Some (outcome.Refused e)) = 0
frames_in_line (Some (outcome.Gave a)) = frames_told a
frames_in_line (Some (outcome.Posted ticket)) = 0
