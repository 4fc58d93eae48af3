-- The text of a line for each outcome.
use Rattle.std.specs.Prelude.{String, ◌≡◌, ◌≤◌, ◌<◌, length, string_bytes, Result, OnOk, OnErr, ℕ, ◌+◌, List, [], ◌∷◌, ◌++◌, codes, decimal, slice_get, unwrap_or, false, Option, None, Some, if◌then◌else◌}
use Rattle.std.specs.List.{flat_map}
use Rattle.std.specs.Fmt.{digits}
use Rattle.std.specs.String.{string_len, string_capacity}
use Rattle.ti_types.specs.declared.place.Place.{Place}
use Rattle.ti_types.specs.declared.place.Place.TheVariants.{Java, Native}
use Rattle.ti_types.specs.declared.place.Frame.{Frame}
use Rattle.ti_types.specs.declared.caps.Caps.{Caps}
use Rattle.ti_types.specs.Caps.{has_all}
use Rattle.ti_types.specs.declared.answer.Answer.{Answer}
use Rattle.ti_types.specs.declared.answer.Answer.TheVariants as answer
use Rattle.ti_types.specs.declared.event.Outcome.{Outcome}
use Rattle.ti_types.specs.declared.event.Outcome.TheVariants as outcome
use Rattle.ti_types.specs.declared.error.TiError.{TiError}
use Rattle.ti_types.specs.TiError.{number_of}

abbrev pub place_text : Place → List ℕ
place_text (Java place) = decimal place
place_text Native = codes "-1"

module _ (methods : List (List ℕ)) where
  abbrev pub frame_text : Frame → List ℕ
  frame_text frame = unwrap_or (slice_get methods frame.method.0) [] ++ (codes "@" ++ place_text frame.place)

  -- each after a space
  abbrev pub frames_text : List Frame → List ℕ
  frames_text frames = flat_map (λ frame. codes " " ++ frame_text frame) frames

-- a space and this name, if there is the capability of this bit
unfoldable pub held_text : Caps → ℕ → List ℕ → List ℕ
held_text held bit name = if has_all held (record { bits = bit }) then codes " " ++ name else []

abbrev pub caps_text : Caps → List ℕ
caps_text held = held_text held 1 (codes "can_suspend") ++ (held_text held 2 (codes "can_pop_frame") ++ held_text held 4 (codes "can_tag_objects"))

abbrev pub bits_text : ℕ → List ℕ
bits_text bits = codes "0x" ++ digits 16 false bits

abbrev pub error_text : TiError → List ℕ
error_text e = codes "error " ++ decimal (number_of e)

abbrev pub answer_text : List (List ℕ) → Answer → List ℕ
answer_text methods answer.Done = codes "ok"
answer_text methods (answer.State bits) = codes "state " ++ bits_text bits
answer_text methods (answer.Count n) = codes "count " ++ decimal n
answer_text methods (answer.Trace trace) = codes "trace" ++ frames_text methods trace.frames
answer_text methods (answer.Location frame) = codes "location " ++ frame_text methods frame
answer_text methods (answer.Word word) = codes "word " ++ decimal word
answer_text methods (answer.Caps held) = codes "caps" ++ caps_text held
answer_text methods (answer.Stack bits trace) = codes "stack " ++ (bits_text bits ++ frames_text methods trace.frames)
answer_text methods (answer.Refused e) = error_text e

abbrev pub outcome_text : List (List ℕ) → Option Outcome → List ℕ
outcome_text methods None = codes "unanswered"
outcome_text methods (Some outcome.Done) = codes "ok"
outcome_text methods (Some outcome.Clear) = codes "clear"
outcome_text methods (Some outcome.Went) = codes "went"
outcome_text methods (Some outcome.Held) = codes "held"
outcome_text methods (Some (outcome.Refused e)) = error_text e
outcome_text methods (Some (outcome.Gave a)) = answer_text methods a
outcome_text methods (Some (outcome.Posted ticket)) = codes "unanswered"

-- a line: its index, the outcome and a line feed
abbrev pub line_text : List (List ℕ) → ℕ → Option Outcome → List ℕ
line_text methods index o = decimal index ++ (codes " " ++ (outcome_text methods o ++ codes "\n"))

-- lines that are numbered from this one on
abbrev pub lines_text : List (List ℕ) → ℕ → List (Option Outcome) → List ℕ
lines_text methods index [] = []
lines_text methods index (o ∷ os) = line_text methods index o ++ lines_text methods (index + 1) os

-- ---- what is added to a text

-- a prefix of another text was added to the text: nothing, a part of it, or all
pub record AddsFront (old new all : List ℕ) : Type 0 where
  pub front : List ℕ
  pub rest : List ℕ
  pub split : all ≡ front ++ rest
  pub added : new ≡ old ++ front

-- what a text has, how long it is, and for how much it has room
pub record Written : Type 0 where
  pub bytes : List ℕ
  pub len : ℕ
  pub room : ℕ

abbrev pub written : {Z : Type 0} → String Z → Written
written s = record { bytes = string_bytes s; len = string_len s; room = string_capacity s }

-- a text is added to another one. If memory runs out there was no room for it, and a prefix of it is added
pub record Adds {T E : Type 0} (result : Result T E) (old new : Written) (text : List ℕ) : Type 0 where
  pub ok : OnOk result (new.bytes ≡ old.bytes ++ text)
  pub len : OnOk result (new.len ≡ old.len + length text)
  pub room : old.room ≤ new.room
  pub full : OnErr result (old.room < old.len + length text)
  pub front : AddsFront old.bytes new.bytes text
