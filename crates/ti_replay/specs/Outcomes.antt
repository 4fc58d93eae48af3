-- The outcome of each event of a whole list.
use Rattle.std.specs.Prelude.{Bool, true, false, ◌==◌, nat_lt, if◌then◌else◌, ℕ, List, [], ◌∷◌, ◌++◌, Option, Some, None}
use Rattle.std.specs.List.{fold}
use Rattle.ti_types.specs.declared.limits.Limits.{Limits}
use Rattle.ti_types.specs.declared.numbers.EnvNo.{EnvNo}
use Rattle.ti_types.specs.declared.event.Event.{Event}
use Rattle.ti_types.specs.declared.event.Event.TheVariants.{Start, Own, Poll, ToNative, ToBlocked, Back, End, Ask, Stop, Read, Go, AddCaps, Relinquish, GetCaps, SetEnvWord, GetEnvWord}
use Rattle.ti_types.specs.declared.event.Outcome.{Outcome}
use Rattle.ti_types.specs.declared.event.Outcome.TheVariants as outcome
use Rattle.ti_types.specs.declared.answer.Answer.{Answer}
use Rattle.ti_types.specs.declared.answer.Answer.TheVariants as answer
use Rattle.ti_types.specs.declared.error.TiError.TheVariants.{InvalidEnvironment, OutOfMemory}
use Rattle.ti_types.specs.Answer.{said}
use Rattle.ti_replay.specs.Admission.{Happening, caps_of}
use Rattle.ti_replay.specs.Events.{caps_outcome, outcome_of}

abbrev pub word_set : EnvNo → ℕ → Event → ℕ
word_set env word (SetEnvWord e w) = if e.0 == env.0 then w else word
word_set env word _ = word

-- the environment's own word after an event
abbrev pub env_word_after : EnvNo → ℕ → Happening → ℕ
env_word_after env word h = word_set env word h.event

-- the word that the environment set last, and 0 if it set none
abbrev pub env_word : EnvNo → List Happening → ℕ
env_word env events = fold (env_word_after env) 0 events

abbrev pub word_outcome : Limits → EnvNo → Answer → Option Outcome
word_outcome limits e a = Some (outcome.Gave (if nat_lt e.0 limits.envs then a else answer.Refused InvalidEnvironment))

-- the outcome of an event at a thread is its outcome there; that of one about an environment alone is by that environment's
-- own events
abbrev pub out_by : Limits → List Happening → List Happening → Happening → Event → Option Outcome
out_by limits all front h (Start t) = outcome_of limits t all front h
out_by limits all front h (Own t step) = outcome_of limits t all front h
out_by limits all front h (Poll t) = outcome_of limits t all front h
out_by limits all front h (ToNative t) = outcome_of limits t all front h
out_by limits all front h (ToBlocked t kind) = outcome_of limits t all front h
out_by limits all front h (Back t) = outcome_of limits t all front h
out_by limits all front h (End t) = outcome_of limits t all front h
out_by limits all front h (Ask e t call) = outcome_of limits t all front h
out_by limits all front h (Stop e t) = outcome_of limits t all front h
out_by limits all front h (Read e t max_count) = outcome_of limits t all front h
out_by limits all front h (Go e t) = outcome_of limits t all front h
out_by limits all front h (AddCaps e caps) = caps_outcome limits (caps_of e front) h.event
out_by limits all front h (Relinquish e caps) = caps_outcome limits (caps_of e front) h.event
out_by limits all front h (GetCaps e) = caps_outcome limits (caps_of e front) h.event
out_by limits all front h (SetEnvWord e w) = word_outcome limits e answer.Done
out_by limits all front h (GetEnvWord e) = word_outcome limits e (answer.Word (env_word e front))

-- the outcome of an event among all events, after a prefix of them. None: it is not answered
abbrev pub out_of : Limits → List Happening → List Happening → Happening → Option Outcome
out_of limits all front h = out_by limits all front h h.event

-- the outcome of each of these among all events, after a prefix of them
abbrev pub outs_from : Limits → List Happening → List Happening → List Happening → List (Option Outcome)
outs_from limits all front [] = []
outs_from limits all front (h ∷ hs) = out_of limits all front h ∷ outs_from limits all (front ++ h ∷ []) hs

-- the outcome of each event
abbrev pub outs : Limits → List Happening → List (Option Outcome)
outs limits events = outs_from limits events [] events

-- whether an outcome says that memory ran out
abbrev pub is_for_memory : Outcome → Bool
is_for_memory (outcome.Gave (answer.Refused OutOfMemory)) = true
is_for_memory _ = false

abbrev pub was_for_memory : Option Outcome → Bool
was_for_memory (Some o) = is_for_memory o
was_for_memory None = false

-- an event with this outcome, which says whether memory ran out
abbrev pub happening : Event → Option Outcome → Happening
happening event o = record { event = event; wanting = was_for_memory o }

-- the events with these outcomes, which say at which of them memory ran out
abbrev pub happenings : List Event → List (Option Outcome) → List Happening
happenings (x ∷ xs) (o ∷ os) = happening x o ∷ happenings xs os
happenings [] os = []
happenings (x ∷ xs) [] = []

-- an outcome without the rooms of buffers. None for a call that was posted
abbrev pub told_now : Outcome → Option Outcome
told_now (outcome.Posted ticket) = None
told_now (outcome.Gave a) = Some (outcome.Gave (said a))
told_now outcome.Done = Some outcome.Done
told_now outcome.Clear = Some outcome.Clear
told_now outcome.Went = Some outcome.Went
told_now outcome.Held = Some outcome.Held
told_now (outcome.Refused error) = Some (outcome.Refused error)

-- an outcome without the rooms of buffers. None if there is none
abbrev pub told_later : Option Outcome → Option Outcome
told_later (Some o) = told_now o
told_later None = None
