-- What the replies about an environment's words depend on: its word at a thread, and its own.
use Rattle.std.specs.Prelude.{ℕ, ◌+◌, ◌≡◌, Bool, true, false, not, ◌&&◌, ◌==◌, if◌then◌else◌, List, [], ◌∷◌, ◌++◌, Option, Some, None, is_none}
use Rattle.std.specs.List.{list_any}
use Rattle.ti_types.specs.declared.limits.Limits.{Limits}
use Rattle.ti_types.specs.declared.numbers.EnvNo.{EnvNo}
use Rattle.ti_types.specs.declared.numbers.ThreadNo.{ThreadNo}
use Rattle.ti_types.specs.declared.call.Call.TheVariants.{GetWord, SetWord}
use Rattle.ti_types.specs.declared.entry.Entry.{Entry}
use Rattle.ti_types.specs.declared.entry.Entry.TheVariants.{Start, End, Asked}
use Rattle.ti_types.specs.declared.event.Event.{Event}
use Rattle.ti_types.specs.declared.event.Event.TheVariants.{Ask, SetEnvWord, GetEnvWord}
use Rattle.ti_types.specs.declared.event.Outcome.{Outcome}
use Rattle.ti_types.specs.declared.event.Outcome.TheVariants as outcome
use Rattle.ti_types.specs.declared.answer.Answer.{Answer}
use Rattle.ti_types.specs.declared.answer.Answer.TheVariants as answer
use Rattle.ti_types.specs.declared.error.TiError.TheVariants.{ThreadNotAlive}
use Rattle.ti_replay.specs.Legal.{is_legal}
use Rattle.ti_replay.specs.Replies.{reply}
use Rattle.ti_replay.specs.Word.{word_of}
use Rattle.ti_replay.specs.Admission.{Happening, dealings, refusal, is_by}
use Rattle.ti_replay.specs.Events.{history_of}
use Rattle.ti_replay.specs.Outcomes.{out_of}

-- what counts for the word of an environment at a thread: the thread's life, and the environment's calls about it
pub data WordEvent : Type 0 where
  Started : WordEvent
  Ended : WordEvent
  Got : WordEvent
  Set : (word : ℕ) → WordEvent

-- of an entry, the number of the call aside
abbrev pub word_event : EnvNo → Entry → Option WordEvent
word_event env Start = Some Started
word_event env End = Some Ended
word_event env (Asked other number GetWord) = if other.0 == env.0 then Some Got else None
word_event env (Asked other number (SetWord word)) = if other.0 == env.0 then Some (Set word) else None
word_event env _ = None

abbrev pub with_event : Option WordEvent → List WordEvent → List WordEvent
with_event (Some event) events = event ∷ events
with_event None events = events

abbrev pub word_events : EnvNo → List Entry → List WordEvent
word_events env [] = []
word_events env (x ∷ history) = with_event (word_event env x) (word_events env history)

-- whether an entry is a call of the environment about its word
abbrev pub is_word_call : EnvNo → Entry → Bool
is_word_call env (Asked other number GetWord) = other.0 == env.0
is_word_call env (Asked other number (SetWord word)) = other.0 == env.0
is_word_call env _ = false

abbrev pub with_reply : Bool → Option Answer → List (Option Answer) → List (Option Answer)
with_reply is_call answer answers = if is_call then answer ∷ answers else answers

-- what the whole history replies to those of the entries from a place on that are such calls, in their order
abbrev pub word_replies_from : Limits → EnvNo → List Entry → ℕ → List Entry → List (Option Answer)
word_replies_from limits env whole place [] = []
word_replies_from limits env whole place (x ∷ rest) =
    with_reply (is_word_call env x) (reply limits whole place) (word_replies_from limits env whole (place + 1) rest)

abbrev pub word_replies : Limits → EnvNo → List Entry → List (Option Answer)
word_replies limits env history = word_replies_from limits env history 0 history

-- two legal histories with the same starts, ends and calls of an environment about its word reply equally to these calls
abbrev pub WordsReplyAlike : Type 0
WordsReplyAlike =
    (limits : Limits) (one other : List Entry) (env : EnvNo) →
    is_legal limits one ≡ true → is_legal limits other ≡ true → word_events env one ≡ word_events env other →
    word_replies limits env one ≡ word_replies limits env other

abbrev pub is_start : Entry → Bool
is_start Start = true
is_start _ = false

abbrev pub is_end : Entry → Bool
is_end End = true
is_end _ = false

-- the history has a start and no end
abbrev pub has_life : List Entry → Bool
has_life history = list_any is_start history && not (list_any is_end history)

-- the answer to a call for the word after a history
abbrev pub word_answer : List Entry → EnvNo → Answer
word_answer history env = if has_life history then answer.Word (word_of history env) else answer.Refused ThreadNotAlive

-- An admitted call for the word gives the word that was stored, whatever comes after it. It gives 15 if the history before
-- it has no start or has an end
abbrev pub WordIsGiven : Type 0
WordIsGiven =
    (limits : Limits) (front rest : List Happening) (env : EnvNo) (thread : ThreadNo) (wanting : Bool) →
    is_none (refusal limits (dealings limits env thread front) (record { event = Ask env thread GetWord; wanting = wanting })) ≡ true →
    out_of limits (front ++ record { event = Ask env thread GetWord; wanting = wanting } ∷ rest) front (record { event = Ask env thread GetWord; wanting = wanting })
    ≡ Some (outcome.Gave (word_answer (history_of limits thread front) env))

-- whether an event sets or gets an environment's own word
abbrev pub is_about_env_word : Event → Bool
is_about_env_word (SetEnvWord e word) = true
is_about_env_word (GetEnvWord e) = true
is_about_env_word _ = false

abbrev pub is_env_word_call : EnvNo → Event → Bool
is_env_word_call env event = is_about_env_word event && is_by env event

-- the environment's calls about its own word
abbrev pub env_word_calls : EnvNo → List Happening → List Event
env_word_calls env [] = []
env_word_calls env (h ∷ events) = if is_env_word_call env h.event then h.event ∷ env_word_calls env events else env_word_calls env events

-- the outcomes of these calls among all events, after a prefix of them
abbrev pub env_words_told_from : Limits → EnvNo → List Happening → List Happening → List Happening → List (Option Outcome)
env_words_told_from limits env all front [] = []
env_words_told_from limits env all front (h ∷ events) =
    let rest = env_words_told_from limits env all (front ++ h ∷ []) events in
    if is_env_word_call env h.event then out_of limits all front h ∷ rest else rest

abbrev pub env_words_told : Limits → EnvNo → List Happening → List (Option Outcome)
env_words_told limits env events = env_words_told_from limits env events [] events

-- what an environment learns of its own word depends only on its own calls about it
abbrev pub EnvWordsFollowTheirCalls : Type 0
EnvWordsFollowTheirCalls =
    (limits : Limits) (env : EnvNo) (run other : List Happening) →
    env_word_calls env run ≡ env_word_calls env other → env_words_told limits env run ≡ env_words_told limits env other
