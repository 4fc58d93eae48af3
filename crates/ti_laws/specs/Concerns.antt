-- Which entries of a thread's history an environment can notice: noninterference of histories.
--
-- An environment is told of a thread by the replies to its calls and reads there. They depend on the thread's own entries, on
-- the environment's own, and on those by which others change the thread for all: suspensions, resumptions, pops, stops and
-- gos. What others only look at, and the words that they keep for themselves, they do not depend on.
use Rattle.std.specs.Prelude.{ℕ, ℤ, ◌≡◌, ◌<◌, ◌||◌, ◌==◌, Bool, true, false, if◌then◌else◌, List, [], ◌∷◌, ◌++◌, length, map, Option, Some, None, slice_index}
use Rattle.std.specs.List.{filter}
use Rattle.ti_types.specs.declared.limits.Limits.{Limits}
use Rattle.ti_types.specs.declared.numbers.EnvNo.{EnvNo}
use Rattle.ti_types.specs.declared.place.Frame.{Frame}
use Rattle.ti_types.specs.declared.state.Mode.{Mode}
use Rattle.ti_types.specs.declared.call.Call.{Call}
use Rattle.ti_types.specs.declared.call.Call.TheVariants.{Suspend, Resume, Pop}
use Rattle.ti_types.specs.declared.entry.Entry.{Entry}
use Rattle.ti_types.specs.declared.entry.Entry.TheVariants.{Asked, Stop, Read, Go}
use Rattle.ti_types.specs.declared.event.Ticket.{Ticket}
use Rattle.ti_types.specs.declared.answer.Answer.{Answer}
use Rattle.ti_types.specs.declared.view.ThreadView.{ThreadView}
use Rattle.ti_replay.specs.Legal.{is_legal}
use Rattle.ti_replay.specs.Makers.{StartsWith}
use Rattle.ti_replay.specs.Refusals.{held_refusal}
use Rattle.ti_replay.specs.Replies.{answer_to, reply}
use Rattle.ti_replay.specs.Settling.{settled}
use Rattle.ti_replay.specs.Tickets.{reply_to}
use Rattle.ti_replay.specs.View.{after, new_thread, view}

-- a call that changes the thread for all environments
abbrev pub changes_all : Call → Bool
changes_all Suspend = true
changes_all Resume = true
changes_all Pop = true
changes_all _ = false

-- an entry that the environment makes
abbrev pub is_made_by : EnvNo → Entry → Bool
is_made_by env (Asked other number call) = other.0 == env.0
is_made_by env (Stop other) = other.0 == env.0
is_made_by env (Read other max_count) = other.0 == env.0
is_made_by env (Go other) = other.0 == env.0
is_made_by env _ = false

-- an entry that the environment may notice. All but others' looks, and their words
abbrev pub concerns : EnvNo → Entry → Bool
concerns env (Asked other number call) = other.0 == env.0 || changes_all call
concerns env (Read other max_count) = other.0 == env.0
concerns env _ = true

-- the entry, without the number that it has among another environment's calls
abbrev pub unnumbered : EnvNo → Entry → Entry
unnumbered env (Asked other number call) = Asked other (if other.0 == env.0 then number else 0) call
unnumbered env x = x

-- the entries of a history that the environment may notice, in their order
abbrev pub concerning : EnvNo → List Entry → List Entry
concerning env history = map (unnumbered env) (filter (concerns env) history)

-- What the environment can see of a thread: all that is known of it, but for the words of others
pub record Sight : Type 0 where
  pub mode : Mode
  pub frames : List Frame
  pub suspended : Bool
  pub stopper : Option EnvNo
  pub word : ℕ

abbrev pub sight : EnvNo → ThreadView → Sight
sight env v = record { mode = v.mode; frames = v.frames; suspended = v.suspended; stopper = v.stopper; word = slice_index v.words env.0 }

-- a call or a read, and what it was answered
abbrev pub Told : Type 0
Told = Entry × Answer

abbrev pub with_answer : Entry → Option Answer → List Told → List Told
with_answer x (Some a) rest = (x, a) ∷ rest
with_answer x None rest = rest

-- what an environment's entries are answered, when these take place one after another
abbrev pub told_in : EnvNo → ThreadView → List Entry → List Told
told_in env v [] = []
told_in env v (x ∷ entries) = with_answer x (if is_made_by env x then answer_to v x else None) (told_in env (after v x) entries)

-- All that a thread tells an environment: its calls and reads in the order in which they took place, each with its answer
abbrev pub told_by : Limits → EnvNo → List Entry → List Told
told_by limits env history = told_in env (new_thread limits) (map (λ p. p.1) (settled history))

-- all that a thread tells an environment is told by the entries that concern it
abbrev pub OnlyWhatConcernsTells : Type 0
OnlyWhatConcernsTells = (limits : Limits) (env : EnvNo) (history : List Entry) → env.0 < limits.envs → told_by limits env history ≡ told_by limits env (concerning env history)

-- so is the reply to each ticket of the environment
abbrev pub OnlyWhatConcernsReplies : Type 0
OnlyWhatConcernsReplies =
    (limits : Limits) (t : Ticket) (history : List Entry) → t.env.0 < limits.envs → reply_to limits history t ≡ reply_to limits (concerning t.env history) t

-- and so is all that it can see of the thread after the history
abbrev pub OnlyWhatConcernsShows : Type 0
OnlyWhatConcernsShows =
    (limits : Limits) (env : EnvNo) (history : List Entry) → env.0 < limits.envs → sight env (view limits history) ≡ sight env (view limits (concerning env history))

-- Two histories of a thread, in which the same entries concern an environment. They tell it the same: each of its tickets has
-- the same reply, and it sees the same of the thread
pub record TellAlike (limits : Limits) (env : EnvNo) (one other : List Entry) : Type 0 where
  pub told : told_by limits env one ≡ told_by limits env other
  pub replies : (t : Ticket) → t.env ≡ env → reply_to limits one t ≡ reply_to limits other t
  pub sees : sight env (view limits one) ≡ sight env (view limits other)

-- Noninterference of histories: where the same concerns an environment, the same is told
abbrev pub HistoriesTellAlike : Type 0
HistoriesTellAlike =
    (limits : Limits) (env : EnvNo) (one other : List Entry) → env.0 < limits.envs → concerning env one ≡ concerning env other → TellAlike limits env one other

-- The same at the place of a call. It is the environment's, and the histories are legal. Before it and in all, the same
-- concerns the environment; or the call has the same number in both
abbrev pub CallsTellAlike : Type 0
CallsTellAlike =
    (limits : Limits) (env : EnvNo) (number : ℕ) (call : Call) (front rest other_front other_rest : List Entry) →
    env.0 < limits.envs →
    is_legal limits (front ++ Asked env number call ∷ rest) ≡ true →
    is_legal limits (other_front ++ Asked env number call ∷ other_rest) ≡ true →
    concerning env (front ++ Asked env number call ∷ rest) ≡ concerning env (other_front ++ Asked env number call ∷ other_rest) →
    reply limits (front ++ Asked env number call ∷ rest) (length front) ≡ reply limits (other_front ++ Asked env number call ∷ other_rest) (length other_front)

-- An answer that a user of the thread was given. The call is in what it had seen, which is a legal beginning of the thread's
-- history, and the answer is the reply there
pub record WasAnswered (limits : Limits) (history : List Entry) (env : EnvNo) (number : ℕ) (call : Call) (a : Answer) : Type 0 where
  pub seen : List Entry
  pub begins : StartsWith history seen
  pub legal : is_legal limits seen ≡ true
  pub front : List Entry
  pub rest : List Entry
  pub stands : seen ≡ front ++ Asked env number call ∷ rest
  pub replied : reply limits seen (length front) ≡ Some a

-- The same entries concern an environment, as far as the shorter one goes
abbrev pub ConcernAlike : EnvNo → List Entry → List Entry → Type 0
ConcernAlike env one other = StartsWith (concerning env other) (concerning env one)

-- The two-run law of running threads. Two histories of one thread, of two runs, whose users saw beginnings of them: the calls
-- of one number of an environment, if both were answered, were answered the same, when the same concerns the environment in
-- both, as far as the shorter one goes
abbrev pub AnswersAgree : Type 0
AnswersAgree =
    (limits : Limits) (env : EnvNo) (number : ℕ) (call other_call : Call) (one other : List Entry) (a b : Answer) →
    env.0 < limits.envs → WasAnswered limits one env number call a → WasAnswered limits other env number other_call b →
    ConcernAlike env one other → a ≡ b

-- A read under a stop, and the refusals of stops, reads and gos, at two histories as the call found them
pub record AtStopsAlike (limits : Limits) (env : EnvNo) (one other : List Entry) : Type 0 where
  pub reads : (max_count : ℤ) → reply limits (one ++ Read env max_count ∷ []) (length one) ≡ reply limits (other ++ Read env max_count ∷ []) (length other)
  pub refused : (x : Entry) → held_refusal (view limits one) x ≡ held_refusal (view limits other) x

abbrev pub StopsAnswerAlike : Type 0
StopsAnswerAlike =
    (limits : Limits) (env : EnvNo) (one other : List Entry) → env.0 < limits.envs → concerning env one ≡ concerning env other → AtStopsAlike limits env one other

-- The calls of one number of an environment find alike threads, in two histories of which the same concerns it. The histories
-- are legal up to the calls
abbrev pub CallsFindAlike : Type 0
CallsFindAlike =
    (limits : Limits) (env : EnvNo) (number : ℕ) (call other_call : Call) (front rest other_front other_rest : List Entry) →
    env.0 < limits.envs →
    is_legal limits (front ++ Asked env number call ∷ []) ≡ true →
    is_legal limits (other_front ++ Asked env number other_call ∷ []) ≡ true →
    ConcernAlike env (front ++ Asked env number call ∷ rest) (other_front ++ Asked env number other_call ∷ other_rest) →
    (call ≡ other_call) × (concerning env front ≡ concerning env other_front)

-- So what is told of a call at once is the same: its reply, or that it has none yet
abbrev pub CallsToldAlike : Type 0
CallsToldAlike =
    (limits : Limits) (env : EnvNo) (number : ℕ) (call other_call : Call) (front rest other_front other_rest : List Entry) →
    env.0 < limits.envs →
    is_legal limits (front ++ Asked env number call ∷ []) ≡ true →
    is_legal limits (other_front ++ Asked env number other_call ∷ []) ≡ true →
    ConcernAlike env (front ++ Asked env number call ∷ rest) (other_front ++ Asked env number other_call ∷ other_rest) →
    reply limits (front ++ Asked env number call ∷ []) (length front) ≡ reply limits (other_front ++ Asked env number other_call ∷ []) (length other_front)

-- The same of tickets: two replies to one ticket, of what users had seen of two histories
abbrev pub TicketsAgree : Type 0
TicketsAgree =
    (limits : Limits) (t : Ticket) (one other seen other_seen : List Entry) (a b : Answer) →
    t.env.0 < limits.envs → StartsWith one seen → StartsWith other other_seen →
    reply_to limits seen t ≡ Some a → reply_to limits other_seen t ≡ Some b → ConcernAlike t.env one other → a ≡ b
