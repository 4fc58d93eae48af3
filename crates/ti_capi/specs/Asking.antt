-- Calls of an environment at a thread, as C makes them.
use Rattle.std.specs.Prelude.{ℕ, ◌≡◌, ◌<◌, ◌≤◌, ◌⊎◌, if◌then◌else◌, is_some, List, [], length, Option, Some, None, Result, Ok, Err, IfSome}
use Rattle.std.specs.Option.{option_map}
use Rattle.ti_types.specs.Answer.{said}
use Rattle.ti_types.specs.Refusing.{or_else}
use Rattle.ti_types.specs.TiError.{number_of}
use Rattle.ti_types.specs.declared.answer.Answer.{Answer}
use Rattle.ti_types.specs.declared.call.Call.{Call}
use Rattle.ti_types.specs.declared.error.TiError.{TiError}
use Rattle.ti_types.specs.declared.error.TiError.TheVariants.{Busy, OutOfMemory}
use Rattle.ti_types.specs.declared.event.Ticket.{Ticket}
use Rattle.ti_types.specs.declared.numbers.ThreadNo.{ThreadNo}
use Rattle.ti_replay.specs.Admission.{takes_buffer}
use Rattle.ti_slot.specs.declared.asked.Asked.{Asked as AskedOf}
use Rattle.ti_slot.specs.declared.asked.Asked.TheVariants.{Answered, Waiting}
use Rattle.ti_handshake.specs.declared.discarded.Discarded.{Discarded}
use Rattle.ti_agent.specs.Deadlines.{DiscardsOwn, DropsAt, TellsOwn}
use Rattle.ti_agent.specs.Env.{place_in}
use Rattle.ti_agent.specs.Posts.{posting_refusal, Posts, LooksFor, IsOutIfWaiting}
use Rattle.ti_agent.specs.Resumed.{has_cancelled_at}
use Rattle.ti_service.specs.Memberships.{AgentValue}
use Rattle.ti_capi.specs.declared.values.CqAnswer.{CqAnswer}
use Rattle.ti_capi.specs.declared.values.CqFrame.{CqFrame}
use Rattle.ti_capi.specs.Answers.{IsWritten, with_ticket}
use Rattle.ti_capi.specs.Calls.{Calls}
use Rattle.ti_capi.specs.Codes.{none_told, waiting}
use Rattle.ti_capi.specs.Handles.{Handle}
use Rattle.ti_capi.specs.Values.{ticket_written}

abbrev pub thread_no : ℕ → ThreadNo
thread_no n = record { 0 = n }

-- what the environment says of a post (`ti_service`, `Agent::post_now`)
abbrev pub IsPosted : ThreadNo → Call → AgentValue → AgentValue → Result AskedOf TiError → Type 0
IsPosted t c old new (Ok a) = (posting_refusal old.env t c ≡ None) × Posts old.env new.env t c a × IsOutIfWaiting new.env a × (new.home ≡ old.home)
IsPosted t c old new (Err e) =
    ((Some e ≡ or_else (posting_refusal old.env t c) (if takes_buffer c then Some OutOfMemory else None)) ⊎ ((e ≡ Busy) × (posting_refusal old.env t c ≡ None)))
    × (new ≡ old)

-- what is written of it
abbrev pub IsPostWritten : Result AskedOf TiError → ℕ → CqAnswer → CqAnswer → List CqFrame → List CqFrame → Type 0
IsPostWritten (Ok (Answered x)) code a b f g = IsWritten x code a b f g
IsPostWritten (Ok (Waiting k)) code a b f g = (code ≡ waiting) × (b ≡ with_ticket a (ticket_written k)) × (g ≡ f)
IsPostWritten (Err e) code a b f g = (code ≡ number_of e) × (b ≡ a) × (g ≡ f)

-- What is said and written of a call that the environment makes
pub record Asked (t : ThreadNo) (c : Call) (s n : AgentValue) (code : ℕ) (a b : CqAnswer) (f g : List CqFrame) : Type 0 where
  pub told : Result AskedOf TiError
  pub is_posted : IsPosted t c s n told
  pub is_written : IsPostWritten told code a b f g

-- A call at a thread: the handle, the code, and the caller's answer and frames before and after
abbrev pub Asks : ThreadNo → Call → Handle → Handle → ℕ → CqAnswer → CqAnswer → List CqFrame → List CqFrame → Type 0
Asks t c old new code a b f g = Calls (λ s n k. Asked t c s n k a b f g) ((b ≡ a) × (g ≡ f)) old new code

-- the same with no room for frames
abbrev pub AsksPlain : ThreadNo → Call → Handle → Handle → ℕ → CqAnswer → CqAnswer → Type 0
AsksPlain t c old new code a b = (g : List CqFrame) × Asks t c old new code a b [] g

-- what the environment says of a collection (`ti_service`, `Agent::collect_now`)
abbrev pub IsCollected : Ticket → AgentValue → AgentValue → Result (Option Answer) TiError → Type 0
IsCollected k old new (Ok r) =
    (place_in old.env.desks k.thread < length old.env.desks → LooksFor old.env new.env k (option_map said r))
    × (length old.env.desks ≤ place_in old.env.desks k.thread → (new ≡ old) × (r ≡ None)) × (new.home ≡ old.home)
IsCollected k old new (Err e) = (e ≡ Busy) × (new ≡ old)

-- what is written of it
abbrev pub IsCollectionWritten : Result (Option Answer) TiError → ℕ → CqAnswer → CqAnswer → List CqFrame → List CqFrame → Type 0
IsCollectionWritten (Ok (Some x)) code a b f g = IsWritten x code a b f g
IsCollectionWritten (Ok None) code a b f g = (code ≡ waiting) × (b ≡ a) × (g ≡ f)
IsCollectionWritten (Err e) code a b f g = (code ≡ number_of e) × (b ≡ a) × (g ≡ f)

pub record Collected (k : Ticket) (s n : AgentValue) (code : ℕ) (a b : CqAnswer) (f g : List CqFrame) : Type 0 where
  pub told : Result (Option Answer) TiError
  pub is_collected : IsCollected k s n told
  pub is_written : IsCollectionWritten told code a b f g

-- an answer is collected: the handle, the code, and the caller's answer and frames before and after
abbrev pub Collects : Ticket → Handle → Handle → ℕ → CqAnswer → CqAnswer → List CqFrame → List CqFrame → Type 0
Collects k old new code a b f g = Calls (λ s n e. Collected k s n e a b f g) ((b ≡ a) × (g ≡ f)) old new code

-- what the environment says of an answer that it discards (`ti_service`, `Agent::discard_now`)
abbrev pub IsDiscarded : ThreadNo → AgentValue → AgentValue → Result (Option Discarded) TiError → Type 0
IsDiscarded t old new (Ok d) =
    DiscardsOwn old.env new.env t (is_some d)
    × IfSome d (λ r. TellsOwn old.env new.env t r.ticket (said r.answer))
    × (length old.env.desks ≤ place_in old.env.desks t → (new ≡ old) × (d ≡ None)) × (new.home ≡ old.home)
IsDiscarded t old new (Err e) = (e ≡ Busy) × DropsAt old.env new.env t × (new.home ≡ old.home)

-- what is written of it. If nothing is told, the code says whether a call that the environment cancelled is out at the thread
abbrev pub IsDiscardWritten : ThreadNo → AgentValue → Result (Option Discarded) TiError → ℕ → CqAnswer → CqAnswer → List CqFrame → List CqFrame → Type 0
IsDiscardWritten t n (Ok (Some d)) code a b f g = IsWritten d.answer code (with_ticket a (ticket_written d.ticket)) b f g
IsDiscardWritten t n (Ok None) code a b f g = (code ≡ (if has_cancelled_at n.env t then waiting else none_told)) × (b ≡ a) × (g ≡ f)
IsDiscardWritten t n (Err e) code a b f g = (code ≡ number_of e) × (b ≡ a) × (g ≡ f)

pub record CollectedCancelled (t : ThreadNo) (s n : AgentValue) (code : ℕ) (a b : CqAnswer) (f g : List CqFrame) : Type 0 where
  pub told : Result (Option Discarded) TiError
  pub is_discarded : IsDiscarded t s n told
  pub is_written : IsDiscardWritten t n told code a b f g

-- the answer to a call that was cancelled is collected: the handle, the code, and the caller's answer and frames before and after
abbrev pub CollectsCancelled : ThreadNo → Handle → Handle → ℕ → CqAnswer → CqAnswer → List CqFrame → List CqFrame → Type 0
CollectsCancelled t old new code a b f g = Calls (λ s n e. CollectedCancelled t s n e a b f g) ((b ≡ a) × (g ≡ f)) old new code
