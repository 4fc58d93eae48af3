-- What threads are asked, and what they told.
use Rattle.std.specs.Prelude.{ℕ, zero, suc, pos, ◌≡◌, ◌⊎◌, Bool, true, false, List, [], ◌∷◌, length, Some, None}
use Rattle.ti_types.specs.declared.answer.Answer.{Answer}
use Rattle.ti_types.specs.declared.answer.Answer.TheVariants as answer
use Rattle.ti_types.specs.declared.call.Call.{Call}
use Rattle.ti_types.specs.declared.call.Call.TheVariants as call
use Rattle.ti_types.specs.declared.error.TiError.{TiError}
use Rattle.ti_types.specs.declared.error.TiError.TheVariants.{ThreadNotAlive}
use Rattle.ti_types.specs.declared.numbers.ThreadNo.{ThreadNo}
use Rattle.ti_types.specs.Frames.{bare_trace}
use Rattle.ti_slot.specs.declared.asked.Asked.{Asked as AskedOf}
use Rattle.ti_slot.specs.declared.asked.Asked.TheVariants.{Answered}
use Rattle.ti_agent.specs.Posts.{LooksFor, Posts, posting_refusal}
use Rattle.ti_service.specs.Memberships.{AgentValue}
use Rattle.ti_monitor.specs.declared.asking.Told.{Told}
use Rattle.ti_monitor.specs.declared.asking.Told.TheVariants.{Stack, NotAlive, Unanswered, NotYet}
use Rattle.ti_monitor.specs.declared.watched.Out.{Out}
use Rattle.ti_monitor.specs.declared.watched.Watched.{Watched}
use Rattle.ti_monitor.specs.States.{is_suspended, place_of}
use Rattle.ti_monitor.specs.Watching.{is_done}

-- it is the same thread, and has handed over as often as before
pub record IsStill (w v : Watched) : Type 0 where
  pub thread : v.thread ≡ w.thread
  pub name : v.name ≡ w.name
  pub priority : v.priority ≡ w.priority
  pub gone : v.gone ≡ w.gone
  pub handed : v.handed ≡ w.handed

-- the thread is now seen in the state that these bits tell
pub record IsSeen (bits : ℕ) (w v : Watched) : Type 0 where
  pub still : IsStill w v
  pub out : v.out ≡ w.out
  pub state : v.state ≡ place_of bits
  pub suspended : v.suspended ≡ is_suspended bits

-- no call is out there any more
pub record IsCollected (w v : Watched) : Type 0 where
  pub still : IsStill w v
  pub out : v.out ≡ None
  pub state : v.state ≡ w.state
  pub suspended : v.suspended ≡ w.suspended

-- the agent made a call at a thread, and got this
abbrev pub Asks : AgentValue → AgentValue → ThreadNo → Call → AskedOf → Type 0
Asks a b thread c r = Posts a.env b.env thread c r × (b.home ≡ a.home)

-- it made the call, or was refused it
abbrev pub MayAsk : AgentValue → AgentValue → ThreadNo → Call → Type 0
MayAsk a b thread c = (b ≡ a) ⊎ ((r : AskedOf) × Asks a b thread c r)

-- the thread answered in which state it is, and is seen in that state
abbrev pub Probes : AgentValue → AgentValue → Watched → Watched → Type 0
Probes a b w v = (bits : ℕ) × Asks a b w.thread call.State (Answered (answer.State bits)) × IsSeen bits w v

-- it told nothing, and is seen as before
abbrev pub ProbesNot : AgentValue → AgentValue → Watched → Watched → Type 0
ProbesNot a b w v = MayAsk a b w.thread call.State × (v ≡ w)

-- it told its state, or nothing. One that was let go of is asked nothing
abbrev pub MayProbe : AgentValue → AgentValue → Watched → Watched → Type 0
MayProbe a b w v = ((w.gone ≡ true) × (b ≡ a) × (v ≡ w)) ⊎ ((w.gone ≡ false) × (Probes a b w v ⊎ ProbesNot a b w v))

-- so the first ones of these threads, one after the other. The others are seen as before
abbrev pub ProbesFirst : ℕ → AgentValue → AgentValue → List Watched → List Watched → Type 0
ProbesFirst zero a c ws vs = (c ≡ a) × (vs ≡ ws)
ProbesFirst (suc n) a c [] vs = (c ≡ a) × (vs ≡ [])
ProbesFirst (suc n) a c (w ∷ ws) [] = ⊥
ProbesFirst (suc n) a c (w ∷ ws) (v ∷ vs) = (b : AgentValue) × MayProbe a b w v × ProbesFirst n b c ws vs

abbrev pub ProbesAll : AgentValue → AgentValue → List Watched → List Watched → Type 0
ProbesAll a c ws vs = ProbesFirst (length ws) a c ws vs

-- the question for the newest frames
abbrev pub newest : Call
newest = call.Trace (pos 0) (pos 512)

-- a call at a thread was refused since the thread is not alive: by the thread, or by the agent's environment, which then has no desk there
abbrev pub IsNotAlive : AgentValue → AgentValue → ThreadNo → Call → Type 0
IsNotAlive a b thread c =
    Asks a b thread c (Answered (answer.Refused ThreadNotAlive)) ⊎ ((posting_refusal a.env thread c ≡ Some ThreadNotAlive) × (b ≡ a))

-- the thread was asked for its stack, and told it, or is not alive
abbrev pub AsksStack : AgentValue → AgentValue → Watched → Watched → Told → Type 0
AsksStack a b w v (Stack trace) = Asks a b w.thread newest (Answered (answer.Trace trace)) × (v ≡ w)
AsksStack a b w v NotAlive = IsNotAlive a b w.thread newest × (v ≡ w)
AsksStack a b w v _ = Unit {0}

-- what a thread told of its stack that then told whether it has ended: a stack of one that has ended is none
abbrev pub seen_with : Bool → Told → Told
seen_with ended NotAlive = NotAlive
seen_with ended Unanswered = Unanswered
seen_with ended NotYet = NotYet
seen_with false (Stack trace) = Stack trace
seen_with true (Stack trace) = NotAlive

-- the thread gave this answer to the call that was out there
abbrev pub AnswersLater : AgentValue → AgentValue → Watched → Watched → Answer → Type 0
AnswersLater a b w v said = (out : Out) × (w.out ≡ Some out) × LooksFor a.env b.env out.ticket (Some said) × (b.home ≡ a.home) × IsCollected w v

-- a stack, or that the thread is not alive, was told so
abbrev pub CollectsStack : AgentValue → AgentValue → Watched → Watched → Told → Type 0
CollectsStack a b w v (Stack trace) = AnswersLater a b w v (answer.Trace (bare_trace trace.frames))
CollectsStack a b w v NotAlive = AnswersLater a b w v (answer.Refused ThreadNotAlive)
CollectsStack a b w v _ = Unit {0}

-- what an answer to the question for a stack tells
abbrev pub IsToldBy : Answer → Told → Type 0
IsToldBy said (Stack trace) = said ≡ answer.Trace trace
IsToldBy said NotAlive = said ≡ answer.Refused ThreadNotAlive
IsToldBy said _ = Unit {0}

-- what a refusal tells
abbrev pub IsRefusedBy : TiError → Told → Type 0
IsRefusedBy e (Stack trace) = ⊥
IsRefusedBy e NotAlive = e ≡ ThreadNotAlive
IsRefusedBy e _ = Unit {0}

-- what a thread told of its stack that was then refused its state: a stack without a state is none
abbrev pub IsUnseenBy : TiError → Told → Told → Type 0
IsUnseenBy e (Stack trace) told = IsRefusedBy e told
IsUnseenBy e NotAlive told = told ≡ NotAlive
IsUnseenBy e Unanswered told = told ≡ Unanswered
IsUnseenBy e NotYet told = told ≡ NotYet

-- a thread that told something of its stack was then asked for its state: it told it, and that is the state in which it is seen, or not
abbrev pub SeesAfter : AgentValue → AgentValue → Watched → Watched → Told → Told → Type 0
SeesAfter a b w v told seen =
    (Probes a b w v × (seen ≡ seen_with (is_done v) told))
    ⊎ (ProbesNot a b w v × ((e : TiError) × (e ≡ ThreadNotAlive → IsNotAlive a b w.thread call.State) × IsUnseenBy e told seen))

-- the agent let go of the thread; or it was asked for its stack, and then for its state
abbrev pub TellsAtOnce : AgentValue → AgentValue → Watched → Watched → Told → Type 0
TellsAtOnce a b w v seen =
    ((w.gone ≡ true) × (b ≡ a) × (v ≡ w) × (seen ≡ NotAlive))
    ⊎ ((m : AgentValue) × (u : Watched) × (told : Told) × AsksStack a m w u told × SeesAfter m b u v told seen)

-- nothing is known yet; or the answer to the call that was out came, and then it was asked for its state
abbrev pub TellsLater : AgentValue → AgentValue → Watched → Watched → Told → Type 0
TellsLater a b w v seen =
    (seen ≡ NotYet) ⊎ ((m : AgentValue) × (u : Watched) × (told : Told) × CollectsStack a m w u told × SeesAfter m b u v told seen)
