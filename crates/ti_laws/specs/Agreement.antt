-- Two runs of one environment, of whatever services: what it is told of a thread depends on its own calls, on the entries of the
-- thread's history that concern it, and on nothing else.
use Rattle.std.specs.Prelude.{◌≡◌, ◌≢◌, ◌<◌, nat_lt, Bool, true, if◌then◌else◌, List, Option, Some, None, is_some, slice_get, slice_set}
use Rattle.ti_types.specs.Answer.{said}
use Rattle.ti_types.specs.declared.event.Ticket.{Ticket}
use Rattle.ti_types.specs.declared.answer.Answer.{Answer}
use Rattle.ti_types.specs.declared.call.Call.{Call}
use Rattle.ti_types.specs.declared.entry.Entry.{Entry}
use Rattle.ti_types.specs.declared.numbers.ThreadNo.{ThreadNo}
use Rattle.ti_env.specs.Env.{is_there, spent_at, with_spent}
use Rattle.ti_laws.specs.Concerns.{ConcernAlike}
use Rattle.ti_replay.specs.Legal.{asked_by}
use Rattle.ti_replay.specs.Makers.{StartsWith}
use Rattle.ti_slot.specs.declared.asked.Asked.{Asked as AskedOf}
use Rattle.ti_slot.specs.declared.asked.Asked.TheVariants.{Answered, Waiting}
use Rattle.ti_agent.specs.Deadlines.{Cancels, DiscardsAt, TellsDiscardedAt}
use Rattle.ti_handshake.specs.Desk.{DeskState}
use Rattle.ti_agent.specs.Env.{Environment, IsWhole, place_in, place_of, thread_refusal}
use Rattle.ti_agent.specs.Asks.{IsCalled, is_for_memory}
use Rattle.ti_agent.specs.Posts.{LooksFor, Posts, posting_refusal}

-- the desks of the two runs have made as many calls, and the same ones are out and cancelled
pub record AreAlike (p q : DeskState) : Type 0 where
  pub env : p.env ≡ q.env
  pub asked : asked_by p.env p.view.mine ≡ asked_by q.env q.view.mine
  pub posted : p.view.posted ≡ q.view.posted
  pub cancelled : p.cancelled ≡ q.cancelled

abbrev pub AreAlikeAt : Option DeskState → Option DeskState → Type 0
AreAlikeAt None None = Unit {0}
AreAlikeAt (Some p) (Some q) = AreAlike p q
AreAlikeAt _ _ = ⊥

-- what the environment keeps for itself of a thread is the same in both runs. All of it is made by its own calls
pub record KeepAlike (t : ThreadNo) (one other : Environment) : Type 0 where
  pub env : one.env ≡ other.env
  pub caps : one.state.caps ≡ other.state.caps
  pub limits : one.state.limits ≡ other.state.limits
  pub known : nat_lt t.0 one.state.known ≡ nat_lt t.0 other.state.known
  pub there : is_there one.state (place_of one.desks t) ≡ is_there other.state (place_of other.desks t)
  pub spent : spent_at one.state (place_of one.desks t) ≡ spent_at other.state (place_of other.desks t)
  pub desks : AreAlikeAt (slice_get one.desks (place_in one.desks t)) (slice_get other.desks (place_in other.desks t))

-- the environment has seen a beginning of this history at the thread
abbrev pub HasSeen : ThreadNo → Environment → List Entry → Type 0
HasSeen t s history = (p : DeskState) → slice_get s.desks (place_in s.desks t) ≡ Some p → StartsWith history p.view.seen

-- the environment refuses the same by itself
abbrev pub RefusalsAgree : Type 0
RefusalsAgree = (t : ThreadNo) (c : Call) (one other : Environment) → KeepAlike t one other → thread_refusal one t c ≡ thread_refusal other t c

-- A call in two runs. What the environment kept of the thread was the same before it. The histories that the thread has at the
-- end, of which the environment saw beginnings, have the same entries that concern it, as far as the shorter one goes; and lack
-- of memory was told in both or in neither. Then the answers are equal, and what the environment keeps is the same afterwards
abbrev pub CallsAgree : Type 0
CallsAgree =
    (t : ThreadNo) (c : Call) (one one_new other other_new : Environment) (a b : Answer) (history other_history : List Entry) →
    IsWhole one → IsWhole other → one.env.0 < one.state.limits.envs → KeepAlike t one other →
    IsCalled one one_new t c a → IsCalled other other_new t c b → is_for_memory a ≡ is_for_memory b →
    HasSeen t one_new history → HasSeen t other_new other_history → ConcernAlike one.env history other_history →
    (a ≡ b) × KeepAlike t one_new other_new

-- what a post gives is the same: answers without the rooms of their buffers, or the same ticket
abbrev pub ToldAlike : AskedOf → AskedOf → Type 0
ToldAlike (Answered a) (Answered b) = said a ≡ said b
ToldAlike (Waiting k) (Waiting l) = k ≡ l
ToldAlike _ _ = ⊥

-- The same of a call that is posted
abbrev pub PostsAgree : Type 0
PostsAgree =
    (t : ThreadNo) (c : Call) (one one_new other other_new : Environment) (r x : AskedOf) (history other_history : List Entry) →
    IsWhole one → IsWhole other → one.env.0 < one.state.limits.envs → KeepAlike t one other →
    Posts one one_new t c r → Posts other other_new t c x →
    HasSeen t one_new history → HasSeen t other_new other_history → ConcernAlike one.env history other_history →
    ToldAlike r x × KeepAlike t one_new other_new

-- Of an answer that is looked for, by a ticket of the environment's: whether it was there is a matter of when each run looked.
-- If it was there in both or in neither, the answers are equal
abbrev pub LooksAgree : Type 0
LooksAgree =
    (k : Ticket) (one one_new other other_new : Environment) (r x : Option Answer) (history other_history : List Entry) →
    IsWhole one → IsWhole other → k.env ≡ one.env → one.env.0 < one.state.limits.envs → KeepAlike k.thread one other →
    LooksFor one one_new k r → LooksFor other other_new k x → is_some r ≡ is_some x →
    HasSeen k.thread one_new history → HasSeen k.thread other_new other_history → ConcernAlike one.env history other_history →
    (r ≡ x) × KeepAlike k.thread one_new other_new

-- A call that is cancelled, and an answer that is discarded, keep what is alike
abbrev pub CancelsAgree : Type 0
CancelsAgree =
    (k : Ticket) (one one_new other other_new : Environment) → IsWhole one → IsWhole other → KeepAlike k.thread one other →
    Cancels one one_new k → Cancels other other_new k → KeepAlike k.thread one_new other_new

abbrev pub DiscardsAgree : Type 0
DiscardsAgree =
    (t : ThreadNo) (one one_new other other_new : Environment) (was_there : Bool) → IsWhole one → IsWhole other → KeepAlike t one other →
    DiscardsAt one one_new t was_there → DiscardsAt other other_new t was_there → KeepAlike t one_new other_new

-- What is told of the answers, where both runs discarded one: the same call, and the same answer to it
abbrev pub DiscardsTellAlike : Type 0
DiscardsTellAlike =
    (t : ThreadNo) (one one_new other other_new : Environment) (k l : Ticket) (a b : Answer) (history other_history : List Entry) →
    IsWhole one → IsWhole other → k.env ≡ one.env → one.env.0 < one.state.limits.envs → KeepAlike t one other →
    DiscardsAt one one_new t true → DiscardsAt other other_new t true →
    TellsDiscardedAt one one_new t k a → TellsDiscardedAt other other_new t l b →
    HasSeen t one_new history → HasSeen t other_new other_history → ConcernAlike one.env history other_history →
    (k ≡ l) × (a ≡ b)

-- A post is refused the same by the environment itself, a full window included
abbrev pub PostRefusalsAgree : Type 0
PostRefusalsAgree = (t : ThreadNo) (c : Call) (one other : Environment) → KeepAlike t one other → posting_refusal one t c ≡ posting_refusal other t c

-- One call at another thread, whatever it adds there: what is kept of this thread stays, desk and all
pub record IsElsewhere (old new : Environment) (u : ThreadNo) : Type 0 where
  pub before : DeskState
  pub after : DeskState
  pub paid : Bool
  pub there : slice_get old.desks (place_in old.desks u) ≡ Some before
  pub about : before.view.subject.thread ≡ u
  pub subject : after.view.subject ≡ before.view.subject
  pub new_is : new ≡ record { env = old.env; state = if paid then with_spent old.state (place_of old.desks u) else old.state; desks = slice_set old.desks (place_in old.desks u) after }

abbrev pub ElsewhereStays : Type 0
ElsewhereStays =
    (t u : ThreadNo) (one one_new other : Environment) → u.0 ≢ t.0 → IsWhole one → IsElsewhere one one_new u → KeepAlike t one other → KeepAlike t one_new other
