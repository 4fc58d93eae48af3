-- Two runs of one environment: what it did one after another, and what it was told.
use Rattle.std.specs.Prelude.{◌≡◌, ◌⊎◌, ◌<◌, ◌==◌, Bool, true, false, if◌then◌else◌, List, [], ◌∷◌, Option, Some, None, is_some}
use Rattle.ti_types.specs.Refusing.{or_else}
use Rattle.ti_types.specs.declared.answer.Answer.{Answer}
use Rattle.ti_types.specs.declared.call.Call.{Call}
use Rattle.ti_types.specs.declared.caps.Caps.{Caps}
use Rattle.ti_types.specs.declared.entry.Entry.{Entry}
use Rattle.ti_types.specs.declared.error.TiError.{TiError}
use Rattle.ti_types.specs.declared.error.TiError.TheVariants.{Busy, OutOfMemory}
use Rattle.ti_types.specs.declared.event.Ticket.{Ticket}
use Rattle.ti_types.specs.declared.numbers.ThreadNo.{ThreadNo}
use Rattle.ti_env.specs.Env.{with_caps}
use Rattle.ti_replay.specs.Admission.{takes_buffer}
use Rattle.ti_laws.specs.Concerns.{ConcernAlike}
use Rattle.ti_slot.specs.declared.asked.Asked.{Asked as AskedOf}
use Rattle.ti_agent.specs.Deadlines.{Cancels, DiscardsAt, TellsDiscardedAt}
use Rattle.ti_agent.specs.Env.{Environment, IsWhole}
use Rattle.ti_agent.specs.Asks.{IsCalled, is_for_memory}
use Rattle.ti_agent.specs.Posts.{LooksFor, Posts, posting_refusal}
use Rattle.ti_laws.specs.Agreement.{HasSeen, KeepAlike, ToldAlike}

-- a call that was cancelled, and the answer to it that was discarded
abbrev pub Told : Type 0
Told = Ticket × Answer

-- what is told where an answer was discarded. The call is the environment's
abbrev pub IsToldOf : Environment → Environment → ThreadNo → Option Told → Type 0
IsToldOf old new t (Some r) = (r.0.env ≡ old.env) × TellsDiscardedAt old new t r.0 r.1
IsToldOf old new t None = Unit {0}

-- something that an environment did, with what it was told
pub data Deed : Type 0 where
  Asks : (thread : ThreadNo) → (call : Call) → (answer : Answer) → Deed
  Puts : (thread : ThreadNo) → (call : Call) → (told : AskedOf) → Deed
  Fails : (thread : ThreadNo) → (call : Call) → (error : TiError) → Deed
  Looks : (ticket : Ticket) → (answer : Option Answer) → Deed
  Stops : (ticket : Ticket) → Deed
  Drops : (thread : ThreadNo) → (told : Option Told) → Deed
  Holds : (caps : Caps) → Deed

-- what it does to the environment. `Fails` is a post that was refused
abbrev pub Does : Deed → Environment → Environment → Type 0
Does (Asks t c a) old new = IsCalled old new t c a
Does (Puts t c r) old new = (posting_refusal old t c ≡ None) × Posts old new t c r
Does (Fails t c e) old new =
    (new ≡ old) × ((Some e ≡ or_else (posting_refusal old t c) (if takes_buffer c then Some OutOfMemory else None)) ⊎ ((e ≡ Busy) × (posting_refusal old t c ≡ None)))
Does (Looks k r) old new = (k.env ≡ old.env) × LooksFor old new k r
Does (Stops k) old new = Cancels old new k
Does (Drops t told) old new = DiscardsAt old new t (is_some told) × IsToldOf old new t told
Does (Holds caps) old new = new ≡ record { env = old.env; state = with_caps old.state caps; desks = old.desks }

-- one deed after another, of an environment
abbrev pub DoesAll : List Deed → Environment → Environment → Type 0
DoesAll [] old new = new ≡ old
DoesAll (x ∷ xs) old new = (mid : Environment) × IsWhole old × Does x old mid × DoesAll xs mid new

-- an error that is a matter of memory, or of who holds the thread's cell
abbrev pub is_by_chance : TiError → Bool
is_by_chance Busy = true
is_by_chance OutOfMemory = true
is_by_chance _ = false

-- The environment did the same in two runs, and the same of it was by chance: that memory was lacking, that a cell was in use, or
-- that an answer was not there yet when it was looked for
abbrev pub SameDeed : Deed → Deed → Type 0
SameDeed (Asks t c a) (Asks u d b) = (t ≡ u) × (c ≡ d) × (is_for_memory a ≡ is_for_memory b)
SameDeed (Puts t c r) (Puts u d x) = (t ≡ u) × (c ≡ d)
SameDeed (Puts t c r) (Fails u d f) = (t ≡ u) × (c ≡ d) × (is_by_chance f ≡ false)
SameDeed (Fails t c e) (Puts u d x) = (t ≡ u) × (c ≡ d) × (is_by_chance e ≡ false)
SameDeed (Fails t c e) (Fails u d f) = (t ≡ u) × (c ≡ d) × (is_by_chance e ≡ is_by_chance f) × (is_by_chance e ≡ true → e ≡ f)
SameDeed (Looks k r) (Looks l x) = (k ≡ l) × (is_some r ≡ is_some x)
SameDeed (Stops k) (Stops l) = k ≡ l
SameDeed (Drops t b) (Drops u d) = (t ≡ u) × (is_some b ≡ is_some d)
SameDeed (Holds a) (Holds b) = a ≡ b
SameDeed _ _ = ⊥

abbrev pub SameDeeds : List Deed → List Deed → Type 0
SameDeeds [] [] = Unit {0}
SameDeeds (x ∷ xs) (y ∷ ys) = SameDeed x y × SameDeeds xs ys
SameDeeds _ _ = ⊥

-- it was told the same
abbrev pub TellSame : Deed → Deed → Type 0
TellSame (Asks t c a) (Asks u d b) = a ≡ b
TellSame (Puts t c r) (Puts u d x) = ToldAlike r x
TellSame (Fails t c e) (Fails u d f) = e ≡ f
TellSame (Looks k r) (Looks l x) = r ≡ x
TellSame (Stops k) (Stops l) = Unit {0}
TellSame (Drops t b) (Drops u d) = b ≡ d
TellSame (Holds a) (Holds b) = Unit {0}
TellSame _ _ = ⊥

-- whether it is about a thread
abbrev pub is_at : ThreadNo → Deed → Bool
is_at t (Asks u c a) = u.0 == t.0
is_at t (Puts u c r) = u.0 == t.0
is_at t (Fails u c e) = u.0 == t.0
is_at t (Looks k r) = k.thread.0 == t.0
is_at t (Stops k) = k.thread.0 == t.0
is_at t (Drops u b) = u.0 == t.0
is_at t (Holds caps) = false

abbrev pub TellIf : Bool → Deed → Deed → Type 0
TellIf true x y = TellSame x y
TellIf false x y = Unit {0}

-- about a thread it was told the same, one deed after another
abbrev pub TellAllSame : ThreadNo → List Deed → List Deed → Type 0
TellAllSame t [] [] = Unit {0}
TellAllSame t (x ∷ xs) (y ∷ ys) = TellIf (is_at t x) x y × TellAllSame t xs ys
TellAllSame t _ _ = ⊥

-- The two-run law. In two runs an environment begins alike at a thread, and does the same, at whatever threads. The histories
-- that the thread has in the end have the same entries that concern it. Then it is told the same of the thread, and keeps the same
abbrev pub RunsAgree : Type 0
RunsAgree =
    (t : ThreadNo) (xs ys : List Deed) (one one_end other other_end : Environment) (history other_history : List Entry) →
    one.env.0 < one.state.limits.envs → KeepAlike t one other → SameDeeds xs ys →
    DoesAll xs one one_end → DoesAll ys other other_end →
    HasSeen t one_end history → HasSeen t other_end other_history → ConcernAlike one.env history other_history →
    TellAllSame t xs ys × KeepAlike t one_end other_end
