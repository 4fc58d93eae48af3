-- Calls of an environment, as C makes them.
use Rattle.std.specs.Prelude.{ℕ, ◌≡◌, ◌<◌, ◌≤◌, ◌⊎◌, ◌&&◌, nat_lt, Bool, true, false, is_some, List, length, map, Option, Some, None, bit_and}
use Rattle.std.specs.String.{string_bytes}
use Rattle.ti_types.specs.Caps.{caps_with, caps_without, has_all}
use Rattle.ti_types.specs.TiError.{number_of}
use Rattle.ti_types.specs.declared.error.TiError.{TiError}
use Rattle.ti_types.specs.declared.error.TiError.TheVariants.{Busy, IllegalArgument, NotAvailable, OutOfMemory}
use Rattle.ti_types.specs.declared.event.Ticket.{Ticket}
use Rattle.ti_types.specs.declared.numbers.EnvNo.{EnvNo}
use Rattle.ti_types.specs.declared.numbers.ThreadNo.{ThreadNo}
use Rattle.ti_env.specs.Env.{EnvValue, with_caps}
use Rattle.ti_agent.specs.Deadlines.{Cancels, DiscardsOwn, DropsAt}
use Rattle.ti_agent.specs.Env.{Environment, place_in}
use Rattle.ti_agent.specs.HandOvers.{TellsStopper, absence_refusal}
use Rattle.ti_roster.specs.Stages.{alive}
use Rattle.ti_roster.specs.Roster.{IsToldOf}
use Rattle.ti_roster.specs.declared.info.ThreadInfo.{ThreadInfo}
use Rattle.ti_service.specs.Agent.{IsSameBut}
use Rattle.ti_service.specs.LettingGo.{LetsGo, LetsGoBelow, LetsGoOfSome}
use Rattle.ti_service.specs.Meeting.{KeepsNow, Meets, TellsAgentNews}
use Rattle.ti_service.specs.Memberships.{AgentValue, state_of}
use Rattle.ti_service.specs.Service.{Looks, RefusesInfo, roster_seen}
use Rattle.ti_service.specs.Telling.{Enables, IsLife, IsLifeEnabled, TellsNext, is_enabled, with_events, without}
use Rattle.ti_service.specs.declared.event.EventKind.{EventKind}
use Rattle.ti_service.specs.declared.event.NextEvent.{NextEvent}
use Rattle.ti_capi.specs.declared.values.CqEvent.{CqEvent}
use Rattle.ti_capi.specs.declared.values.CqThreadInfo.{CqThreadInfo}
use Rattle.ti_capi.specs.Codes.{misused, none_told}
use Rattle.ti_capi.specs.declared.held.HeldEnv.{HeldEnv}
use Rattle.ti_capi.specs.Handles.{Handle, env_in, with_held_env}
use Rattle.ti_capi.specs.Values.{event_written, over}

-- A call of the environment of a box, with a code. If there is none, there is none afterwards, and nothing is written
abbrev pub CallsTo : Option AgentValue → Option AgentValue → (AgentValue → AgentValue → ℕ → Type 0) → (unwritten : Type 0) → ℕ → Type 0
CallsTo (Some s) (Some n) R unwritten code = R s n code
CallsTo (Some s) None R unwritten code = ⊥
CallsTo None n R unwritten code = (n ≡ None) × (code ≡ misused) × unwritten

-- a call of the environment changes nothing else behind a handle
abbrev pub IsSameBeside : HeldEnv → HeldEnv → Type 0
IsSameBeside h n = (n.trace ≡ h.trace) × (n.stacks ≡ h.stacks)

-- the same behind a handle: if it is empty or of another kind, nothing changes
abbrev pub CallsBehind : Option HeldEnv → Option HeldEnv → (AgentValue → AgentValue → ℕ → Type 0) → (unwritten : Type 0) → Handle → Handle → ℕ → Type 0
CallsBehind (Some h) (Some n) R unwritten old new code = (new ≡ with_held_env old n) × IsSameBeside h n × CallsTo h.agent n.agent R unwritten code
CallsBehind (Some h) None R unwritten old new code = ⊥
CallsBehind None n R unwritten old new code = (new ≡ old) × (code ≡ misused) × unwritten

abbrev pub Calls : (AgentValue → AgentValue → ℕ → Type 0) → (unwritten : Type 0) → Handle → Handle → ℕ → Type 0
Calls R unwritten old new code = CallsBehind (env_in old) (env_in new) R unwritten old new code

-- the environment with other things of its own
abbrev pub env_with : Environment → EnvValue → Environment
env_with e state = record { env = e.env; state = state; desks = e.desks }

-- a call is cancelled (`ti_service`, `Agent::cancel_now`)
pub data CancelsBy (k : Ticket) (s n : AgentValue) (code : ℕ) : Type 0 where
  Cancelled : code ≡ 0 → n.home ≡ s.home → (place_in s.env.desks k.thread < length s.env.desks → Cancels s.env n.env k) → (length s.env.desks ≤ place_in s.env.desks k.thread → n ≡ s) → CancelsBy k s n code
  NotCancelled : (e : TiError) → code ≡ number_of e → (e ≡ OutOfMemory) ⊎ (e ≡ Busy) → n ≡ s → CancelsBy k s n code

-- an answer is discarded, or not (`ti_service`, `Agent::discard_now`)
pub data DiscardsBy (t : ThreadNo) (b0 b1 : Bool) (s n : AgentValue) (code : ℕ) : Type 0 where
  Discarded : code ≡ 0 → n.home ≡ s.home → DiscardsOwn s.env n.env t b1 → (length s.env.desks ≤ place_in s.env.desks t → (n ≡ s) × (b1 ≡ false)) → DiscardsBy t b0 b1 s n code
  DiscardBusy : code ≡ number_of Busy → b1 ≡ b0 → n.home ≡ s.home → DropsAt s.env n.env t → DiscardsBy t b0 b1 s n code

-- threads are met (`ti_service`, `meet_now`)
pub data MeetsBy (s n : AgentValue) (code : ℕ) : Type 0 where
  Met : code ≡ 0 → Meets (state_of s) (state_of n) → MeetsBy s n code
  NotMet : (e : TiError) → code ≡ number_of e → KeepsNow (state_of s) (state_of n) e → MeetsBy s n code

-- Whether there is news: the environment looked, and that is all that changes (`ti_service`, `has_news`). If there is no
-- environment, there is no news
abbrev pub TellsNewsOf : Option AgentValue → Option AgentValue → Bool → Type 0
TellsNewsOf (Some s) (Some n) news = TellsAgentNews (state_of s) (state_of n) news
TellsNewsOf (Some s) None news = ⊥
TellsNewsOf None n news = (n ≡ None) × (news ≡ false)

-- the same behind a handle: if it is empty or of another kind, nothing changes
abbrev pub HasNewsBehind : Option HeldEnv → Option HeldEnv → Handle → Handle → Bool → Type 0
HasNewsBehind (Some h) (Some n) old new news = (new ≡ with_held_env old n) × IsSameBeside h n × TellsNewsOf h.agent n.agent news
HasNewsBehind (Some h) None old new news = ⊥
HasNewsBehind None n old new news = (new ≡ old) × (news ≡ false)

abbrev pub HasNews : Handle → Handle → Bool → Type 0
HasNews old new news = HasNewsBehind (env_in old) (env_in new) old new news

-- a thread is let go of, or not (`ti_service`, `let_go_now`)
pub data LetsGoBy (t : ThreadNo) (b0 b1 : Bool) (s n : AgentValue) (code : ℕ) : Type 0 where
  LetGo : code ≡ 0 → LetsGo (state_of s) (state_of n) t b1 → LetsGoBy t b0 b1 s n code
  LetGoBusy : code ≡ number_of Busy → b1 ≡ b0 → n ≡ s → LetsGoBy t b0 b1 s n code

-- all threads that were given back are let go of, or some of them (`ti_service`, `let_go_of_all_now`)
pub data LetsGoOfAllBy (s n : AgentValue) (code : ℕ) : Type 0 where
  AllGone : code ≡ 0 → LetsGoBelow (length s.env.desks) (state_of s) (state_of n) → LetsGoOfAllBy s n code
  SomeGone : code ≡ number_of Busy → LetsGoOfSome (state_of s) (state_of n) → LetsGoOfAllBy s n code

-- the list of threads could not be read: there was no memory, or it was in use
abbrev pub RefusesList : AgentValue → AgentValue → TiError → Type 0
RefusesList s n e = ((e ≡ OutOfMemory) × Looks s.home.service.view n.home.service.view) ⊎ ((e ≡ Busy) × (n ≡ s))

-- the threads that are there
abbrev pub listed : AgentValue → List ThreadNo
listed a = map (λ t. t.thread) (alive a.home.service.view.seen)

-- the numbers of the threads that are there (`ti_service`, `get_all_threads_now`)
pub data ListsBy (l0 l1 : List ℕ) (c0 c1 : ℕ) (s n : AgentValue) (code : ℕ) : Type 0 where
  Listed : code ≡ 0 → IsSameBut (state_of s) (state_of n) → Looks s.home.service.view n.home.service.view
      → l1 ≡ over (map (λ t. t.0) (listed n)) l0 → c1 ≡ length (listed n) → ListsBy l0 l1 c0 c1 s n code
  NotListed : (e : TiError) → code ≡ number_of e → l1 ≡ l0 → c1 ≡ c0 → IsSameBut (state_of s) (state_of n) → RefusesList s n e → ListsBy l0 l1 c0 c1 s n code

-- what is told of a thread (`ti_service`, `get_thread_info_now`)
pub data TellsInfoBy (t : ThreadNo) (i0 i1 : CqThreadInfo) (l0 l1 : List ℕ) (s n : AgentValue) (code : ℕ) : Type 0 where
  InfoTold : (told : ThreadInfo) → code ≡ 0 → IsSameBut (state_of s) (state_of n) → Looks s.home.service.view n.home.service.view → IsToldOf (roster_seen n.home.service.view) t told
      → i1 ≡ record { name_length = length (string_bytes told.name); priority = told.priority } → l1 ≡ over (string_bytes told.name) l0 → TellsInfoBy t i0 i1 l0 l1 s n code
  InfoRefused : (e : TiError) → code ≡ number_of e → i1 ≡ i0 → l1 ≡ l0 → IsSameBut (state_of s) (state_of n) → RefusesInfo s.home.service.view n.home.service.view t e ⊎ ((e ≡ Busy) × (n ≡ s)) → TellsInfoBy t i0 i1 l0 l1 s n code

-- events of a kind are enabled or disabled (`ti_service`, `set_event_notification_mode_now`)
pub data EnablesBy (enabled : Bool) (k : EventKind) (s n : AgentValue) (code : ℕ) : Type 0 where
  ModeSet : code ≡ 0 → (enabled ≡ false → state_of n ≡ with_events (state_of s) (without s.home.events k)) → (enabled ≡ true → is_enabled s.home.events k ≡ true → n ≡ s) → (enabled ≡ true → is_enabled s.home.events k ≡ false → Enables k (state_of s) (state_of n)) → EnablesBy enabled k s n code
  ModeBusy : code ≡ number_of Busy → enabled ≡ true → is_enabled s.home.events k ≡ false → IsLife k → n ≡ s → EnablesBy enabled k s n code

-- or there is no such kind
abbrev pub SetsModeBy : Bool → Option EventKind → AgentValue → AgentValue → ℕ → Type 0
SetsModeBy enabled (Some k) s n code = EnablesBy enabled k s n code
SetsModeBy enabled None s n code = (code ≡ number_of IllegalArgument) × (n ≡ s)

-- the next event (`ti_service`, `next_event_now`)
pub data TellsEventBy (e0 e1 : CqEvent) (s n : AgentValue) (code : ℕ) : Type 0 where
  EventTold : (next : NextEvent) → code ≡ 0 → TellsNext (state_of s) (state_of n) (Some next) → e1 ≡ event_written next → TellsEventBy e0 e1 s n code
  NoEvent : code ≡ none_told → TellsNext (state_of s) (state_of n) None → e1 ≡ e0 → TellsEventBy e0 e1 s n code
  EventBusy : code ≡ number_of Busy → IsLifeEnabled (state_of s) → n ≡ s → e1 ≡ e0 → TellsEventBy e0 e1 s n code

-- whose stop is in force at a thread (`ti_agent`, `stopper_now`)
pub data TellsStopperBy (t : ThreadNo) (n0 n1 : ℕ) (s n : AgentValue) (code : ℕ) : Type 0 where
  StopperTold : (e : EnvNo) → code ≡ 0 → n.home ≡ s.home → TellsStopper s.env n.env t (Some e) → n1 ≡ e.0 → TellsStopperBy t n0 n1 s n code
  NobodyStops : code ≡ none_told → n.home ≡ s.home → TellsStopper s.env n.env t None → n1 ≡ n0 → TellsStopperBy t n0 n1 s n code
  StopperAbsent : (e : TiError) → code ≡ number_of e → absence_refusal s.env t ≡ Some e → n ≡ s → n1 ≡ n0 → TellsStopperBy t n0 n1 s n code
  StopperBusy : code ≡ number_of Busy → absence_refusal s.env t ≡ None → n ≡ s → n1 ≡ n0 → TellsStopperBy t n0 n1 s n code

-- whether the environment can have these capabilities
abbrev pub may_have : AgentValue → ℕ → Bool
may_have s bits = nat_lt bits 4 && has_all s.home.service.cell.potential (record { bits = bits })

-- capabilities are added, all or none
pub data AddsBy (bits : ℕ) (s n : AgentValue) (code : ℕ) : Type 0 where
  Added : code ≡ 0 → may_have s bits ≡ true → n.home ≡ s.home → n.env ≡ env_with s.env (with_caps s.env.state (caps_with s.env.state.caps (record { bits = bits }))) → AddsBy bits s n code
  NotAdded : code ≡ number_of NotAvailable → may_have s bits ≡ false → n ≡ s → AddsBy bits s n code

-- capabilities are taken away
abbrev pub RelinquishesBy : ℕ → AgentValue → AgentValue → ℕ → Type 0
RelinquishesBy bits s n code = (code ≡ 0) × (n.home ≡ s.home) × (n.env ≡ env_with s.env (with_caps s.env.state (caps_without s.env.state.caps (record { bits = bit_and bits 255 }))))
