-- Handles of the service, and what is attached by them.
use Rattle.std.specs.Prelude.{IsSomeAnd, IsUtf8, ℕ, ℤ, ◌≡◌, ◌<◌, ◌≤◌, ◌⊎◌, ◌==◌, ⊤, true, false, List, [], Option, Some, None}
use Rattle.std.specs.String.{string_bytes}
use Rattle.ti_types.specs.Limits.{IsWithin, most_calls, most_depth, most_own, most_window}
use Rattle.ti_types.specs.TiError.{number_of}
use Rattle.ti_types.specs.declared.error.TiError.{TiError}
use Rattle.ti_types.specs.declared.error.TiError.TheVariants.{Busy, Full, IllegalArgument, NotAvailable, OutOfMemory}
use Rattle.ti_types.specs.declared.limits.Limits.{Limits}
use Rattle.ti_cell.specs.Seats.{Sitting}
use Rattle.ti_roster.specs.declared.info.ThreadInfo.{ThreadInfo}
use Rattle.ti_roster.specs.Roster.{coming_refusal}
use Rattle.ti_roster.specs.View.{first_view, split_off, splitter}
use Rattle.ti_service.specs.Agent.{IsNewAgent}
use Rattle.ti_service.specs.Memberships.{AgentValue, state_of}
use Rattle.ti_service.specs.Service.{Attaches as AttachesTo, Looks, Member, RefusesPlace, roster_seen, with_handle}
use Rattle.ti_thread.specs.Hosts.{new_host}
use Rattle.ti_capi.specs.declared.held.Held.{Held}
use Rattle.ti_capi.specs.declared.held.HeldEnv.{HeldEnv}
use Rattle.ti_capi.specs.declared.held.HeldThread.{HeldThread}
use Rattle.ti_capi.specs.Codes.{misused}
use Rattle.ti_capi.specs.Handles.{Handle, env_of, service_in, service_of, thread_of, with_service}

-- the numbers are within their ranges
abbrev pub AreInRange : ℕ → ℕ → ℕ → Type 0
AreInRange depth envs window = IsWithin most_depth depth × IsWithin 32 envs × IsWithin most_window window

-- the limits of a service, whose threads may run as long as their process
pub record AreLimitsOf (depth envs window : ℕ) (l : Limits) : Type 0 where
  pub threads_is : l.threads ≡ 1
  pub depth_is : l.depth ≡ depth
  pub envs_is : l.envs ≡ envs
  pub window_is : l.window ≡ window
  pub own_is : l.own ≡ most_own
  pub calls_is : l.calls ≡ most_calls
  pub kept_is : l.kept ≡ false

abbrev pub LimitsOf : ℕ → ℕ → ℕ → Option Limits → Type 0
LimitsOf depth envs window (Some l) = AreInRange depth envs window × AreLimitsOf depth envs window l
LimitsOf depth envs window None = AreInRange depth envs window → ⊥

-- What becomes of a handle that is to be filled. If it is full, nothing changes at all. If nothing is made, it is as it was, and
-- the code tells why. Else this is behind it
pub data Fills (Same : Type 0) (Made : Option Held → Type 0) (Refused : TiError → Type 0) (old new : Handle) (code : ℕ) : Type 0 where
  FillFull : code ≡ misused → (old.kind == 0) ≡ false → new ≡ old → Same → Fills Same Made Refused old new code
  FillRefused : (e : TiError) → code ≡ number_of e → (old.kind == 0) ≡ true → new ≡ old → Refused e → Fills Same Made Refused old new code
  Filled : code ≡ 0 → (old.kind == 0) ≡ true → Made new.place.held → Fills Same Made Refused old new code

-- a service with these limits, and without a class, whose environments can have the capabilities of these bits
pub record IsServiceOf (depth envs window bits : ℕ) (m : Member) : Type 0 where
  pub limits : AreLimitsOf depth envs window m.view.limits
  pub view : m.view ≡ first_view m.view.limits
  pub classes : m.cell.classes.seen ≡ []
  pub potential : m.cell.potential ≡ record { bits = bits }

abbrev pub HasService : ℕ → ℕ → ℕ → ℕ → Option Held → Type 0
HasService depth envs window bits held = AreInRange depth envs window × (bits < 4) × IsSomeAnd (service_of held) (IsServiceOf depth envs window bits)

-- why no service is made: a number is not within its range, one of the capabilities cannot be had, or there is no memory
pub data RefusesService (depth envs window bits : ℕ) (e : TiError) : Type 0 where
  OutOfRange : e ≡ IllegalArgument → (AreInRange depth envs window → ⊥) → RefusesService depth envs window bits e
  CannotBeHad : e ≡ NotAvailable → AreInRange depth envs window → 4 ≤ bits → RefusesService depth envs window bits e
  NoMemory : e ≡ OutOfMemory → AreInRange depth envs window → bits < 4 → RefusesService depth envs window bits e

abbrev pub Makes : ℕ → ℕ → ℕ → ℕ → Handle → Handle → ℕ → Type 0
Makes depth envs window bits old new code = Fills ⊤ (HasService depth envs window bits) (RefusesService depth envs window bits) old new code

-- one more handle of the same service
abbrev pub IsShareOf : Member → Member → Type 0
IsShareOf m s = (s.cell ≡ m.cell) × (s.view ≡ split_off m.view)

-- why there is no further handle: there may be no more, or there was no memory for its box
abbrev pub RefusesHandle : Member → Member → TiError → Type 0
RefusesHandle m n e = ((e ≡ Full) × (n ≡ m)) ⊎ ((e ≡ OutOfMemory) × (n ≡ with_handle m))

-- the other handle
abbrev pub HasShare : Member → Member → Option Held → Type 0
HasShare m n held = (n ≡ with_handle m) × IsSomeAnd (service_of held) (IsShareOf m)

abbrev pub SharesFor : Member → Member → Handle → Handle → ℕ → Type 0
SharesFor m n old new code = Fills (n ≡ m) (HasShare m n) (RefusesHandle m n) old new code

-- A handle of the service is used to fill another. It is still of the same service. If it is none, nothing changes
abbrev pub FillsBy : (Member → Member → Handle → Handle → ℕ → Type 0) → Option Member → Option Member → Handle → Handle → Handle → Handle → ℕ → Type 0
FillsBy R (Some m) (Some n) s0 s1 old new code = (s1 ≡ with_service s0 n) × R m n old new code
FillsBy R (Some m) None s0 s1 old new code = ⊥
FillsBy R None n s0 s1 old new code = (s1 ≡ s0) × (new ≡ old) × (code ≡ misused)

abbrev pub Shares : Handle → Handle → Handle → Handle → ℕ → Type 0
Shares s0 s1 old new code = FillsBy SharesFor (service_in s0) (service_in s1) s0 s1 old new code

-- a handle is freed: it is empty
abbrev pub FreesBehind : Option Member → Handle → Handle → ℕ → Type 0
FreesBehind (Some m) old new code = (new.kind ≡ 0) × (code ≡ 0)
FreesBehind None old new code = (new ≡ old) × (code ≡ misused)

abbrev pub Frees : Handle → Handle → ℕ → Type 0
Frees old new code = FreesBehind (service_in old) old new code

-- why a name is refused: it is not UTF-8, or there is no memory for it
abbrev pub NamesWrongly : List ℕ → TiError → Type 0
NamesWrongly name e = ((e ≡ IllegalArgument) × (IsUtf8 name → ⊥)) ⊎ ((e ≡ OutOfMemory) × IsUtf8 name)

-- A thread with this name and priority came to the service, and has not started. Its box has a further handle of the same
-- service
pub record AttachesThread (name : List ℕ) (priority : ℤ) (m n : Member) (held : HeldThread) : Type 0 where
  pub info : ThreadInfo
  pub fresh : Sitting
  pub name_is : string_bytes info.name ≡ name
  pub priority_is : info.priority ≡ priority
  pub cell : n.cell ≡ m.cell
  pub attaches : AttachesTo (splitter m.view) n.view info fresh
  pub thread_is : held.thread ≡ Some (new_host fresh)
  pub service_is : held.service.cell ≡ m.cell

-- why the service took no thread, once there was a handle for it
abbrev pub RefusesComing : Member → Member → TiError → Type 0
RefusesComing m n e = ((e ≡ coming_refusal (roster_seen n.view)) × Looks m.view n.view) ⊎ ((e ≡ Busy) × (n ≡ m))

-- why no thread came
abbrev pub RefusesThread : List ℕ → Member → Member → TiError → Type 0
RefusesThread name m n e =
    ((e ≡ IllegalArgument) × (IsUtf8 name → ⊥) × (n ≡ m))
    ⊎ (((e ≡ OutOfMemory) × (n ≡ m)) ⊎ (RefusesHandle m n e ⊎ ((n.cell ≡ m.cell) × RefusesComing (with_handle m) n e)))

abbrev pub AttachesFor : List ℕ → ℤ → Member → Member → Handle → Handle → ℕ → Type 0
AttachesFor name priority m n old new code = Fills (n ≡ m) (λ held. IsSomeAnd (thread_of held) (AttachesThread name priority m n)) (RefusesThread name m n) old new code

abbrev pub Attaches : List ℕ → ℤ → Handle → Handle → Handle → Handle → ℕ → Type 0
Attaches name priority s0 s1 old new code = FillsBy (AttachesFor name priority) (service_in s0) (service_in s1) s0 s1 old new code

-- the box of an environment that was just attached
abbrev pub HasNewAgent : Member → HeldEnv → Type 0
HasNewAgent m held = (a : AgentValue) × (held.agent ≡ Some a) × IsNewAgent m (state_of a) × (held.trace ≡ None) × (held.stacks ≡ None)

abbrev pub HasEnv : Member → Member → Option Held → Type 0
HasEnv m n held = (n ≡ with_handle m) × IsSomeAnd (env_of held) (HasNewAgent m)

-- Why no environment came: there was no memory for its box, the service had no place for it, or the service was in use. No
-- place is taken then
abbrev pub RefusesEnv : Member → Member → TiError → Type 0
RefusesEnv m n e = ((e ≡ OutOfMemory) × (n ≡ m)) ⊎ (RefusesPlace m n e ⊎ ((e ≡ Busy) × (n ≡ with_handle m)))

abbrev pub AttachesEnvFor : Member → Member → Handle → Handle → ℕ → Type 0
AttachesEnvFor m n old new code = Fills (n ≡ m) (HasEnv m n) (RefusesEnv m n) old new code

abbrev pub AttachesEnv : Handle → Handle → Handle → Handle → ℕ → Type 0
AttachesEnv s0 s1 old new code = FillsBy AttachesEnvFor (service_in s0) (service_in s1) s0 s1 old new code
