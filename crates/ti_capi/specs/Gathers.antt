-- Traces of several threads that are made step by step, as C makes them.
use Rattle.std.specs.Prelude.{ℕ, ℤ, ◌≡◌, ◌⊎◌, Bool, true, false, List, length, map, Option, Some, None, Result, Ok, Err, slice_get}
use Rattle.std.specs.Global.{Vec}
use Rattle.ti_types.specs.Refusing.{or_else}
use Rattle.ti_types.specs.TiError.{number_of}
use Rattle.ti_types.specs.declared.error.TiError.{TiError}
use Rattle.ti_types.specs.declared.error.TiError.TheVariants.{IllegalArgument, OutOfMemory}
use Rattle.ti_types.specs.declared.numbers.ThreadNo.{ThreadNo}
use Rattle.ti_types.specs.declared.stack.StackInfo.{StackInfo}
use Rattle.ti_agent.specs.Env.{places_of}
use Rattle.ti_agent.specs.Gathering.{Begins, Gathers, GivesUp, GoesOn, IsBarred, IsSameWork, given_up, has_ended, is_given_up}
use Rattle.ti_agent.specs.Traces.{IsListRefused, all_once, each_once, each_thread, refusal_of_all, refusal_of_counted, refusal_of_list}
use Rattle.ti_service.specs.Memberships.{AgentValue, TraceValue}
use Rattle.ti_capi.specs.declared.held.HeldEnv.{HeldEnv}
use Rattle.ti_capi.specs.declared.values.CqFrame.{CqFrame}
use Rattle.ti_capi.specs.declared.values.CqStackInfo.{CqStackInfo}
use Rattle.ti_capi.specs.Asking.{thread_no}
use Rattle.ti_capi.specs.Codes.{misused, none_told}
use Rattle.ti_capi.specs.Handles.{Handle, env_held_tracing, env_held_with, env_in, with_held_env}
use Rattle.ti_capi.specs.Values.{frame_written, over, stack_written}

-- Something happens to what lies behind a handle. If it is empty or of another kind, nothing changes, and nothing is written
abbrev pub WorksBehind : Option HeldEnv → Option HeldEnv → (HeldEnv → HeldEnv → ℕ → Type 0) → (unwritten : Type 0) → Handle → Handle → ℕ → Type 0
WorksBehind (Some h) (Some n) R unwritten old new code = (new ≡ with_held_env old n) × R h n code
WorksBehind (Some h) None R unwritten old new code = ⊥
WorksBehind None n R unwritten old new code = (new ≡ old) × (code ≡ misused) × unwritten

abbrev pub Works : (HeldEnv → HeldEnv → ℕ → Type 0) → (unwritten : Type 0) → Handle → Handle → ℕ → Type 0
Works R unwritten old new code = WorksBehind (env_in old) (env_in new) R unwritten old new code

-- A trace has begun, and it has the environment. What the last one told is gone. Or it has not, and nothing changes
pub data BeginsFor (B : AgentValue → TraceValue → Type 0) (W : AgentValue → TiError → Type 0) (s : AgentValue) (h n : HeldEnv) (code : ℕ) : Type 0 where
  Begun : (t : TraceValue) → code ≡ 0 → B s t → t.home ≡ s.home → n ≡ record { agent = None; trace = Some t; stacks = None } → BeginsFor B W s h n code
  NotBegun : (e : TiError) → code ≡ number_of e → W s e → n ≡ h → BeginsFor B W s h n code

abbrev pub BeginsTo : Option AgentValue → (AgentValue → TraceValue → Type 0) → (AgentValue → TiError → Type 0) → HeldEnv → HeldEnv → ℕ → Type 0
BeginsTo (Some s) B W h n code = BeginsFor B W s h n code
BeginsTo None B W h n code = (n ≡ h) × (code ≡ misused)

abbrev pub BeginsIn : (AgentValue → TraceValue → Type 0) → (AgentValue → TiError → Type 0) → HeldEnv → HeldEnv → ℕ → Type 0
BeginsIn B W h n code = BeginsTo h.agent B W h n code

-- what became of a trace, as the agent says it, is put into a box that has no environment
abbrev pub IsBegun : Result TraceValue (TiError × AgentValue) → HeldEnv → HeldEnv → ℕ → Type 0
IsBegun (Ok t) h n code = (n ≡ record { agent = h.agent; trace = Some t; stacks = None }) × (code ≡ 0)
IsBegun (Err r) h n code = (n ≡ env_held_with h (Some r.1)) × (code ≡ number_of r.0)

-- a trace of all threads (`ti_service`, `Agent::gather_all_stack_traces`)
abbrev pub BeginsAll : ℤ → AgentValue → TraceValue → Type 0
BeginsAll max_count s t =
    (refusal_of_all s.env.state max_count ≡ None)
    × Begins s.env t.trace (all_once (length s.env.desks)) (each_thread (length s.env.desks)) max_count true

abbrev pub RefusesAll : ℤ → AgentValue → TiError → Type 0
RefusesAll max_count s e = Some e ≡ or_else (refusal_of_all s.env.state max_count) (Some OutOfMemory)

-- a trace of the threads of a list of numbers (`ti_service`, `Agent::gather_thread_list_stack_traces`)
abbrev pub numbered : List ℕ → List ThreadNo
numbered numbers = map thread_no numbers

abbrev pub BeginsList : List ThreadNo → ℤ → AgentValue → TraceValue → Type 0
BeginsList threads max_count s t =
    (refusal_of_list s.env.state (places_of s.env.desks threads) max_count ≡ None)
    × (refusal_of_counted s.env.state (places_of s.env.desks threads) ≡ None)
    × Begins s.env t.trace (each_once (length s.env.desks) (places_of s.env.desks threads)) (places_of s.env.desks threads) max_count false

-- there was no memory for the list of numbers, or the agent refused it
abbrev pub RefusesThreads : List ThreadNo → ℤ → AgentValue → TiError → Type 0
RefusesThreads threads max_count s e = (e ≡ OutOfMemory) ⊎ IsListRefused s.env.state (places_of s.env.desks threads) max_count e

-- a step of a trace, which may have done nothing
abbrev pub IsStepped : TraceValue → TraceValue → Type 0
IsStepped t m = IsSameWork t.trace m.trace × (is_given_up m.trace.phase ≡ is_given_up t.trace.phase) × (m.home ≡ t.home)

-- the environment at the end of a trace, and what was read, or nothing if it was given up (`ti_service`, `Gathering::finish`)
abbrev pub IsFinished : TraceValue → AgentValue → Option (Vec StackInfo) → Type 0
IsFinished t a (Some infos) = (is_given_up t.trace.phase ≡ false) × Gathers t.trace a.env infos.items × (a.home ≡ t.home)
IsFinished t a None = (is_given_up t.trace.phase ≡ true) × GivesUp t.trace a.env × (a.home ≡ t.home)

-- A trace is put back. If it has come to its end, the environment is there again, and what was read
pub data PutsBack (t : TraceValue) (h n : HeldEnv) (over : Bool) : Type 0 where
  IsOver : (a : AgentValue) → (told : Option (Vec StackInfo)) → over ≡ true → has_ended t.trace ≡ true → IsFinished t a told → n ≡ record { agent = Some a; trace = h.trace; stacks = told } → PutsBack t h n over
  IsNotOver : over ≡ false → has_ended t.trace ≡ false → n ≡ env_held_tracing h t → PutsBack t h n over

-- One step (`ti_service`, `Gathering::step`). At the end the environment is there again, and what was read
pub data StepsFor (t : TraceValue) (b0 b1 : Bool) (h n : HeldEnv) (code : ℕ) : Type 0 where
  MoreToDo : (m : TraceValue) → code ≡ 0 → b1 ≡ false → IsStepped t m → GoesOn t.trace m.trace → has_ended m.trace ≡ false → n ≡ env_held_tracing h m → StepsFor t b0 b1 h n code
  AllDone : (m : TraceValue) → (a : AgentValue) → (told : Option (Vec StackInfo)) → code ≡ 0 → b1 ≡ true → IsStepped t m → GoesOn t.trace m.trace → has_ended m.trace ≡ true → IsFinished m a told
      → n ≡ record { agent = Some a; trace = None; stacks = told } → StepsFor t b0 b1 h n code
  StepMet : (m : TraceValue) → (e : TiError) → code ≡ number_of e → b1 ≡ b0 → IsStepped t m → IsBarred t.trace m.trace e → m.trace.phase ≡ t.trace.phase → n ≡ env_held_tracing h m → StepsFor t b0 b1 h n code

abbrev pub StepsTo : Option TraceValue → Bool → Bool → HeldEnv → HeldEnv → ℕ → Type 0
StepsTo (Some t) b0 b1 h n code = StepsFor t b0 b1 h n code
StepsTo None b0 b1 h n code = (n ≡ h) × (code ≡ misused) × (b1 ≡ b0)

abbrev pub StepsIn : Bool → Bool → HeldEnv → HeldEnv → ℕ → Type 0
StepsIn b0 b1 h n code = StepsTo h.trace b0 b1 h n code

-- the trace is given up, if it can be (`ti_service`, `Gathering::give_up`)
abbrev pub GivesUpTo : Option TraceValue → Option TraceValue → HeldEnv → HeldEnv → ℕ → Type 0
GivesUpTo (Some t) (Some m) h n code = (code ≡ 0) × (m.trace ≡ given_up t.trace) × (m.home ≡ t.home) × (n ≡ env_held_tracing h m)
GivesUpTo (Some t) None h n code = ⊥
GivesUpTo None m h n code = (n ≡ h) × (code ≡ misused)

abbrev pub GivesUpIn : HeldEnv → HeldEnv → ℕ → Type 0
GivesUpIn h n code = GivesUpTo h.trace n.trace h n code

-- what is told of the last trace, if there is something. Nothing changes
abbrev pub TellsOf : Option AgentValue → Option (Vec StackInfo) → (List StackInfo → ℕ → Type 0) → (unwritten : Type 0) → ℕ → Type 0
TellsOf (Some s) (Some infos) R unwritten code = R infos.items code
TellsOf (Some s) None R unwritten code = (code ≡ none_told) × unwritten
TellsOf None infos R unwritten code = (code ≡ misused) × unwritten

abbrev pub TellsBehind : Option HeldEnv → (List StackInfo → ℕ → Type 0) → (unwritten : Type 0) → Handle → Handle → ℕ → Type 0
TellsBehind (Some h) R unwritten old new code = (new ≡ with_held_env old h) × TellsOf h.agent h.stacks R unwritten code
TellsBehind None R unwritten old new code = (new ≡ old) × (code ≡ misused) × unwritten

abbrev pub Tells : (List StackInfo → ℕ → Type 0) → (unwritten : Type 0) → Handle → Handle → ℕ → Type 0
Tells R unwritten old new code = TellsBehind (env_in old) R unwritten old new code

-- how many threads it tells of
abbrev pub Counts : ℕ → List StackInfo → ℕ → Type 0
Counts n1 infos code = (code ≡ 0) × (n1 ≡ length infos)

-- what it tells of one of them, and as many of the frames as there is room for
abbrev pub StackTold : Option StackInfo → CqStackInfo → CqStackInfo → List CqFrame → List CqFrame → ℕ → Type 0
StackTold (Some x) i0 i1 f0 f1 code = (code ≡ 0) × (i1 ≡ stack_written x) × (f1 ≡ over (map frame_written x.frames.frames) f0)
StackTold None i0 i1 f0 f1 code = (code ≡ number_of IllegalArgument) × (i1 ≡ i0) × (f1 ≡ f0)

abbrev pub TellsStack : ℕ → CqStackInfo → CqStackInfo → List CqFrame → List CqFrame → List StackInfo → ℕ → Type 0
TellsStack index i0 i1 f0 f1 infos code = StackTold (slice_get infos index) i0 i1 f0 f1 code
