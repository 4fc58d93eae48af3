-- How frames are popped for a debugger.
use Rattle.std.specs.Prelude.{ℕ, zero, suc, ℤ, pos, ◌≡◌, ◌+◌, ◌-◌, ◌<◌, ◌⊎◌, ◌≤ℤ◌, ◌++◌, Bool, false, not, ◌||◌, if◌then◌else◌, List, ◌∷◌, replicate, Result, Ok, Err}
use Rattle.std.specs.List.{list_any}
use Rattle.ti_types.specs.Call.{needed_by}
use Rattle.ti_types.specs.Caps.{caps_with, caps_without, has_all}
use Rattle.ti_types.specs.Frames.{Trace}
use Rattle.ti_types.specs.Steps.{is_native}
use Rattle.ti_types.specs.declared.answer.Answer.TheVariants as answer
use Rattle.ti_types.specs.declared.call.Call.TheVariants as call
use Rattle.ti_types.specs.declared.caps.Caps.{Caps}
use Rattle.ti_types.specs.declared.error.TiError.{TiError}
use Rattle.ti_types.specs.declared.error.TiError.TheVariants as error
use Rattle.ti_types.specs.declared.numbers.ThreadNo.{ThreadNo}
use Rattle.ti_types.specs.declared.place.Frame.{Frame}
use Rattle.ti_slot.specs.declared.asked.Asked.TheVariants.{Answered}
use Rattle.ti_agent.specs.Env.{Environment}
use Rattle.ti_agent.specs.Posts.{Posts}
use Rattle.ti_service.specs.Memberships.{AgentValue}
use Rattle.ti_jdwp.specs.Bodies.{flag}
use Rattle.ti_jdwp.specs.Ids.{frame_id}
use Rattle.ti_jdwp.specs.declared.error.JdwpError.{JdwpError}
use Rattle.ti_jdwp.specs.declared.error.JdwpError.TheVariants as wire
use Rattle.ti_debugger.specs.declared.asked.Asked.TheVariants as asked
use Rattle.ti_debugger.specs.declared.popping.Popping.{Popping}
use Rattle.ti_debugger.specs.declared.desk.Desk.{Desk}
use Rattle.ti_debugger.specs.declared.stacks.Part.{Part}
use Rattle.ti_debugger.specs.Gone.{AreGone}
use Rattle.ti_debugger.specs.StackReplies.{HasDepth}

-- the agent may pop frames
abbrev pub can_pop : AgentValue → Bool
can_pop a = has_all a.env.state.caps (needed_by call.Pop)

abbrev with_caps_of : AgentValue → Caps → AgentValue
with_caps_of a caps = record a { env = record a.env { state = record a.env.state { caps = caps; had = caps_with a.env.state.had caps } } }

-- whether it may be said that frames are popped: the service's environments can have what that needs
abbrev pub may_say_pops : AgentValue → Bool → Bool
may_say_pops a pops = not pops || has_all a.home.service.cell.potential (needed_by call.Pop)

-- from now on it may, or may not
abbrev pub with_pops : AgentValue → Bool → AgentValue
with_pops a pops = with_caps_of a (if pops then caps_with a.env.state.caps (needed_by call.Pop) else caps_without a.env.state.caps (needed_by call.Pop))

-- 32 capabilities, the 11th of which is canPopFrames, and the 14th canRequestVMDeathEvent
abbrev pub capabilities_text : Bool → List ℕ
capabilities_text pops = replicate 10 0 ++ flag pops ∷ 0 ∷ 0 ∷ 1 ∷ replicate 18 0

-- what a reply says where the service refuses a pop
abbrev pub pop_error : TiError → JdwpError
pop_error error.InvalidThread = wire.InvalidThread
pop_error error.ThreadNotAlive = wire.ThreadNotSuspended
pop_error error.ThreadNotSuspended = wire.ThreadNotSuspended
pop_error error.NoMoreFrames = wire.NoMoreFrames
pop_error error.OpaqueFrame = wire.OpaqueFrame
pop_error error.MustPossessCapability = wire.NotImplemented
pop_error _ = wire.OutOfMemory

-- The frames that are looked at before the one at a depth is popped, in a stack of so many: those that are popped, and their caller.
-- Or why they cannot be popped
abbrev pub IsPopped : ℤ → ℕ → Result Part JdwpError → Type 0
IsPopped count depth (Ok p) = (p.start ≡ pos 0) × (p.count ≡ pos (depth + 2)) × (pos (depth + 2) ≤ℤ count)
IsPopped count depth (Err wire.InvalidFrameId) = count ≤ℤ pos depth
IsPopped count depth (Err wire.NoMoreFrames) = count ≡ pos (depth + 1)
IsPopped count depth (Err _) = ⊥

-- some of the frames is a native method's
abbrev pub any_native : List Frame → Bool
any_native frames = list_any (λ (f : Frame). is_native f.place) frames

-- A suspended thread told how many frames it has, which are more than are popped. Then it told those and their caller, none of them
-- native
pub record CanPop (old new : Desk) (thread depth : ℕ) : Type 0 where
  pub counted : Desk
  pub count : ℤ
  pub has : HasDepth old counted thread count
  pub deep : pos (depth + 2) ≤ℤ count
  pub trace : Trace
  pub told : Posts counted.agent.env new.agent.env (record { 0 = thread }) (call.Trace (pos 0) (pos (depth + 2))) (Answered (answer.Trace trace))
  pub java : any_native trace.frames ≡ false

-- so many pops, one after the other, each of which the thread answered by 0
abbrev pub Pops : ThreadNo → ℕ → Environment → Environment → Type 0
Pops thread zero old new = new ≡ old
Pops thread (suc n) old new = (mid : Environment) × Pops thread n old mid × Posts mid new thread call.Pop (Answered answer.Done)

-- what is to be popped: what an earlier try left, or the frame and all newer ones
abbrev pub IsToPop : Desk → Desk → Popping → Type 0
IsToPop old new p = ((old.asked ≡ asked.Popping p) × (new ≡ old)) ⊎ ((p.left ≡ p.depth + 1) × CanPop old new p.thread p.depth)

abbrev pub PopsAll : Desk → Desk → Popping → Type 0
PopsAll old new p = Pops (record { 0 = p.thread }) p.left old.agent.env new.agent.env

-- so many were popped, and those that are left are kept
pub record PopsSome (old new : Desk) (p : Popping) : Type 0 where
  pub done : ℕ
  pub fewer : done < p.left
  pub pops : Pops (record { 0 = p.thread }) done old.agent.env new.agent.env
  pub rest : Popping
  pub thread : rest.thread ≡ p.thread
  pub depth : rest.depth ≡ p.depth
  pub left : rest.left ≡ p.left - done
  pub keeps : new.asked ≡ asked.Popping rest

-- The frame and all newer ones are gone: as many as were left of them were popped, one after the other
pub record PopsFrames (old new : Desk) (thread frame : ℕ) : Type 0 where
  pub told : Desk
  pub popping : Popping
  pub of : popping.thread ≡ thread
  pub at : frame_id thread popping.depth ≡ frame
  pub is : IsToPop old told popping
  pub all : PopsAll told new popping
  -- with those of earlier tries
  pub gone : ∥ AreGone (record { 0 = thread }) (popping.depth + 1) ∥₁

-- nothing was popped yet, or so many were
abbrev pub WaitsToPop : Desk → Desk → ℕ → ℕ → Type 0
WaitsToPop old new thread frame =
    (new.asked ≡ old.asked) ⊎ ((told : Desk) × (p : Popping) × (p.thread ≡ thread) × (frame_id thread p.depth ≡ frame) × IsToPop old told p × PopsSome told new p)
