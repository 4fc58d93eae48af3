-- Where a thread's frames and its log are.
use Rattle.std.specs.Prelude.{◌≤◌, ◌≡◌, true, false, List, [], ◌++◌, Option, Some, None}
use Rattle.ti_types.specs.declared.step.Step.{Step}
use Rattle.ti_types.specs.declared.limits.Limits.{Limits}
use Rattle.ti_types.specs.declared.entry.Entry.{Entry}
use Rattle.ti_replay.specs.Answers.{is_running}
use Rattle.ti_replay.specs.View.{view}
use Rattle.ti_types.specs.declared.state.Mode.{Mode}
use Rattle.ti_replay.specs.Legal.{is_legal, is_new, goes_on}
use Rattle.ti_replay.specs.LateTickets.{steps_of}
use Rattle.ti_frames.specs.Frames.{Stack}
use Rattle.ti_frames.specs.Log.{Steps}
use Rattle.ti_slot.specs.Thread.{Thread}
use Rattle.ti_core.specs.Thread.{ThreadState}

abbrev pub steps_in : Option Steps → List Step
steps_in None = []
steps_in (Some l) = l.steps

abbrev pub state_in : Thread → Option Steps → ThreadState
state_in slot log = record { thread = slot; steps = steps_in log }

-- a thread that runs has its frames, which are those after its logged steps, and each step may follow
pub record RunsWith (limits : Limits) (history : List Entry) (frames : Stack) (log : Steps) : Type 0 where
  pub runs : is_running (view limits history).mode ≡ true
  pub newest : frames.frames ≡ (view limits (history ++ steps_of log.steps)).frames
  pub depth : frames.depth ≡ limits.depth
  pub goes : goes_on limits history (steps_of log.steps) ≡ true
  pub room : log.room ≡ limits.own
  pub kept : log.kept ≡ limits.kept

-- a thread that does not run has none, and nothing is logged
pub record RestsWith (limits : Limits) (history : List Entry) (steps : List Step) : Type 0 where
  pub rests : is_running (view limits history).mode ≡ false
  pub none : steps ≡ []

-- the log is made with the thread's start
abbrev pub HasLog : Limits → Mode → Option Steps → Type 0
HasLog limits mode None = is_new mode ≡ true
HasLog limits mode (Some l) = (l.room ≡ limits.own) × (l.kept ≡ limits.kept)

abbrev pub AreWith : Limits → List Entry → Option Stack → Option Steps → Type 0
AreWith limits history None log = RestsWith limits history (steps_in log) × HasLog limits (view limits history).mode log
AreWith limits history (Some f) None = ⊥
AreWith limits history (Some f) (Some l) = RunsWith limits history f l

pub record IsWhole (slot : Thread) (frames : Option Stack) (log : Option Steps) : Type 0 where
  pub legal : is_legal slot.limits slot.history ≡ true
  pub parts : AreWith slot.limits slot.history frames log
  pub wide : slot.limits.calls ≤ slot.limits.window
