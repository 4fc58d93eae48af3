-- What is true of a slot.
use Rattle.std.specs.Prelude.{ℕ, Bool, ◌≡◌, ◌≤◌, ◌+◌, ◌*◌, true, false, List, [], Option, Some, None}
use Rattle.std.specs.List.{list_all}
use Rattle.ti_types.specs.declared.limits.Limits.{Limits}
use Rattle.ti_types.specs.declared.state.Mode.{Mode}
use Rattle.ti_types.specs.declared.entry.Entry.{Entry}
use Rattle.ti_types.specs.declared.place.Frame.{Frame}
use Rattle.ti_frames.specs.Frames.{Stack}
use Rattle.ti_frames.specs.Log.{Steps}
use Rattle.ti_trail.specs.Record.{Recorded}
use Rattle.ti_ops.specs.Ops.{Ops}
use Rattle.ti_ops.specs.declared.pending.Pending.{Pending}
use Rattle.ti_replay.specs.declared.costs.Costs.{Costs}
use Rattle.ti_replay.specs.Answers.{is_running}
use Rattle.ti_replay.specs.Settling.{waits}
use Rattle.ti_replay.specs.Legal.{is_legal, is_new}
use Rattle.ti_replay.specs.View.{view}
use Rattle.ti_replay.specs.HistoryState.{HistoryState, history_state}
use Rattle.ti_slot.specs.declared.condition.Condition.{Condition}
use Rattle.ti_slot.specs.Condition.{view_of, frames_or}
use Rattle.ti_slot.specs.Waiting.{entries_of, AreReady, calls_of}

-- the state that a slot keeps, with these frames
abbrev pub state_of : Condition → List Frame → List Pending → ℕ → List Costs → HistoryState
state_of c frames waiting own costs = record { view = view_of c frames; waiting = entries_of waiting; own = own; costs = costs }

-- the frames are away exactly while the thread runs
abbrev pub FramesAreHome : Limits → Mode → Option Stack → Type 0
FramesAreHome limits mode (Some s) = (is_running mode ≡ false) × (s.depth ≡ limits.depth)
FramesAreHome limits mode None = is_running mode ≡ true

-- the log is here, and empty, until the thread starts
abbrev pub LogIsHome : Limits → Mode → Option Steps → Type 0
LogIsHome limits mode (Some l) = (is_new mode ≡ true) × (l.steps ≡ []) × (l.room ≡ limits.own) × (l.kept ≡ limits.kept)
LogIsHome limits mode None = is_new mode ≡ false

abbrev pub room_of : Limits → ℕ
room_of limits = limits.own + 4 * (limits.envs * limits.calls) + 2

-- how many entries a history may have, and whether it is kept
pub record Shelf : Type 0 where
  pub room : ℕ
  pub kept : Bool

abbrev pub shelf : Recorded Entry → Shelf
shelf r = record { room = r.room; kept = r.kept }

abbrev pub shelf_of : Limits → Shelf
shelf_of limits = record { room = room_of limits; kept = limits.kept }

pub record Refines (limits : Limits) (history : List Entry) (there : Shelf) (c : Condition) (frames : Option Stack) (log : Option Steps) (own : ℕ) (costs : List Costs) (ops : Ops) : Type 0 where
  pub legal : is_legal limits history ≡ true
  pub state : history_state limits history ≡ state_of c (frames_or frames (view limits history).frames) ops.waiting own costs
  pub frames_home : FramesAreHome limits c.mode frames
  pub log_home : LogIsHome limits c.mode log
  pub room : there ≡ shelf_of limits
  pub window : ops.window ≡ limits.window + 1
  pub ready : AreReady limits ops.waiting
  pub calls : list_all waits (calls_of ops.waiting) ≡ true
