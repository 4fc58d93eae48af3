-- What stays at a thread when only others make entries.
use Rattle.std.specs.Prelude.{◌≡◌, true, List, ◌++◌}
use Rattle.ti_types.specs.declared.limits.Limits.{Limits}
use Rattle.ti_types.specs.declared.step.Step.{Step}
use Rattle.ti_types.specs.declared.entry.Entry.{Entry}
use Rattle.ti_replay.specs.Answers.{is_running}
use Rattle.ti_replay.specs.View.{view}
use Rattle.ti_replay.specs.Legal.{goes_on, own_spent}
use Rattle.ti_replay.specs.LateTickets.{steps_of}
use Rattle.ti_replay.specs.Makers.{made_by, StartsWith}

-- A history that went on by others' entries, beside what it was. The mode is the same, and so is what the thread has spent,
-- and whether its logged steps may come. If the thread runs, its frames after those steps are the same too, since a pop
-- waits there
pub record LeavesIt (limits : Limits) (old new : List Entry) (steps : List Step) : Type 0 where
  pub mode : (view limits new).mode ≡ (view limits old).mode
  pub frames : is_running (view limits old).mode ≡ true → (view limits (new ++ steps_of steps)).frames ≡ (view limits (old ++ steps_of steps)).frames
  pub own : own_spent new ≡ own_spent old
  pub goes : goes_on limits new (steps_of steps) ≡ goes_on limits old (steps_of steps)

-- a history leaves the thread so if it begins with what the thread saw, and has no further entry of the thread's own
abbrev pub LeftAlone : Type 0
LeftAlone = (limits : Limits) (seen history : List Entry) (steps : List Step) → StartsWith history seen → made_by 0 seen ≡ made_by 0 history → LeavesIt limits seen history steps
