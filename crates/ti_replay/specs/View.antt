-- What a history leaves of a thread.
use Rattle.std.specs.Prelude.{Bool, true, false, ◌&&◌, ◌||◌, if◌then◌else◌, List, [], Some, None, is_some, is_none, slice_set, replicate}
use Rattle.std.specs.List.{fold}
use Rattle.ti_types.specs.declared.limits.Limits.{Limits}
use Rattle.ti_types.specs.declared.numbers.EnvNo.{EnvNo}
use Rattle.ti_types.specs.declared.state.Mode.TheVariants as mode
use Rattle.ti_types.specs.declared.call.Call.{Call}
use Rattle.ti_types.specs.declared.call.Call.TheVariants.{Suspend, Resume, SetWord, Pop}
use Rattle.ti_types.specs.declared.step.Step.TheVariants.{Leave}
use Rattle.ti_types.specs.declared.entry.Entry.{Entry}
use Rattle.ti_types.specs.declared.entry.Entry.TheVariants as entry
use Rattle.ti_types.specs.declared.view.ThreadView.{ThreadView}
pub use Rattle.ti_types.specs.Steps.{frames_after}
use Rattle.ti_replay.specs.Answers.{is_alive, pop_refusal}
use Rattle.ti_replay.specs.Settling.{Placed, settled}

-- a thread that has not started
abbrev pub new_thread : Limits → ThreadView
new_thread limits = record { mode = mode.New; frames = []; suspended = false; stopper = None; words = replicate limits.envs 0 }

-- What a call changes. A refused call changes nothing. A suspension at a suspended thread sets what is set already. A
-- resumption at one that is not suspended clears what is clear. A pop takes the newest frame if it may be popped, and the
-- frames below stay as they are. Laws.CallsChangeWhereDone says so of all calls
abbrev pub called : ThreadView → EnvNo → Call → ThreadView
called v env Suspend = if is_alive v.mode then record v { suspended = true } else v
called v env Resume = if is_alive v.mode then record v { suspended = false } else v
called v env (SetWord word) = if is_alive v.mode then record v { words = slice_set v.words env.0 word } else v
called v env Pop = if is_alive v.mode && is_none (pop_refusal v.suspended v.frames) then record v { frames = frames_after v.frames Leave } else v
called v env _ = v

-- the view after an entry takes place
abbrev pub after : ThreadView → Entry → ThreadView
after v entry.Start = record v { mode = mode.Running }
after v entry.Back = record v { mode = mode.Running }
after v (entry.Own step) = record v { frames = frames_after v.frames step }
after v (entry.Hand safe) = record v { mode = mode.AtSafe safe }
after v entry.End = record v { mode = mode.Ended; frames = [] }
after v (entry.Asked env number call) = called v env call
after v (entry.Stop env) = record v { stopper = Some env }
after v (entry.Go env) = record v { stopper = None }
after v (entry.Read env max_count) = v

abbrev pub after_all : ThreadView → List Placed → ThreadView
after_all v entries = fold (λ w p. after w p.1) v entries

abbrev pub view : Limits → List Entry → ThreadView
view limits history = after_all (new_thread limits) (settled history)

-- a barred thread may not start or return
abbrev pub is_barred : ThreadView → Bool
is_barred v = v.suspended || is_some v.stopper
