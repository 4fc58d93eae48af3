-- Calls that leave a running thread running.
use Rattle.std.specs.Prelude.{◌≡◌, ◌≤◌, Bool, true, not, List, [], length, None, Some, Result, Ok, Err}
use Rattle.ti_types.specs.declared.entry.Entry.TheVariants.{Own}
use Rattle.ti_types.specs.declared.error.TiError.{TiError}
use Rattle.ti_types.specs.declared.error.TiError.TheVariants.{Busy, NotRunning}
use Rattle.ti_types.specs.declared.place.Frame.{Frame}
use Rattle.ti_types.specs.declared.step.Step.{Step}
use Rattle.ti_frames.specs.Changes.{steps_between}
use Rattle.ti_replay.specs.Legal.{is_armed}
use Rattle.ti_cell.specs.declared.look.Look.{Look}
use Rattle.ti_cell.specs.View.{glanced}
use Rattle.ti_handshake.specs.Call.{Holds}
use Rattle.ti_handshake.specs.Thread.{Runner, frames_refusal, logged, refused_at, with_all, with_step, with_view}
use Rattle.ti_thread.specs.declared.any_thread.AnyThread.{AnyThread}
use Rattle.ti_thread.specs.declared.any_thread.AnyThread.TheVariants.{Fresh, Running, Safe, Ended}
use Rattle.ti_thread.specs.declared.any_thread.TurnOutcome.{TurnOutcome}
use Rattle.ti_thread.specs.declared.any_thread.TurnOutcome.TheVariants.{Done, Held, Popped, Refused}
use Rattle.ti_thread.specs.Turns.{IsUnfit}

-- a running thread makes a step, or is refused and is as it was
abbrev pub StepsFrom : Step → Runner → AnyThread → TurnOutcome → Type 0
StepsFrom step r new Done = (new ≡ Running (with_step r step)) × (refused_at r.view.subject.limits (logged r.view.seen r.steps) (Own step) ≡ None)
StepsFrom step r new (Refused e) = (new ≡ Running r) × (refused_at r.view.subject.limits (logged r.view.seen r.steps) (Own step) ≡ Some e)
StepsFrom step r new Held = ⊥
StepsFrom step r new Popped = ⊥

abbrev pub Steps : Step → AnyThread → AnyThread → TurnOutcome → Type 0
Steps step (Running r) new told = StepsFrom step r new told
Steps step (Fresh s) new told = IsUnfit NotRunning (Fresh s) new told
Steps step (Safe s) new told = IsUnfit NotRunning (Safe s) new told
Steps step (Ended s) new told = IsUnfit NotRunning (Ended s) new told

-- a running thread has these frames, or is refused and is as it was
abbrev pub SetsFramesFrom : List Frame → Runner → AnyThread → TurnOutcome → Type 0
SetsFramesFrom frames r new Done = (new ≡ Running (with_all r frames)) × (frames_refusal r.view.subject.limits (logged r.view.seen r.steps) (length frames) (steps_between r.frames frames) ≡ None)
SetsFramesFrom frames r new (Refused e) = (new ≡ Running r) × (frames_refusal r.view.subject.limits (logged r.view.seen r.steps) (length frames) (steps_between r.frames frames) ≡ Some e)
SetsFramesFrom frames r new Held = ⊥
SetsFramesFrom frames r new Popped = ⊥

abbrev pub SetsFrames : List Frame → AnyThread → AnyThread → TurnOutcome → Type 0
SetsFrames frames (Running r) new told = SetsFramesFrom frames r new told
SetsFrames frames (Fresh s) new told = IsUnfit NotRunning (Fresh s) new told
SetsFrames frames (Safe s) new told = IsUnfit NotRunning (Safe s) new told
SetsFrames frames (Ended s) new told = IsUnfit NotRunning (Ended s) new told

-- One look at a running thread's word. Nobody looks at a thread that does not run, and it is told as clear
abbrev pub LooksFor : AnyThread → AnyThread → Bool → Type 0
LooksFor (Running r) new clear = (look : Look) × (new ≡ Running (with_view r (glanced r.view look))) × (look.armed ≡ not clear) × (length r.view.seen ≤ look.count)
LooksFor (Fresh s) new clear = (new ≡ Fresh s) × (clear ≡ true)
LooksFor (Safe s) new clear = (new ≡ Safe s) × (clear ≡ true)
LooksFor (Ended s) new clear = (new ≡ Ended s) × (clear ≡ true)

-- What is told of a running thread is another watch, or nobody, unless its cell is in use. `called` is whether somebody calls for it
abbrev pub WatchesFrom : Runner → AnyThread → Result Bool TiError → Type 0
WatchesFrom r (Running n) (Ok called) = (n ≡ with_view r n.view) × Holds r.view n.view [] × (called ≡ is_armed n.view.subject.limits n.view.seen)
WatchesFrom r (Fresh s) (Ok called) = ⊥
WatchesFrom r (Safe s) (Ok called) = ⊥
WatchesFrom r (Ended s) (Ok called) = ⊥
WatchesFrom r new (Err e) = (new ≡ Running r) × (e ≡ Busy)

abbrev pub Watches : AnyThread → AnyThread → Result Bool TiError → Type 0
Watches (Running r) new told = WatchesFrom r new told
Watches (Fresh s) new told = (new ≡ Fresh s) × (told ≡ Err NotRunning)
Watches (Safe s) new told = (new ≡ Safe s) × (told ≡ Err NotRunning)
Watches (Ended s) new told = (new ≡ Ended s) × (told ≡ Err NotRunning)
