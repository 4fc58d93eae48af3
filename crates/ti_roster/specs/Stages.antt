-- How far a thread has come.
use Rattle.std.specs.Prelude.{◌==◌, Bool, true, false, if◌then◌else◌, List}
use Rattle.std.specs.List.{fold, filter}
use Rattle.ti_types.specs.declared.numbers.ThreadNo.{ThreadNo}
use Rattle.ti_roster.specs.declared.coming.Coming.{Coming}
use Rattle.ti_roster.specs.declared.coming.Coming.TheVariants.{Came, Started, Ended, Left, Attached, Met, GaveBack, Disposed, Stop}
use Rattle.ti_roster.specs.declared.newcomer.Newcomer.{Newcomer}
use Rattle.ti_roster.specs.declared.stage.Stage.{Stage}
use Rattle.ti_roster.specs.declared.stage.Stage.TheVariants.{New, Alive, Over}
use Rattle.ti_roster.specs.Log.{live}

abbrev pub is_new : Stage → Bool
is_new New = true
is_new Alive = false
is_new Over = false

abbrev pub is_alive : Stage → Bool
is_alive New = false
is_alive Alive = true
is_alive Over = false

abbrev pub stage_after : ThreadNo → Stage → Coming → Stage
stage_after t s (Came n) = s
stage_after t s (Started u) = if u.0 == t.0 then Alive else s
stage_after t s (Ended u) = if u.0 == t.0 then Over else s
stage_after t s (Left u) = s
stage_after t s (Attached e) = s
stage_after t s (Met e m) = s
stage_after t s (GaveBack e u) = s
stage_after t s (Disposed e) = s
stage_after t s (Stop o call) = s

-- how far a thread has come, once it was attached
abbrev pub stage_of : ThreadNo → List Coming → Stage
stage_of t log = fold (stage_after t) New log

-- whether a thread has started, and has not ended
abbrev pub is_alive_in : List Coming → Newcomer → Bool
is_alive_in log n = is_alive (stage_of n.thread log)

-- the live threads, in the order of their numbers: of those that are there each one that has started and has not ended
abbrev pub alive : List Coming → List Newcomer
alive log = filter (is_alive_in log) (live log)
