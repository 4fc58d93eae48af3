-- Places at which threads stop, and how far a step goes.
use Rattle.std.specs.Prelude.{ℕ, ◌-◌, ◌==◌, nat_lt, Bool, true, false, not, ◌&&◌, ◌||◌, Option, Some, None}
use Rattle.ti_jdwp.specs.declared.event.Event.{Event}
use Rattle.ti_jdwp.specs.declared.event.Event.TheVariants as event
use Rattle.ti_jdwp.specs.declared.event.Spot.{Spot}
use Rattle.ti_jdwp.specs.declared.stops.Depth.{Depth}
use Rattle.ti_jdwp.specs.declared.stops.Depth.TheVariants as depth
use Rattle.ti_jdwp.specs.declared.stops.Size.{Size}
use Rattle.ti_jdwp.specs.declared.stops.Size.TheVariants as size
use Rattle.ti_jdwp.specs.declared.stops.Standing.{Standing}
use Rattle.ti_jdwp.specs.declared.stops.Step.{Step}
use Rattle.ti_jdwp.specs.declared.stops.Stopped.{Stopped}
use Rattle.ti_jdwp.specs.declared.stops.Target.{Target}
use Rattle.ti_jdwp.specs.declared.stops.Target.TheVariants as target

-- where nothing is known of a thread
abbrev pub nowhere : Standing
nowhere = record { frames = 0; method = 0; line = None }

abbrev pub spot_of : Stopped → Spot
spot_of s = record {
  thread = s.thread;
  class = s.class;
  method = s.method;
  index = s.index;
  line = s.line;
  frames = s.frames;
  signature = s.signature.now;
  breakpoint = s.breakpoint;
  single_step = s.single_step;
}

abbrev pub is_same_line : Option ℕ → Option ℕ → Bool
is_same_line None None = true
is_same_line None (Some b) = false
is_same_line (Some a) None = false
is_same_line (Some a) (Some b) = a == b

-- another method or another line, if the size is a line
abbrev pub has_moved : Spot → Size → Standing → Bool
has_moved s size.Min f = true
has_moved s size.Line f = not (s.method == f.method) || not (is_same_line s.line f.line)

-- a step of this depth and size that began at a place ends here
abbrev pub ends_by : Depth → Size → Spot → Standing → Bool
ends_by depth.Into z s f = not (s.frames == f.frames) || has_moved s z f
ends_by depth.Over z s f = nat_lt s.frames f.frames || ((s.frames == f.frames) && has_moved s z f)
ends_by depth.Out z s f = nat_lt s.frames f.frames

abbrev pub is_done : Spot → Step → Bool
is_done s step = ends_by step.depth step.size s step.from

-- a breakpoint's request is for this place
abbrev pub is_place : Spot → Target → Bool
is_place s target.Anywhere = false
is_place s (target.Place class method index) = (s.class == class) && ((s.method == method) && (s.index == index))
is_place s (target.Step step) = false

-- the step that a request is for ends here
abbrev pub is_end : Spot → Target → Bool
is_end s target.Anywhere = false
is_end s (target.Place class method index) = false
is_end s (target.Step step) = (s.thread == step.thread) && is_done s step

-- Whether an event is what a request of its kind is made for. A stop is no step where the thread does not go in single steps, and
-- no breakpoint where none is set.
abbrev pub is_for : Event → Target → Bool
is_for (event.SingleStep s) t = s.single_step && is_end s t
is_for (event.Breakpoint s) t = s.breakpoint && is_place s t
is_for (event.ThreadStart thread) t = true
is_for (event.ThreadDeath thread) t = true
is_for (event.ClassPrepare thread class signature) t = true
is_for event.VmDeath t = true

abbrev bound_by : Depth → ℕ → ℕ
bound_by depth.Into frames = 0
bound_by depth.Over frames = frames
bound_by depth.Out frames = frames - 1

-- with at most so many frames a step over calls, or out of a method, may end
abbrev pub bound_of : Step → ℕ
bound_of s = bound_by s.depth s.from.frames

abbrev above_by : Depth → ℕ → ℕ → Bool
above_by depth.Into bound frames = false
above_by depth.Over bound frames = nat_lt bound frames
above_by depth.Out bound frames = nat_lt bound frames

-- such a step does not end before the stack has fewer frames than now
abbrev pub is_above : Step → ℕ → Bool
is_above s frames = above_by s.depth (bound_of s) frames
