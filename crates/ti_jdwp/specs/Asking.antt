-- What a request for events says of the events that it is for.
use Rattle.std.specs.Prelude.{ℕ, suc, zero, ◌==◌, ◌^◌, nat_lt, Bool, true, false, ◌&&◌, ◌||◌, List, [], ◌∷◌, ◌++◌, map, Option, Some, None, Result, Ok, Err, if◌then◌else◌}
use Rattle.std.specs.Int.{w32, cast_unsigned}
use Rattle.ti_jdwp.specs.declared.asking.Meaning.{Meaning}
use Rattle.ti_jdwp.specs.declared.asking.Meaning.TheVariants as meaning
use Rattle.ti_jdwp.specs.declared.error.JdwpError.{JdwpError}
use Rattle.ti_jdwp.specs.declared.error.JdwpError.TheVariants as error
use Rattle.ti_jdwp.specs.declared.event.Filter.{Filter}
use Rattle.ti_jdwp.specs.declared.event.Filter.TheVariants as filter
use Rattle.ti_jdwp.specs.declared.modifiers.Modifier.{Modifier}
use Rattle.ti_jdwp.specs.declared.modifiers.Modifier.TheVariants as modifier
use Rattle.ti_jdwp.specs.declared.request.EventKind.{EventKind}
use Rattle.ti_jdwp.specs.declared.request.EventKind.TheVariants as kind
use Rattle.ti_jdwp.specs.declared.requests_in_force.Filters.{Filters}
use Rattle.ti_jdwp.specs.declared.plan.Wish.{Wish}
use Rattle.ti_jdwp.specs.declared.stops.Depth.{Depth}
use Rattle.ti_jdwp.specs.declared.stops.Depth.TheVariants as depth
use Rattle.ti_jdwp.specs.declared.stops.Size.{Size}
use Rattle.ti_jdwp.specs.declared.stops.Size.TheVariants as size
use Rattle.ti_jdwp.specs.declared.stops.Standing.{Standing}
use Rattle.ti_jdwp.specs.declared.stops.Target.{Target}
use Rattle.ti_jdwp.specs.declared.stops.Target.TheVariants as target
use Rattle.ti_jdwp.specs.Fields.{◌>>=◌, bytes_at}
use Rattle.ti_jdwp.specs.Filters.{slashed}
use Rattle.ti_jdwp.specs.Ids.{number_from, first_thread, first_class, first_method}
use Rattle.ti_jdwp.specs.Modifiers.{modifier_at}

-- what a request is made for, the filters before the count, the count, and the filters behind it
pub record Reading : Type 0 where
  pub target : Target
  pub front : List Filter
  pub count : Option ℕ
  pub rest : List Filter

abbrev pub reading_of : Filters → Reading
reading_of f = record { target = f.target; front = f.front.items; count = f.count; rest = f.rest.items }

abbrev pub no_filters : Reading
no_filters = record { target = target.Anywhere; front = []; count = None; rest = [] }

-- events of these kinds have a class
abbrev pub has_class : EventKind → Bool
has_class kind.SingleStep = true
has_class kind.Breakpoint = true
has_class kind.ThreadStart = false
has_class kind.ThreadDeath = false
has_class kind.ClassPrepare = true
has_class kind.ClassUnload = true
has_class kind.VmStart = false
has_class kind.VmDeath = false

-- and it is there
abbrev pub is_at_class : EventKind → Bool
is_at_class kind.SingleStep = true
is_at_class kind.Breakpoint = true
is_at_class kind.ThreadStart = false
is_at_class kind.ThreadDeath = false
is_at_class kind.ClassPrepare = true
is_at_class kind.ClassUnload = false
is_at_class kind.VmStart = false
is_at_class kind.VmDeath = false

abbrev pub is_breakpoint : EventKind → Bool
is_breakpoint kind.SingleStep = false
is_breakpoint kind.Breakpoint = true
is_breakpoint kind.ThreadStart = false
is_breakpoint kind.ThreadDeath = false
is_breakpoint kind.ClassPrepare = false
is_breakpoint kind.ClassUnload = false
is_breakpoint kind.VmStart = false
is_breakpoint kind.VmDeath = false

abbrev pub is_step : EventKind → Bool
is_step kind.SingleStep = true
is_step kind.Breakpoint = false
is_step kind.ThreadStart = false
is_step kind.ThreadDeath = false
is_step kind.ClassPrepare = false
is_step kind.ClassUnload = false
is_step kind.VmStart = false
is_step kind.VmDeath = false

abbrev pub or_error : Option ℕ → JdwpError → Result ℕ JdwpError
or_error None e = Err e
or_error (Some n) e = Ok n

-- a place by the ids of its class and its method
abbrev pub place_in : ℕ → ℕ → ℕ → Result Meaning JdwpError
place_in class method index =
    or_error (number_from first_class class) error.InvalidClass >>= λ c.
    or_error (number_from first_method method) error.InvalidMethodId >>= λ m.
    (if nat_lt index (2 ^ 32) then Ok (meaning.Target (target.Place c m index)) else Err error.InvalidLocation)

-- JDWP's "StepSize" and "StepDepth" constants
abbrev pub size_in : ℕ → Result Size JdwpError
size_in n = if n == 0 then Ok size.Min else (if n == 1 then Ok size.Line else Err error.IllegalArgument)

abbrev pub depth_in : ℕ → Result Depth JdwpError
depth_in n = if n == 0 then Ok depth.Into else (if n == 1 then Ok depth.Over else (if n == 2 then Ok depth.Out else Err error.IllegalArgument))

-- a step of the thread with an id, which stands there
abbrev pub step_in : ℕ → ℕ → ℕ → Standing → Result Meaning JdwpError
step_in thread size depth from =
    or_error (number_from first_thread thread) error.InvalidThread >>= λ t.
    size_in size >>= λ z.
    depth_in depth >>= λ d.
    Ok (meaning.Target (target.Step (record { thread = t; size = z; depth = d; from = from })))

-- what a modifier says to a request for events of a kind; patterns stand in the data of the request
abbrev pub meaning_in : EventKind → Standing → Modifier → List ℕ → Result Meaning JdwpError
meaning_in k from (modifier.Count n) bytes = Ok (meaning.Count (cast_unsigned w32 n))
meaning_in k from (modifier.ThreadOnly id) bytes = or_error (number_from first_thread id) error.InvalidThread >>= λ t. Ok (meaning.Filter (filter.Thread t))
meaning_in k from (modifier.ClassOnly id) bytes =
    if is_at_class k then (or_error (number_from first_class id) error.InvalidClass >>= λ c. Ok (meaning.Filter (filter.Class c))) else Err error.IllegalArgument
meaning_in k from (modifier.ClassMatch range) bytes = if has_class k then Ok (meaning.Filter (filter.Matches (map slashed (bytes_at range bytes)))) else Err error.IllegalArgument
meaning_in k from (modifier.ClassExclude range) bytes = if has_class k then Ok (meaning.Filter (filter.Excludes (map slashed (bytes_at range bytes)))) else Err error.IllegalArgument
meaning_in k from (modifier.LocationOnly class method index) bytes = if is_breakpoint k then place_in class method index else Err error.IllegalArgument
meaning_in k from (modifier.Step thread size depth) bytes = if is_step k then step_in thread size depth from else Err error.IllegalArgument
meaning_in k from modifier.Other bytes = Err error.IllegalArgument

-- An event that is let through by a first count is no second one's, unless that is 1.
abbrev pub counted_twice : ℕ → Option ℕ → Option ℕ
counted_twice n None = Some n
counted_twice n (Some before) = if n == 1 then Some before else Some 0

abbrev pub with_filter : Reading → Filter → Option ℕ → Reading
with_filter r f None = record r { front = r.front ++ f ∷ [] }
with_filter r f (Some n) = record r { rest = r.rest ++ f ∷ [] }

-- a request is made for one place, or one step
abbrev pub with_target : Reading → Target → Target → Result Reading JdwpError
with_target r t target.Anywhere = Ok (record r { target = t })
with_target r t (target.Place class method index) = Err error.IllegalArgument
with_target r t (target.Step step) = Err error.IllegalArgument

abbrev pub with_meaning : Reading → Meaning → Result Reading JdwpError
with_meaning r (meaning.Count n) = Ok (record r { count = counted_twice n r.count })
with_meaning r (meaning.Filter f) = Ok (with_filter r f r.count)
with_meaning r (meaning.Target t) = with_target r t r.target

-- the modifier at a place is read, and then the place is behind it
abbrev pub one_step : EventKind → Standing → List ℕ → ℕ → Reading → Result (Reading × ℕ) JdwpError
one_step k from bytes at r = modifier_at at bytes >>= λ m. meaning_in k from m.0 bytes >>= λ x. with_meaning r x >>= λ q. Ok (q, m.1)

-- so many modifiers are read
unfoldable pub steps : ℕ → EventKind → Standing → List ℕ → ℕ → Reading → Result Reading JdwpError
steps zero k from bytes at r = Ok r
steps (suc n) k from bytes at r = one_step k from bytes at r >>= λ s. steps n k from bytes s.1 s.0

abbrev is_anywhere : Target → Bool
is_anywhere target.Anywhere = true
is_anywhere (target.Place class method index) = false
is_anywhere (target.Step step) = false

-- a request for breakpoints is made for a place, and one for steps for a step
abbrev pub lacks : EventKind → Target → Bool
lacks k t = (is_step k || is_breakpoint k) && is_anywhere t

-- what the modifiers of a request say, if it is one for a thread that stands there
abbrev pub filters_in : Wish → Standing → List ℕ → Result Reading JdwpError
filters_in w from bytes = steps w.count w.kind from bytes w.at no_filters >>= λ r. if lacks w.kind r.target then Err error.IllegalArgument else Ok r
