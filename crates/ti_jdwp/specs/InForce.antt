-- The requests for events that are in force.
use Rattle.std.specs.Prelude.{ℕ, ◌+◌, ◌-◌, ◌==◌, nat_lt, Bool, true, false, not, ◌&&◌, List, [], ◌∷◌, ◌++◌, map, filter, fold, Option, Some, None, is_some, max, if◌then◌else◌}
use Rattle.std.specs.List.{list_all, list_any}
use Rattle.ti_jdwp.specs.declared.event.Event.{Event}
use Rattle.ti_jdwp.specs.declared.event.Filter.{Filter}
use Rattle.ti_jdwp.specs.declared.request.EventKind.{EventKind}
use Rattle.ti_jdwp.specs.declared.request.Policy.{Policy}
use Rattle.ti_jdwp.specs.declared.request.Policy.TheVariants as policy
use Rattle.ti_jdwp.specs.declared.stops.Step.{Step}
use Rattle.ti_jdwp.specs.declared.stops.Target.{Target}
use Rattle.ti_jdwp.specs.declared.stops.Target.TheVariants as target
use Rattle.ti_jdwp.specs.Events.{kind_number, policy_number}
use Rattle.ti_jdwp.specs.Filters.{event_kind, passes}
use Rattle.ti_jdwp.specs.Stops.{is_for, bound_of, is_above}

-- a request
pub record Asked : Type 0 where
  pub number : ℕ
  pub kind : EventKind
  pub policy : Policy
  -- what it is made for
  pub target : Target
  -- the modifiers before the count
  pub front : List Filter
  -- how many more events come as far as the count until the request is told of one
  pub left : Option ℕ
  -- the modifiers behind it
  pub rest : List Filter

pub record AllAsked : Type 0 where
  -- in the order in which they were made
  pub list : List Asked
  -- the number that was given last, or 0
  pub given : ℕ

abbrev pub no_requests : AllAsked
no_requests = record { list = []; given = 0 }

-- whether an event comes as far as the count
abbrev pub is_reached : Event → Asked → Bool
is_reached e r = ((kind_number r.kind == kind_number (event_kind e)) && is_for e r.target) && list_all (passes e) r.front

abbrev pub is_due : Option ℕ → Bool
is_due None = true
is_due (Some n) = n == 1

abbrev pub counts_down : Option ℕ → Option ℕ
counts_down None = None
counts_down (Some n) = Some (n - 1)

-- A request is told of the event that its count is at, if this meets all modifiers. After that it is told of none.
abbrev pub is_told : Event → Asked → Bool
is_told e r = is_reached e r && (is_due r.left && list_all (passes e) r.rest)

abbrev pub after : Event → Asked → Asked
after e r = if is_reached e r then record r { left = counts_down r.left } else r

abbrev pub all_after : Event → AllAsked → AllAsked
all_after e all = record all { list = map (after e) all.list }

abbrev pub stronger : Policy → Policy → Policy
stronger p q = if nat_lt (policy_number p) (policy_number q) then q else p

-- the strongest policy of these requests
abbrev pub strongest : List Asked → Policy
strongest rs = fold (λ p r. stronger p r.policy) policy.None rs

abbrev pub is_it : ℕ → ℕ → Asked → Bool
is_it kind number r = (kind_number r.kind == kind) && (r.number == number)

abbrev pub with_request : AllAsked → EventKind → Policy → Target → List Filter → Option ℕ → List Filter → AllAsked
with_request all kind policy target front count rest = record {
  list = all.list ++ record { number = all.given + 1; kind = kind; policy = policy; target = target; front = front; left = count; rest = rest } ∷ [];
  given = all.given + 1;
}

abbrev pub without_request : AllAsked → ℕ → ℕ → AllAsked
without_request all kind number = record all { list = filter (λ r. not (is_it kind number r)) all.list }

abbrev is_left : Option ℕ → Bool
is_left None = true
is_left (Some n) = not (n == 0)

-- a request that may still be told of an event
abbrev pub is_live : Asked → Bool
is_live r = is_left r.left

abbrev is_at_place : ℕ → ℕ → ℕ → Target → Bool
is_at_place c m i target.Anywhere = false
is_at_place c m i (target.Place class method index) = (class == c) && ((method == m) && (index == i))
is_at_place c m i (target.Step s) = false

-- a request that waits for a breakpoint at this place
abbrev pub wants_breakpoint : ℕ → ℕ → ℕ → Asked → Bool
wants_breakpoint c m i r = is_at_place c m i r.target && is_live r

abbrev step_in : ℕ → Bool → Target → Option Step
step_in t live target.Anywhere = None
step_in t live (target.Place class method index) = None
step_in t live (target.Step s) = if (s.thread == t) && live then Some s else None

-- the step of this thread for whose end a request waits
abbrev pub step_of : ℕ → Asked → Option Step
step_of t r = step_in t (is_live r) r.target

abbrev pub steps_at : ℕ → Asked → Bool
steps_at t r = is_some (step_of t r)

abbrev passes_by : ℕ → Option Step → Bool
passes_by frames None = true
passes_by frames (Some s) = is_above s frames

-- a request that waits for no step of this thread, but for one that ends with fewer frames
abbrev pub is_passed : ℕ → ℕ → Asked → Bool
is_passed t frames r = passes_by frames (step_of t r)

abbrev bound_in : Option Step → ℕ
bound_in None = 0
bound_in (Some s) = bound_of s

abbrev pub bound_at : ℕ → Asked → ℕ
bound_at t r = bound_in (step_of t r)

abbrev pub greatest : ℕ → List Asked → ℕ
greatest t rs = fold (λ n r. max n (bound_at t r)) 0 rs

-- With at most so many frames a step of this thread may end, if requests wait for some, and for none that may end with as many as
-- there are.
abbrev pub deeper : ℕ → ℕ → List Asked → Option ℕ
deeper t frames rs = if list_all (is_passed t frames) rs && list_any (steps_at t) rs then Some (greatest t rs) else None
