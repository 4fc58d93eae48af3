-- The events that wait to be told.
use Rattle.std.specs.Prelude.{ℕ, ◌+◌, ◌-◌, ◌^◌, min, Bool, false, not, ◌&&◌, List, [], ◌∷◌, ◌++◌, drop, slice_get, Option}
use Rattle.ti_jdwp.specs.declared.notice.Notice.{Notice}

pub record Queue : Type 0 where
  -- in the order in which they came
  pub waiting : List Notice
  -- how many were lost
  pub lost : ℕ
  -- the debugger holds events
  pub held : Bool
  -- an event stopped all threads, and they were not resumed since
  pub stopped : Bool

abbrev pub no_events : Queue
no_events = record { waiting = []; lost = 0; held = false; stopped = false }

abbrev pub with_event : Queue → Notice → Queue
with_event q e = record q { waiting = q.waiting ++ e ∷ [] }

abbrev pub with_loss : Queue → Queue
with_loss q = record q { lost = min (q.lost + 1) (2 ^ 64 - 1) }

-- events go out only while the debugger takes them, and none stands that stopped all threads
abbrev pub may_tell : Queue → Bool
may_tell q = not q.held && not q.stopped

abbrev pub first : List Notice → Option Notice
first events = slice_get events 0

abbrev pub without_first : Queue → Queue
without_first q = record q { waiting = drop 1 q.waiting }
