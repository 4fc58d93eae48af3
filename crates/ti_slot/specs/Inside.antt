-- A slot's fields, as a whole.
use Rattle.std.specs.Prelude.{◌≡◌, List}
use Rattle.ti_replay.specs.declared.costs.Costs.{Costs}
use Rattle.ti_replay.specs.HistoryState.{history_state}
use Rattle.ti_slot.specs.declared.slot.Slot.TheInside.{Inside}
use Rattle.ti_slot.specs.Waiting.{said_in}
use Rattle.ti_slot.specs.Tickets.{Tells, asked_in, open_in}
use Rattle.ti_slot.specs.Thread.{Thread}
use Rattle.ti_slot.specs.Slot.{Refines, shelf}
use Rattle.ti_slot.specs.HandOvers.{hand_overs}

-- what each environment has asked and spent, read off the history
abbrev pub costs_in : Inside → List Costs
costs_in a = (history_state a.limits a.history.items).costs

abbrev pub IsSlot : Inside → Type 0
IsSlot a = Refines a.limits a.history.items (shelf a.history) a.condition a.frames a.log a.own (costs_in a) a.ops

-- and the statuses of its tickets, and the count of its hand-overs
abbrev pub IsWhole : Inside → Type 0
IsWhole a = IsSlot a × Tells a.limits a.number a.history.items a.ops.waiting (said_in a.ops.statuses) × (a.handed ≡ hand_overs a.history.items)

abbrev pub thread_in : Inside → Thread
thread_in a = record { limits = a.limits; number = a.number; history = a.history.items; uncollected = open_in (said_in a.ops.statuses) (asked_in a.number a.history.items) }
