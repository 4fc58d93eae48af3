-- How often a thread has handed over.
use Rattle.std.specs.Prelude.{ℕ, Bool, true, false, List}
use Rattle.std.specs.List.{count_by}
use Rattle.ti_types.specs.declared.entry.Entry.{Entry}
use Rattle.ti_types.specs.declared.entry.Entry.TheVariants.{Hand}

-- in native code, blocked, or at a poll. An end is no hand-over here
abbrev pub is_hand : Entry → Bool
is_hand (Hand safe) = true
is_hand _ = false

-- how many entries of a history are hand-overs
abbrev pub hand_overs : List Entry → ℕ
hand_overs history = count_by is_hand history
