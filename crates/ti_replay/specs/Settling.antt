-- When each entry of a history takes place.
--
-- A waiting call at a running thread takes place just after the thread's next hand-over or end.
use Rattle.std.specs.Prelude.{ℕ, Bool, true, false, not, ◌&&◌, if◌then◌else◌, List, [], ◌∷◌}
use Rattle.std.specs.List.{fold, list_any, enumerate_from}
use Rattle.ti_types.specs.declared.call.Call.{Call}
use Rattle.ti_types.specs.declared.call.Call.TheVariants.{FrameCount, Trace, Location, Suspend, Pop}
use Rattle.ti_types.specs.declared.entry.Entry.{Entry}
use Rattle.ti_types.specs.declared.entry.Entry.TheVariants.{Start, Hand, Back, End, Asked}

-- the calls that wait for a running thread
abbrev pub waits : Call → Bool
waits FrameCount = true
waits (Trace start max_count) = true
waits (Location depth) = true
waits Suspend = true
waits Pop = true
waits _ = false

abbrev pub is_waiting_call : Entry → Bool
is_waiting_call (Asked env number call) = waits call
is_waiting_call _ = false

-- the thread hands over, or ends
abbrev pub is_hand_over : Entry → Bool
is_hand_over (Hand safe) = true
is_hand_over End = true
is_hand_over _ = false

-- whether the thread runs after an entry
abbrev pub runs_after : Bool → Entry → Bool
runs_after runs Start = true
runs_after runs Back = true
runs_after runs (Hand safe) = false
runs_after runs End = false
runs_after runs _ = runs

-- an entry, and its place in the history
abbrev pub Placed : Type 0
Placed = ℕ × Entry

abbrev pub placed : List Entry → List Placed
placed history = enumerate_from 0 history

abbrev pub hands_over : Placed → Bool
hands_over p = is_hand_over p.1

-- whether the thread runs after these entries, if it runs before them
abbrev pub runs_behind : Bool → List Placed → Bool
runs_behind runs entries = fold (λ r p. runs_after r p.1) runs entries

-- the entries with a call put just after the first hand-over or end. If there is none, the call is left out
abbrev pub put_behind : Placed → List Placed → List Placed
put_behind call [] = []
put_behind call (p ∷ entries) = if hands_over p then p ∷ call ∷ entries else p ∷ put_behind call entries

-- the entries in the order in which they take place
abbrev pub settle : Bool → List Placed → List Placed
settle runs [] = []
settle runs (p ∷ entries) =
    let rest = settle (runs_after runs p.1) entries in
    if is_waiting_call p.1 && runs then put_behind p rest else p ∷ rest

-- the waiting calls that have not taken place, the earliest first
abbrev pub left_out : Bool → List Placed → List Placed
left_out runs [] = []
left_out runs (p ∷ entries) =
    let rest = left_out (runs_after runs p.1) entries in
    if is_waiting_call p.1 && runs && not (list_any hands_over entries) then p ∷ rest else rest

-- of a history, from a new thread on
abbrev pub settled : List Entry → List Placed
settled history = settle false (placed history)

abbrev pub unanswered : List Entry → List Placed
unanswered history = left_out false (placed history)
