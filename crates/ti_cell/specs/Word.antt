-- The word: the lock bit, the armed bit, the barred bit, and the number of entries.
use Rattle.std.specs.Prelude.{ℕ, ◌≡◌, ◌+◌, ◌*◌, ◌/◌, ◌%◌, ◌≤◌, Bool, true, false, nat_eq, List, length, take}
use Rattle.ti_types.specs.declared.entry.Entry.{Entry}
use Rattle.ti_types.specs.declared.limits.Limits.{Limits}
use Rattle.ti_replay.specs.Legal.{is_armed}
use Rattle.ti_replay.specs.View.{view, is_barred}
use Rattle.ti_cell.specs.declared.look.Look.{Look}

abbrev pub bit : Bool → ℕ
bit true = 1
bit false = 0

abbrev pub word_at : ℕ → Bool → Bool → Bool → ℕ
word_at count barred armed locked = 8 * count + (4 * bit barred + (2 * bit armed + bit locked))

-- whether a history leaves its thread barred
abbrev pub bars : Limits → List Entry → Bool
bars limits history = is_barred (view limits history)

abbrev pub word_of : Limits → Bool → List Entry → ℕ
word_of limits locked history = word_at (length history) (bars limits history) (is_armed limits history) locked

-- what a load of the word shows
abbrev pub look_of : ℕ → Look
look_of word = record { armed = nat_eq (word / 2 % 2) 1; barred = nat_eq (word / 4 % 2) 1; count = word / 8 }

-- the first entries of the history, as many as were counted, have these bits
abbrev pub IsLook : Limits → List Entry → Look → Type 0
IsLook limits history look =
    (look.count ≤ length history) × (is_armed limits (take look.count history) ≡ look.armed) × (bars limits (take look.count history) ≡ look.barred)
