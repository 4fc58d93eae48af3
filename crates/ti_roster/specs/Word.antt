-- The word: the lock bit, and how much has happened.
use Rattle.std.specs.Prelude.{ℕ, ◌+◌, ◌*◌, Bool, true, false, List, length}
use Rattle.ti_roster.specs.declared.coming.Coming.{Coming}

abbrev pub bit : Bool → ℕ
bit true = 1
bit false = 0

abbrev pub word_at : ℕ → Bool → ℕ
word_at count locked = 2 * count + bit locked

abbrev pub word_of : Bool → List Coming → ℕ
word_of locked log = word_at (length log) locked
