-- The rule of the list and of the slots, and what the steps tell.
use Rattle.std.specs.Prelude.{ℕ, ◌≡◌, ◌==◌, ◌+◌, ◌*◌, ◌^◌, ◌<◌, true, List, [], ◌∷◌, ◌++◌, Some, length, slice_get, MatchBool}
use Rattle.logbook.specs.Pages.{Cell, Step, View, Book, Named}
use Rattle.ti_methods.specs.declared.info.ClassNo.{ClassNo}
use Rattle.ti_methods.specs.declared.info.ClassInfo.{ClassInfo}
use Rattle.ti_methods.specs.declared.entry.Entry.{Entry}
use Rattle.ti_methods.specs.Classes.{count, methods_in, class_at, first_of}

-- all numbers fit
pub record IsLegal (log : List ClassInfo) : Type 0 where
  pub classes : length log < 2 ^ 32
  pub methods : length (methods_in log) < 2 ^ 32

-- the number of classes in the high half, that of methods in the low half
abbrev pub word_of : List ClassInfo → ℕ
word_of log = length log * 2 ^ 32 + length (methods_in log)

-- a book has two words, of which this one leaves the second at 0
pub record IsKept (cells : List Cell) (log : List ClassInfo) : Type 0 where
  pub words : cells ≡ (word_of log, true) ∷ (0, true) ∷ []
  pub legal : IsLegal log

abbrev pub count_of : Book → Named
count_of b = record { tracked = true; key = 0; book = b }

abbrev pub numbers_of : Book → List ℕ
numbers_of b = b.number ∷ b.log_name ∷ b.cells_name ∷ []

-- the list so far was seen, and its counts found
abbrev pub Looks : Step ClassInfo → View ClassInfo ℕ → ℕ → View ClassInfo ℕ → Type 0
Looks s v found w = (word_of w.0 ≡ found) × IsLegal w.0

-- the class was added to all that had been seen; or the list had other counts, and was seen
abbrev pub Adds : Step ClassInfo → View ClassInfo ℕ → ℕ → View ClassInfo ℕ → Type 0
Adds s v found w = MatchBool (found == s.old) ((w.0 ≡ v.0 ++ s.ask ∷ []) × IsLegal w.0) ((word_of w.0 ≡ found) × IsLegal w.0)

-- the class stands in the list of this table under this number
pub record IsEntry (tag : List ℕ) (index : ℕ) (entry : Entry) : Type 0 where
  pub of : numbers_of entry.seen.book ≡ tag
  pub at : slice_get entry.seen.log index ≡ Some entry.class
  pub first : entry.first ≡ first_of entry.seen.log index
  pub room : entry.first + count entry.class < 2 ^ 32

-- what is found under a number
pub record IsFound (log : List ClassInfo) (class : ClassNo) (entry : Entry) : Type 0 where
  pub at : class_at log class ≡ Some entry.class
  pub first : entry.first ≡ first_of log class.0
  pub room : entry.first + count entry.class < 2 ^ 32
