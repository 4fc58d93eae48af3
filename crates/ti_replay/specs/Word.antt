-- The word of an environment at a thread.
use Rattle.std.specs.Prelude.{ℕ, Bool, true, false, ◌&&◌, ◌==◌, if◌then◌else◌, List, [], ◌∷◌}
use Rattle.ti_types.specs.declared.numbers.EnvNo.{EnvNo}
use Rattle.ti_types.specs.declared.call.Call.TheVariants.{SetWord}
use Rattle.ti_types.specs.declared.entry.Entry.{Entry}
use Rattle.ti_types.specs.declared.entry.Entry.TheVariants.{Start, End, Asked}

-- whether the thread is alive after an entry
abbrev pub lives_after : Bool → Entry → Bool
lives_after alive Start = true
lives_after alive End = false
lives_after alive _ = alive

-- the word after an entry: an environment sets its own, at a thread that is alive
abbrev pub word_after : Bool → ℕ → EnvNo → Entry → ℕ
word_after alive word env (Asked other number (SetWord w)) = if alive && (other.0 == env.0) then w else word
word_after alive word env _ = word

abbrev pub word_from : Bool → ℕ → EnvNo → List Entry → ℕ
word_from alive word env [] = word
word_from alive word env (x ∷ history) = word_from (lives_after alive x) (word_after alive word env x) env history

-- the last word that the environment set while the thread was alive, and 0 if it set none
abbrev pub word_of : List Entry → EnvNo → ℕ
word_of history env = word_from false 0 env history
