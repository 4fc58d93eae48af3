-- How an answer is read, value by value.
use Rattle.std.specs.Prelude.{ℕ, ◌≡◌, ◌≤◌, ⊤, List, length, drop, Some, None, Result, Ok, Err}
use Rattle.ti_debugger.specs.declared.question.Content.{Content}
use Rattle.ti_debugger.specs.declared.question.TellError.{TellError}
use Rattle.ti_debugger.specs.declared.question.TellError.TheVariants as error
use Rattle.ti_debugger.specs.declared.taking.Taken.{Taken}
use Rattle.ti_debugger.specs.Questions.{Reading, read_content}

abbrev pub reading_of : Taken → List ℕ → Reading
reading_of t rest = record { rows = t.rows.items; objects = t.objects.items; left = t.left; rest = rest }

-- a value is read, of which so many bytes are used, or it stands where none may, or there is no memory or no room
abbrev pub Reads : ℕ → ℕ → Content → List ℕ → Taken → Taken → Result ℕ TellError → Type 0
Reads given slot c texts old new (Ok used) = (used ≤ length texts) × (read_content given slot c (reading_of old texts) ≡ Some (reading_of new (drop used texts)))
Reads given slot c texts old new (Err error.IllegalArgument) = read_content given slot c (reading_of old texts) ≡ None
Reads given slot c texts old new (Err error.OutOfMemory) = ⊤
Reads given slot c texts old new (Err error.NotAsked) = ⊥
