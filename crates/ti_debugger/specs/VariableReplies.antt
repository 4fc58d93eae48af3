-- Replies about variables, texts and tables, and what a runtime tells of them.
use Rattle.std.specs.Prelude.{ℕ, suc, zero, ℤ, negsuc, Ok, ◌≡◌, ◌≢◌, ◌+◌, ◌⊎◌, ◌++◌, ◌==◌, Bool, true, false, List, [], ◌∷◌, length, Option, Some, None, if◌then◌else◌}
use Rattle.std.specs.Option.{option_map}
use Rattle.std.specs.Int.{w32, cast_signed, cast_unsigned}
use Rattle.ti_jdwp.specs.Bodies.{list, signed}
use Rattle.ti_jdwp.specs.Fields.{int, long, text}
use Rattle.ti_jdwp.specs.Ids.{number_from, first_method, first_table, first_text, frame_id, table_class, text_class}
use Rattle.ti_jdwp.specs.Slots.{AreSlots}
use Rattle.ti_jdwp.specs.Variables.{entry_list, object_signature, value_list}
use Rattle.ti_jdwp.specs.declared.error.JdwpError.{JdwpError}
use Rattle.ti_jdwp.specs.declared.variables.Value.{Value}
use Rattle.ti_debugger.specs.Debuggers.{DebuggerValue}
use Rattle.ti_debugger.specs.Kept.{IsKept, numbered}
use Rattle.ti_debugger.specs.Stacks.{IsPart}
use Rattle.ti_debugger.specs.declared.stacks.Part.{Part}
use Rattle.ti_debugger.specs.Questions.{named_in, question_in, read_answer}
use Rattle.ti_debugger.specs.declared.asked.Asked.{Asked}
use Rattle.ti_debugger.specs.declared.asked.Asked.TheVariants as asked
use Rattle.ti_debugger.specs.declared.asked.Named.{Named}
use Rattle.ti_debugger.specs.declared.asked.Row.{Row}
use Rattle.ti_debugger.specs.declared.objects.Kept.{Kept}
use Rattle.ti_debugger.specs.declared.objects.Object.{Object}
use Rattle.ti_debugger.specs.declared.objects.Object.TheVariants as object
use Rattle.ti_debugger.specs.declared.question.Question.{Question}
use Rattle.ti_debugger.specs.declared.question.Question.TheVariants as question
use Rattle.ti_debugger.specs.declared.question.TellError.{TellError}
use Rattle.ti_debugger.specs.declared.question.TellError.TheVariants as error
use Rattle.ti_debugger.specs.declared.question.Told.{Told}
use Rattle.ti_debugger.specs.declared.question.Variable.{Variable}

-- where it begins to be there, its name, its signature, at how many locations it is there, and its slot
abbrev pub plain_item : Named → List ℕ
plain_item v = long v.first ++ text v.name ++ text object_signature ++ int v.count ++ int v.slot

-- the same with no generic signature
abbrev pub generic_item : Named → List ℕ
generic_item v = long v.first ++ text v.name ++ text object_signature ++ text [] ++ int v.count ++ int v.slot

-- no arguments, and the variables
abbrev pub variables_text : Bool → List Named → List ℕ
variables_text false vs = int 0 ++ list plain_item vs
variables_text true vs = int 0 ++ list generic_item vs

-- the variables that were told of this method
abbrev pub AreTold : Asked → ℕ → List Named → Type 0
AreTold (asked.Variables m vs) method told = (m ≡ method) × (vs.items ≡ told)
AreTold _ method told = ⊥

abbrev pub TellsVariables : Bool → ℕ → Asked → List ℕ → Type 0
TellsVariables generic id a body = (method : ℕ) × (told : List Named) × (number_from first_method id ≡ Some method) × AreTold a method told × (body ≡ variables_text generic told)

-- the value that was told first for a slot
unfoldable pub value_at : List Row → ℕ → Option Value
value_at [] slot = None
value_at (r ∷ rows) slot = if r.slot == slot then Some r.value else value_at rows slot

abbrev pub in_front : Option Value → Option (List Value) → Option (List Value)
in_front None values = None
in_front (Some v) values = option_map (λ (vs : List Value). v ∷ vs) values

-- the values at these slots, in their order
unfoldable pub picked : List Row → List ℕ → Option (List Value)
picked rows [] = Some []
picked rows (slot ∷ slots) = in_front (value_at rows slot) (picked rows slots)

-- the values at the slots that stand in the data
abbrev pub TellsValues : List Row → List ℕ → List ℕ → Type 0
TellsValues rows bytes body = (slots : List ℕ) × (values : List Value) × AreSlots slots bytes × (picked rows slots ≡ Some values) × (body ≡ value_list values)

-- the values that were told of this frame
abbrev pub AreValues : Asked → ℕ → ℕ → List Row → Type 0
AreValues (asked.Values t d rows) thread depth told = (t ≡ thread) × (d ≡ depth) × (rows.items ≡ told)
AreValues _ thread depth told = ⊥

abbrev pub TellsFrame : ℕ → ℕ → List ℕ → Asked → List ℕ → Type 0
TellsFrame thread frame bytes a body = (depth : ℕ) × (told : List Row) × (frame_id thread depth ≡ frame) × AreValues a thread depth told × TellsValues told bytes body

-- the text with this id, and the table
abbrev pub TellsText : List Kept → ℕ → List ℕ → Type 0
TellsText objects id body = (n : ℕ) × (content : List ℕ) × (number_from first_text id ≡ Some n) × IsKept objects n (object.Text content) × (body ≡ text content)

abbrev pub IsTable : List Kept → ℕ → ℕ → ℕ → Type 0
IsTable objects id n count = (number_from first_table id ≡ Some n) × IsKept objects n (object.Table count)

-- a text that was told is of the class of all texts, and a table of that of all tables
abbrev pub TellsClass : List Kept → ℕ → List ℕ → Type 0
TellsClass objects id body =
    ((n : ℕ) × (content : List ℕ) × (number_from first_text id ≡ Some n) × IsKept objects n (object.Text content) × (body ≡ 1 ∷ long text_class))
    ⊎ ((n count : ℕ) × IsTable objects id n count × (body ≡ 3 ∷ long table_class))

abbrev pub TellsLength : List Kept → ℕ → List ℕ → Type 0
TellsLength objects id body = (n count : ℕ) × IsTable objects id n count × (body ≡ signed (cast_signed w32 count))

-- so many numbers
unfoldable pub numbers_from : ℕ → ℕ → List ℕ
numbers_from first zero = []
numbers_from first (suc count) = first ∷ numbers_from (first + 1) count

-- the texts that are a part of a table, behind it
abbrev pub entries_of : ℕ → Option Part → List ℕ
entries_of table None = []
entries_of table (Some p) = numbers_from (table + 1 + cast_unsigned w32 p.start) (cast_unsigned w32 p.count)

-- the part of a table that is asked for
abbrev pub TellsEntries : List Kept → ℕ → ℤ → ℤ → List ℕ → Type 0
TellsEntries objects id start len body =
    (n count : ℕ) × (wanted : ℤ) × (p : Option Part) × IsTable objects id n count × (len ≢ negsuc 0 → wanted ≡ len) × IsPart (cast_signed w32 count) start wanted (Ok p) × (body ≡ entry_list (entries_of n p))

-- an answer for the variables of a method
abbrev pub TellsThese : List Variable → List ℕ → Asked → Asked → Type 0
TellsThese variables names old new = (method : ℕ) × (told : List Named) × (old ≡ asked.Open (question.Variables method)) × (named_in variables names ≡ Some told) × AreTold new method told

abbrev pub asks_variables : Option Question → Bool
asks_variables (Some (question.Variables method)) = true
asks_variables _ = false

abbrev pub asks_values : Option Question → Bool
asks_values (Some (question.Values thread depth)) = true
asks_values _ = false

abbrev pub RefusesThese : List Variable → List ℕ → Asked → TellError → Type 0
RefusesThese variables names old error.NotAsked = asks_variables (question_in old) ≡ false
RefusesThese variables names old error.IllegalArgument = named_in variables names ≡ None
RefusesThese variables names old error.OutOfMemory = Unit {0}

-- an answer for the values of a frame: what is new is kept for its thread, with the next numbers
abbrev pub TellsValuesOf : List Told → List ℕ → DebuggerValue → DebuggerValue → Type 0
TellsValuesOf values texts old new = (thread depth : ℕ) × (rows : List Row) × (more : List Object) × (old.asked ≡ asked.Open (question.Values thread depth))
    × (read_answer old.numbers values texts ≡ Some (record { rows = rows; objects = more; left = 0; rest = [] })) × AreValues new.asked thread depth rows × (new.objects ≡ old.objects ++ numbered thread old.numbers more)
    × (new.numbers ≡ old.numbers + length more)

abbrev pub RefusesValues : List Told → List ℕ → DebuggerValue → TellError → Type 0
RefusesValues values texts old error.NotAsked = asks_values (question_in old.asked) ≡ false
RefusesValues values texts old error.IllegalArgument = read_answer old.numbers values texts ≡ None
RefusesValues values texts old error.OutOfMemory = Unit {0}

abbrev pub TellsNone : JdwpError → Asked → Asked → Type 0
TellsNone e old new = (q : Question) × (question_in old ≡ Some q) × (new ≡ asked.Untold q e)
