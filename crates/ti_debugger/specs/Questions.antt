-- Questions, and the answers that a runtime gives.
use Rattle.std.specs.Prelude.{ℕ, ◌+◌, ◌-◌, ◌==◌, ◌&&◌, Bool, not, nat_le, List, [], ◌∷◌, ◌++◌, length, take, drop, Option, Some, None, if◌then◌else◌}
use Rattle.std.specs.Option.{option_map}
use Rattle.std.specs.Str.{is_utf8}
use Rattle.ti_jdwp.specs.declared.variables.Value.{Value}
use Rattle.ti_jdwp.specs.declared.variables.Value.TheVariants as value
use Rattle.ti_debugger.specs.declared.asked.Asked.{Asked}
use Rattle.ti_debugger.specs.declared.asked.Asked.TheVariants as asked
use Rattle.ti_debugger.specs.declared.asked.Named.{Named}
use Rattle.ti_debugger.specs.declared.asked.Row.{Row}
use Rattle.ti_debugger.specs.declared.objects.Object.{Object}
use Rattle.ti_debugger.specs.declared.objects.Object.TheVariants as object
use Rattle.ti_debugger.specs.declared.question.Content.{Content}
use Rattle.ti_debugger.specs.declared.question.Content.TheVariants as content
use Rattle.ti_debugger.specs.declared.question.Question.{Question}
use Rattle.ti_debugger.specs.declared.question.Told.{Told}
use Rattle.ti_debugger.specs.declared.question.Variable.{Variable}

-- the question that the runtime has not answered yet
abbrev pub question_in : Asked → Option Question
question_in asked.Nothing = None
question_in (asked.Open q) = Some q
question_in (asked.Variables method variables) = None
question_in (asked.Values thread depth rows) = None
question_in (asked.Untold q e) = None
question_in (asked.Popping p) = None

-- a variable with its name
abbrev pub named : Variable → List ℕ → Named
named v name = record { slot = v.slot; first = v.first; count = v.count; name = name }

-- a name of so many bytes comes next, in UTF-8
abbrev pub is_name : ℕ → List ℕ → Bool
is_name len names = nat_le len (length names) && is_utf8 (take len names)

-- The names stand one behind the other, each in UTF-8, and nothing is left.
unfoldable pub named_in : List Variable → List ℕ → Option (List Named)
named_in [] [] = Some []
named_in [] (b ∷ names) = None
named_in (v ∷ vs) names =
    if is_name v.name_length names
    then option_map (λ (more : List Named). named v (take v.name_length names) ∷ more) (named_in vs (drop v.name_length names))
    else None

-- What an answer says so far: the values of variables, the texts and tables that are new, how many entries of the last table are to
-- come, and the bytes of the texts that are to come
pub record Reading : Type 0 where
  pub rows : List Row
  pub objects : List Object
  pub left : ℕ
  pub rest : List ℕ

abbrev pub nothing_read : List ℕ → Reading
nothing_read texts = record { rows = []; objects = []; left = 0; rest = texts }

abbrev pub with_row : Reading → ℕ → Value → Reading
with_row r slot v = record r { rows = r.rows ++ record { slot = slot; value = v } ∷ [] }

-- the text that comes next is one more object
abbrev pub with_text : Reading → ℕ → Reading
with_text r len = record r { objects = r.objects ++ object.Text (take len r.rest) ∷ []; rest = drop len r.rest }

abbrev pub with_table : Reading → ℕ → Reading
with_table r count = record r { objects = r.objects ++ object.Table count ∷ []; left = count }

-- A value comes where no entry is to come. A new object has the next number behind those that were given.
abbrev pub read_content : ℕ → ℕ → Content → Reading → Option Reading
read_content given slot content.Nil r = if r.left == 0 then Some (with_row r slot value.Nil) else None
read_content given slot (content.Boolean is) r = if r.left == 0 then Some (with_row r slot (value.Boolean is)) else None
read_content given slot (content.Integer number) r = if r.left == 0 then Some (with_row r slot (value.Integer number)) else None
read_content given slot (content.Number bits) r = if r.left == 0 then Some (with_row r slot (value.Number bits)) else None
read_content given slot (content.Text len) r =
    if (r.left == 0) && nat_le len (length r.rest) then Some (with_row (with_text r len) slot (value.Text (given + length r.objects))) else None
read_content given slot (content.Table count) r = if r.left == 0 then Some (with_row (with_table r count) slot (value.Table (given + length r.objects))) else None
read_content given slot (content.Entry len) r =
    if not (r.left == 0) && nat_le len (length r.rest) then Some (record (with_text r len) { left = r.left - 1 }) else None

abbrev pub then_read : (Reading → Option Reading) → Option Reading → Option Reading
then_read f None = None
then_read f (Some r) = f r

-- one value after the other
unfoldable pub read_all : ℕ → List Told → Reading → Option Reading
read_all given [] r = Some r
read_all given (t ∷ ts) r = then_read (λ (r' : Reading). read_all given ts r') (read_content given t.slot t.content r)

-- all of the texts are read, and each table has its entries
abbrev pub is_whole : Reading → Bool
is_whole r = (r.left == 0) && (length r.rest == 0)

abbrev pub if_whole : Option Reading → Option Reading
if_whole None = None
if_whole (Some r) = if is_whole r then Some r else None

-- what an answer says, if it is laid out so
abbrev pub read_answer : ℕ → List Told → List ℕ → Option Reading
read_answer given values texts = if_whole (read_all given values (nothing_read texts))
