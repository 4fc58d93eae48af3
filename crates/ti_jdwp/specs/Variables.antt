-- The bodies of replies about variables.
use Rattle.std.specs.Prelude.{ℕ, List, [], ◌∷◌, ◌++◌}
use Rattle.std.specs.Int.{w64, cast_unsigned}
use Rattle.ti_jdwp.specs.declared.variables.VariableRow.{VariableRow}
use Rattle.ti_jdwp.specs.declared.variables.Value.{Value}
use Rattle.ti_jdwp.specs.declared.variables.Value.TheVariants as value
use Rattle.ti_jdwp.specs.Bodies.{flag, list}
use Rattle.ti_jdwp.specs.Fields.{int, long, text}
use Rattle.ti_jdwp.specs.Ids.{id_from, first_text, first_table}

-- "Ljava/lang/Object;"
abbrev pub object_signature : List ℕ
object_signature = 76 ∷ 106 ∷ 97 ∷ 118 ∷ 97 ∷ 47 ∷ 108 ∷ 97 ∷ 110 ∷ 103 ∷ 47 ∷ 79 ∷ 98 ∷ 106 ∷ 101 ∷ 99 ∷ 116 ∷ 59 ∷ []

-- where it begins to be there, its name, its signature, at how many locations it is there, and its slot
abbrev pub variable_row : VariableRow → List ℕ
variable_row r = long r.first ++ text r.name.now ++ text object_signature ++ int r.count ++ int r.slot

-- no arguments, and the variables
abbrev pub variable_list : List VariableRow → List ℕ
variable_list rs = int 0 ++ list variable_row rs

-- the same with no generic signature
abbrev pub generic_variable_row : VariableRow → List ℕ
generic_variable_row r = long r.first ++ text r.name.now ++ text object_signature ++ text [] ++ int r.count ++ int r.slot

abbrev pub generic_variable_list : List VariableRow → List ℕ
generic_variable_list rs = int 0 ++ list generic_variable_row rs

-- JDWP's "Tag" constants: OBJECT, BOOLEAN, LONG, DOUBLE, STRING and ARRAY
abbrev pub value_bytes : Value → List ℕ
value_bytes value.Nil = 76 ∷ long 0
value_bytes (value.Boolean is) = 90 ∷ flag is ∷ []
value_bytes (value.Integer number) = 74 ∷ long (cast_unsigned w64 number)
value_bytes (value.Number bits) = 68 ∷ long bits
value_bytes (value.Text n) = 115 ∷ long (id_from first_text n)
value_bytes (value.Table n) = 91 ∷ long (id_from first_table n)

abbrev pub value_list : List Value → List ℕ
value_list vs = list value_bytes vs

-- the tag of all, and each
abbrev pub entry_list : List ℕ → List ℕ
entry_list texts = 115 ∷ list (λ n. 115 ∷ long (id_from first_text n)) texts
