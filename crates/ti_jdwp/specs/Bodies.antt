-- The bodies of replies.
use Rattle.std.specs.Prelude.{ℕ, ℤ, Bool, List, [], ◌∷◌, ◌++◌, length, if◌then◌else◌}
use Rattle.std.specs.List.{flat_map}
use Rattle.std.specs.Int.{w32, cast_unsigned}
use Rattle.ti_jdwp.specs.declared.lists.ClassRow.{ClassRow}
use Rattle.ti_jdwp.specs.declared.lists.MethodRow.{MethodRow}
use Rattle.ti_jdwp.specs.declared.lists.LineRow.{LineRow}
use Rattle.ti_jdwp.specs.declared.lists.FrameRow.{FrameRow}
use Rattle.ti_jdwp.specs.Fields.{int, long, text}
use Rattle.ti_jdwp.specs.Ids.{id_from, first_thread, first_class, first_method, frame_id}

-- a number that may be negative
abbrev pub signed : ℤ → List ℕ
signed z = int (cast_unsigned w32 z)

abbrev pub flag : Bool → ℕ
flag b = if b then 1 else 0

-- how many, and each
abbrev pub list : {X : Type 0} → (X → List ℕ) → List X → List ℕ
list item xs = int (length xs) ++ flat_map item xs

abbrev pub thread_list : List ℕ → List ℕ
thread_list threads = list (λ t. long (id_from first_thread t)) threads

-- a tag for a class, its id, its signature, no generic one, and a status
abbrev pub class_row : ClassRow → List ℕ
class_row r = 1 ∷ long (id_from first_class r.class) ++ text r.signature.now ++ text [] ++ int 7

abbrev pub class_list : List ClassRow → List ℕ
class_list rs = list class_row rs

abbrev pub found_class : ℕ → List ℕ
found_class class = 1 ∷ long (id_from first_class class) ++ int 7

abbrev pub found_list : List ℕ → List ℕ
found_list classes = list found_class classes

-- public and static, and maybe native
abbrev pub method_flags : Bool → ℕ
method_flags native = if native then 265 else 9

-- its id, its name, its signature, no generic one, and modifiers
abbrev pub method_row : MethodRow → List ℕ
method_row r = long (id_from first_method r.method) ++ text r.name.now ++ text r.signature.now ++ text [] ++ int (method_flags r.native)

abbrev pub method_list : List MethodRow → List ℕ
method_list rs = list method_row rs

-- a location, and its line
abbrev pub line_row : LineRow → List ℕ
line_row r = long r.index ++ int r.line

abbrev pub line_list : List LineRow → List ℕ
line_list rs = list line_row rs

-- a line whose location is its number
abbrev pub identity_line : ℕ → List ℕ
identity_line n = long n ++ int n

abbrev pub identity_list : List ℕ → List ℕ
identity_list lines = list identity_line lines

-- its id, and its location: a tag for a class, the class, the method, and the index
abbrev pub frame_row : ℕ → FrameRow → List ℕ
frame_row thread r = long (frame_id thread r.depth) ++ 1 ∷ long (id_from first_class r.class) ++ long (id_from first_method r.method) ++ long r.index

abbrev pub frame_list : ℕ → List FrameRow → List ℕ
frame_list thread rs = list (frame_row thread) rs
