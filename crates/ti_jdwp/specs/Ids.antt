-- Ids on the wire.
use Rattle.std.specs.Prelude.{◌≡◌, ℕ, ◌+◌, ◌-◌, ◌*◌, ◌^◌, ◌<◌, ◌≤◌, Bool, ◌&&◌, List, [], ◌∷◌, Option, Some, None, nat_le, nat_lt, ◌==◌, if◌then◌else◌}
use Rattle.std.specs.List.{count_by}
use Rattle.ti_jdwp.specs.declared.error.JdwpError.{JdwpError}
use Rattle.ti_jdwp.specs.declared.error.JdwpError.TheVariants as error
use Rattle.ti_jdwp.specs.declared.ids.IdKind.{IdKind}
use Rattle.ti_jdwp.specs.declared.ids.IdKind.TheVariants as kind

-- the error for an id of nothing
abbrev pub unknown_id : IdKind → JdwpError
unknown_id kind.Thread = error.InvalidThread
unknown_id kind.ThreadGroup = error.InvalidThreadGroup
unknown_id kind.Object = error.InvalidObject
unknown_id kind.Class = error.InvalidClass
unknown_id kind.Method = error.InvalidMethodId
unknown_id kind.Frame = error.InvalidFrameId

abbrev pub first_thread : ℕ
first_thread = 1

abbrev pub thread_group : ℕ
thread_group = 2 ^ 33

abbrev pub first_class : ℕ
first_class = 2 * 2 ^ 33

abbrev pub first_method : ℕ
first_method = 3 * 2 ^ 33

abbrev pub thread_class : ℕ
thread_class = 4 * 2 ^ 33

abbrev pub first_text : ℕ
first_text = 5 * 2 ^ 33

abbrev pub first_table : ℕ
first_table = 6 * 2 ^ 33

abbrev pub text_class : ℕ
text_class = 7 * 2 ^ 33

abbrev pub table_class : ℕ
table_class = 8 * 2 ^ 33

abbrev pub group_class : ℕ
group_class = 9 * 2 ^ 33

-- the id of a number, in the range that begins at first
abbrev pub id_from : ℕ → ℕ → ℕ
id_from first n = first + n

-- a range has the ids of all numbers of 32 bits
abbrev pub is_from : ℕ → ℕ → Bool
is_from first id = nat_le first id && nat_lt id (first + 2 ^ 32)

abbrev pub number_from : ℕ → ℕ → Option ℕ
number_from first id = if is_from first id then Some (id - first) else None

-- a frame's id is its thread and its depth
abbrev pub frame_id : ℕ → ℕ → ℕ
frame_id thread depth = thread * 2 ^ 32 + depth

-- a number's id gives the number, and what an id gives has that id
abbrev pub IsUndone : ℕ → Type 0
IsUndone first = (n id : ℕ) → n < 2 ^ 32 → (number_from first (id_from first n) ≡ Some n) × (number_from first id ≡ Some n → id_from first n ≡ id)

-- which kinds an id has: thread, group, class, method, class of threads, text, table, class of texts, class of tables, class of
-- the group
abbrev pub kinds_with : ℕ → List Bool
kinds_with id = is_from first_thread id ∷ (id == thread_group) ∷ is_from first_class id ∷ is_from first_method id ∷ (id == thread_class)
    ∷ is_from first_text id ∷ is_from first_table id ∷ (id == text_class) ∷ (id == table_class) ∷ (id == group_class) ∷ []

abbrev pub AtMostOne : List Bool → Type 0
AtMostOne tests = count_by (λ b. b) tests ≤ 1
