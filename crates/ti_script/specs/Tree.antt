-- Looking into a JSON tree.
use Rattle.std.specs.Prelude.{ℕ, ◌+◌, ◌==◌, ◌&&◌, List, [], ◌∷◌, length, Bool, false, Option, is_some, unwrap_or, option_and_then, if◌then◌else◌}
use Rattle.std.specs.Option.{option_map, option_map_or}
use Rattle.std.specs.List.{list_all}
use Rattle.serde_json.specs.Data.{Data, null, Items, no_items, item, Members, no_members, member}
use Rattle.serde_json.specs.Find.{get, as_number, as_u64, as_array, as_object}
use Rattle.ti_script.specs.declared.located.MemberName.{MemberName}
use Rattle.ti_script.specs.declared.located.Part.{Part}
use Rattle.ti_script.specs.declared.located.Part.TheVariants.{Member}
use Rattle.ti_script.specs.Members.{key_of}

abbrev pub listed : Items → List Data
listed no_items = []
listed (item d ds) = d ∷ listed ds

-- the elements of an array
abbrev pub array_in : Data → Option (List Data)
array_in d = option_map listed (as_array d)

abbrev pub elements : Data → List Data
elements d = unwrap_or (array_in d) []

-- the member of this name, or null if there is none
abbrev pub at : List ℕ → Data → Data
at key d = unwrap_or (get key d) null

abbrev pub member_count : Members → ℕ
member_count no_members = 0
member_count (member k d ms) = 1 + member_count ms

abbrev pub has_member : Data → MemberName → Bool
has_member d m = is_some (get (key_of m) d)

-- an object with exactly these members
abbrev pub has_exactly : List MemberName → Data → Bool
has_exactly members d = option_map_or (λ ms. member_count ms == length members) (as_object d) false && list_all (has_member d) members

-- the first of these members that is missing; this part if none is
abbrev pub first_missing : Part → List MemberName → Data → Part
first_missing whole [] d = whole
first_missing whole (m ∷ ms) d = if has_member d m then first_missing whole ms d else Member m

-- The part at fault if a value has not exactly these members: the first one that is missing. It is the whole value if none
-- is missing, or if the value is no object.
abbrev pub wrong_member : Part → List MemberName → Data → Part
wrong_member whole members d = if is_some (as_object d) then first_missing whole members d else whole

-- a whole number of 0 or more
abbrev pub whole_in : Data → Option ℕ
whole_in d = option_and_then as_u64 (as_number d)
