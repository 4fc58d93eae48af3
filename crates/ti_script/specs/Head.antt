-- The head of a walk: its tests in their order, and what they read.
use Rattle.std.specs.Prelude.{ℕ, List, [], ◌∷◌, ◌++◌, length, map, codes, Bool, true, not, ◌&&◌, ◌||◌, ◌==◌, Option, is_some, unwrap_or, option_and_then, nat_le}
use Rattle.std.specs.List.{list_all, list_any}
use Rattle.std.specs.Char.{is_ascii_alphanumeric}
use Rattle.serde_json.specs.Data.{Data}
use Rattle.serde_json.specs.Find.{get, as_str}
use Rattle.ti_script.specs.declared.fault.LimitName.{LimitName}
use Rattle.ti_script.specs.declared.fault.LimitName.TheVariants.{Depth, Own, Calls, Threads, Agents, Methods, Events}
use Rattle.ti_script.specs.declared.located.LocatedFault.{LocatedFault}
use Rattle.ti_script.specs.declared.located.LocatedFault.TheVariants.{Shape, Limit}
use Rattle.ti_script.specs.declared.located.MemberName.{MemberName}
use Rattle.ti_script.specs.declared.located.MemberName.TheVariants as member
use Rattle.ti_script.specs.declared.located.Part.TheVariants.{Whole, Member}
use Rattle.ti_script.specs.Names.{is_among}
use Rattle.ti_script.specs.Tree.{array_in, elements, at, has_exactly, wrong_member, whole_in}
use Rattle.ti_script.specs.Faults.{unless, first_of, member_shape, member_name}

-- ---- limits

abbrev pub is_within : ℕ → ℕ → ℕ → Bool
is_within low high n = nat_le low n && nat_le n high

abbrev pub whole_at : List ℕ → Data → Option ℕ
whole_at key d = option_and_then whole_in (get key d)

abbrev pub number_at : List ℕ → Data → ℕ
number_at key d = unwrap_or (whole_at key d) 0

abbrev pub limits_members : List MemberName
limits_members = member.Depth ∷ member.Own ∷ member.CallLimit ∷ []

abbrev pub limits_fault : Data → Option LocatedFault
limits_fault d = first_of
    (unless (has_exactly limits_members d) (Shape 0 (wrong_member (Member member.Limits) limits_members d))
    ∷ unless (is_some (whole_at (codes "depth") d)) (member_shape member.Depth)
    ∷ unless (is_some (whole_at (codes "own") d)) (member_shape member.Own)
    ∷ unless (is_some (whole_at (codes "calls") d)) (member_shape member.CallLimit)
    ∷ unless (is_within 1 4096 (number_at (codes "depth") d)) (Limit Depth)
    ∷ unless (is_within 1 65536 (number_at (codes "own") d)) (Limit Own)
    ∷ unless (is_within 1 1024 (number_at (codes "calls") d)) (Limit Calls)
    ∷ [])

-- depth, own and calls
abbrev pub bounds_of : Data → ℕ × ℕ × ℕ
bounds_of d = (number_at (codes "depth") d, number_at (codes "own") d, number_at (codes "calls") d)

-- ---- names

abbrev pub is_text : Data → Bool
is_text d = is_some (as_str d)

abbrev pub text_in : Data → List ℕ
text_in d = unwrap_or (as_str d) []

abbrev pub texts : Data → List (List ℕ)
texts d = map text_in (elements d)

abbrev pub is_name_byte : ℕ → Bool
is_name_byte b = is_ascii_alphanumeric b || list_any (λ x. x == b) (codes "_.$/<>")

abbrev pub is_name : List ℕ → Bool
is_name text = is_within 1 64 (length text) && list_all is_name_byte text

-- each is a name, and differs from those before it
abbrev pub are_names : List (List ℕ) → List (List ℕ) → Bool
are_names earlier [] = true
are_names earlier (text ∷ more) = is_name text && (not (is_among earlier text) && are_names (earlier ++ text ∷ []) more)

abbrev pub names_fault : MemberName → LimitName → ℕ → ℕ → List (List ℕ) → Data → Option LocatedFault
names_fault which limit low high earlier d = first_of
    (unless (is_some (array_in d) && list_all is_text (elements d)) (member_shape which)
    ∷ unless (is_within low high (length (elements d))) (Limit limit)
    ∷ unless (are_names earlier (texts d)) (member_name which)
    ∷ [])

-- ---- the whole head

abbrev pub walk_members : List MemberName
walk_members = member.Limits ∷ member.Threads ∷ member.Agents ∷ member.Methods ∷ member.Events ∷ []

-- the document is an object with exactly these members
abbrev pub members_fault : List MemberName → Data → Option LocatedFault
members_fault members d = unless (has_exactly members d) (Shape 0 (wrong_member Whole members d))

-- the tests of the three arrays of names
abbrev pub cast_fault : Data → Option LocatedFault
cast_fault d = first_of
    (names_fault member.Threads Threads 1 64 [] (at (codes "threads") d)
    ∷ names_fault member.Agents Agents 1 32 (texts (at (codes "threads") d)) (at (codes "agents") d)
    ∷ names_fault member.Methods Methods 0 65536 [] (at (codes "methods") d)
    ∷ [])

abbrev pub items_fault : MemberName → LimitName → ℕ → Data → Option LocatedFault
items_fault which limit high d = first_of
    (unless (is_some (array_in d)) (member_shape which)
    ∷ unless (is_within 0 high (length (elements d))) (Limit limit)
    ∷ [])

abbrev pub head_fault : Data → Option LocatedFault
head_fault d = first_of
    (members_fault walk_members d
    ∷ limits_fault (at (codes "limits") d)
    ∷ cast_fault d
    ∷ items_fault member.Events Events 65536 (at (codes "events") d)
    ∷ [])
