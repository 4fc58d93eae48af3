-- Places in a document: the path to each, and the item in which it is.
use Rattle.std.specs.Prelude.{◌≡◌, ℕ, ◌+◌, List, [], ◌++◌, codes, decimal, take, Option, Some, None}
use Rattle.serde_json.specs.Data.{Data}
use Rattle.ti_script.specs.Tree.{at, elements}
use Rattle.ti_script.specs.Lives.{count_in_all}
use Rattle.ti_script.specs.declared.located.MemberName.{MemberName}
use Rattle.ti_script.specs.declared.located.MemberName.TheVariants as member
use Rattle.ti_script.specs.declared.located.LocatedFault.{LocatedFault}
use Rattle.ti_script.specs.declared.located.LocatedFault.TheVariants as fault
use Rattle.ti_script.specs.Members.{member_text}
use Rattle.tilint.specs.declared.place.Place.{Place}

abbrev pub in_member : MemberName → (first second third : Option ℕ) → Place
in_member which first second third = record { member = Some which; first = first; second = second; third = third }

abbrev pub document : Place
document = record { member = None; first = None; second = None; third = None }

-- one step of a path
abbrev pub step_text : Option ℕ → List ℕ
step_text None = []
step_text (Some n) = codes "[" ++ (decimal n ++ codes "]")

abbrev pub front_text : Option MemberName → List ℕ
front_text None = codes "document"
front_text (Some which) = member_text which

-- the path to a place
abbrev pub place_text : Place → List ℕ
place_text p = ((front_text p.member ++ step_text p.first) ++ step_text p.second) ++ step_text p.third

-- ---- items

-- the item of a fault: 0 is the head
abbrev pub item_in : LocatedFault → ℕ
item_in (fault.Shape item part) = item
item_in (fault.Name item part) = item
item_in _ = 0

-- the item that has this number, counted from 0, in an array of items
abbrev pub listed_item : Option ℕ → ℕ
listed_item None = 0
listed_item (Some n) = n + 1

-- the item of this number in the list of this number, where so many items come before all lists
abbrev pub item_of_lists : (before : ℕ) → (lists : List Data) → (list number : Option ℕ) → ℕ
item_of_lists before lists (Some list) (Some number) = before + count_in_all (take list lists) + number + 1
item_of_lists before lists _ _ = 0

abbrev pub item_of_member : Data → Option MemberName → (first second : Option ℕ) → ℕ
item_of_member d (Some member.Events) first second = listed_item first
item_of_member d (Some member.Entries) first second = listed_item first
item_of_member d (Some member.Walks) first second = item_of_lists 0 (elements (at (codes "walks") d)) first second
item_of_member d (Some member.Calls) first second = item_of_lists (count_in_all (elements (at (codes "walks") d))) (elements (at (codes "calls") d)) first second
item_of_member d _ first second = 0

-- the item of a document in which a place is; 0 is the head
abbrev pub item_at : Data → Place → ℕ
item_at d p = item_of_member d p.member p.first p.second

-- the place is in the head of every document
abbrev pub IsInHead : Place → Type 0
IsInHead p = (d : Data) → item_at d p ≡ 0

-- an element of a member of the head; of the members that have items it is the whole member
abbrev pub head_place : MemberName → ℕ → Place
head_place member.Events n = in_member member.Events None None None
head_place member.Entries n = in_member member.Entries None None None
head_place which n = in_member which (Some n) None None
