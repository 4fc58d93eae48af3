-- Items and their elements, by their numbers: items are counted from 1, elements from 0.
use Rattle.std.specs.Prelude.{ℕ, ◌+◌}
use Rattle.ti_script.specs.declared.located.Part.TheVariants.{Whole, Element}
use Rattle.ti_script.specs.declared.located.LocatedFault.{LocatedFault}
use Rattle.ti_script.specs.declared.located.LocatedFault.TheVariants.{Shape, Name}
use Rattle.ti_script.specs.declared.item.Lead.{Lead}
use Rattle.ti_script.specs.declared.item.Lead.TheVariants.{Subject, Word}
use Rattle.ti_script.specs.declared.item.Item.{Item}
use Rattle.ti_script.specs.declared.item.Spot.{Spot}

-- an event of a walk begins with its subject
abbrev pub walk_item : ℕ → Item
walk_item n = record { number = n; lead = Subject }

-- an operation, a call and an entry begin with their word
abbrev pub listed_item : ℕ → Item
listed_item n = record { number = n; lead = Word }

abbrev pub subject_of : Item → Spot
subject_of item = record { item = item.number; element = 0 }

abbrev pub word_place : Lead → ℕ
word_place Subject = 1
word_place Word = 0

-- the element this many places after the word of an item
abbrev pub behind_word : Item → ℕ → Spot
behind_word item places = record { item = item.number; element = word_place item.lead + places }

-- the item as a whole is at fault
abbrev pub shape_of : Item → LocatedFault
shape_of item = Shape item.number Whole

-- this element is at fault
abbrev pub shape_at : Spot → LocatedFault
shape_at spot = Shape spot.item (Element spot.element)

abbrev pub name_at : Spot → LocatedFault
name_at spot = Name spot.item (Element spot.element)
