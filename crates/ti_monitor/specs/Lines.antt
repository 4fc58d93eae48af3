-- The lines of methods.
use Rattle.std.specs.Prelude.{ℕ, ◌≡◌, List, [], ◌∷◌, nat_le, if◌then◌else◌}
use Rattle.std.specs.List.Sorted.{IsPermutation}
use Rattle.ti_methods.specs.declared.info.LineEntry.{LineEntry}
use Rattle.ti_methods.specs.declared.info.Lines.{Lines}
use Rattle.ti_methods.specs.declared.info.Lines.TheVariants.{Absent, Locations, Table}
use Rattle.ti_types.specs.declared.place.Place.{Place}
use Rattle.ti_types.specs.declared.place.Place.TheVariants.{Java, Native}

abbrev pub start_of : LineEntry → ℕ
start_of e = e.start_location

-- the entries of a table
abbrev pub entries_in : Lines → List LineEntry
entries_in Absent = []
entries_in Locations = []
entries_in (Table entries) = entries.items

-- the line of a location, behind entries that have this line for it
abbrev pub line_after : ℕ → List LineEntry → ℕ → ℕ
line_after line [] location = line
line_after line (e ∷ entries) location = line_after (if nat_le e.start_location location then e.line else line) entries location

-- the line of the last entry that does not begin behind the location, or 0
abbrev pub line_in : List LineEntry → ℕ → ℕ
line_in entries location = line_after 0 entries location

abbrev pub line_of : Lines → ℕ → ℕ
line_of Absent location = 0
line_of Locations location = location
line_of (Table entries) location = line_in entries.items location

-- the line of a place; a native one has none
abbrev pub line_at : Lines → Place → ℕ
line_at lines Native = 0
line_at lines (Java location) = line_of lines location

-- the same lines, but that the entries of a table may be in another order
abbrev pub AreSame : Lines → Lines → Type 0
AreSame Absent new = new ≡ Absent
AreSame Locations new = new ≡ Locations
AreSame (Table entries) new = IsPermutation entries.items (entries_in new)
