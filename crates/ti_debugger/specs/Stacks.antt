-- Which part of a stack a debugger asks for, and where its frames are.
use Rattle.std.specs.Prelude.{ℕ, ℤ, pos, ◌≡◌, ◌≢◌, ◌⊎◌, ◌-ℤ◌, ◌≤ℤ◌, ◌<ℤ◌, ◌^◌, ◌-◌, Option, Some, None, Result, Ok, Err}
use Rattle.ti_jdwp.specs.declared.error.JdwpError.{JdwpError}
use Rattle.ti_jdwp.specs.declared.error.JdwpError.TheVariants as error
use Rattle.ti_types.specs.declared.place.Place.{Place}
use Rattle.ti_types.specs.declared.place.Place.TheVariants as place
use Rattle.ti_debugger.specs.declared.stacks.Part.{Part}

-- What is given where so many frames are asked for from a start on: these very frames, which the stack has, or why not.
abbrev pub IsPart : ℤ → ℤ → ℤ → Result (Option Part) JdwpError → Type 0
IsPart count start wanted (Ok None) = wanted ≡ pos 0
IsPart count start wanted (Ok (Some p)) =
    (p.start ≡ start) × (p.count ≡ wanted) × (pos 0 ≤ℤ start) × (pos 0 <ℤ wanted) × (wanted ≤ℤ (count -ℤ start))
IsPart count start wanted (Err error.InvalidIndex) = (wanted ≢ pos 0) × ((start <ℤ pos 0) ⊎ (count ≤ℤ start))
IsPart count start wanted (Err error.InvalidLength) = (pos 0 ≤ℤ start) × (start <ℤ count) × ((wanted <ℤ pos 0) ⊎ ((count -ℤ start) <ℤ wanted))
IsPart count start wanted (Err _) = ⊥

-- a native method has the location -1
abbrev pub index_of : Place → ℕ
index_of (place.Java location) = location
index_of place.Native = 2 ^ 64 - 1
