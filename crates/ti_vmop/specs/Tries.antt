-- A global operation that goes on from thread to thread, and never waits.
use Rattle.std.specs.Prelude.{ℕ, ◌≡◌, ◌⊎◌, Bool, true, false, List, [], length, take, Some, slice_get}
use Rattle.ti_types.specs.declared.entry.Entry.{Entry}
use Rattle.ti_types.specs.declared.error.TiError.{TiError}
use Rattle.ti_types.specs.declared.error.TiError.TheVariants.{Busy}
use Rattle.ti_types.specs.declared.numbers.EnvNo.{EnvNo}
use Rattle.ti_handshake.specs.Desk.{DeskState}
use Rattle.ti_vmop.specs.Turns.{Listed, is_listed, HasAdded}

-- a desk whose cell is in use: nothing changed
abbrev pub IsBusy : DeskState → DeskState → TiError → Type 0
IsBusy old new e = (e ≡ Busy) × (new ≡ old)

-- a desk that was looked at, or was not
abbrev pub HasLooked : DeskState → DeskState → Type 0
HasLooked old new = (new ≡ old) ⊎ HasAdded old new []

-- a desk that the operation has done, one that it has yet to do, or one that it has nothing to do with
abbrev pub AtDeskOf : (done listed : Bool) → DeskState → DeskState → List Entry → Type 0
AtDeskOf true listed old new more = HasAdded old new more
AtDeskOf false true old new more = HasLooked old new
AtDeskOf false false old new more = new ≡ old

-- The first n listed desks have added these. The other listed ones may have been looked at, and no other changed
abbrev pub AtFirst : ℕ → Listed → List DeskState → List DeskState → (EnvNo → List Entry) → Type 0
AtFirst n threads old new more =
    (length new ≡ length old)
    × ((i : ℕ) (p q : DeskState) → slice_get old i ≡ Some p → slice_get new i ≡ Some q → AtDeskOf (is_listed i (take n threads)) (is_listed i threads) p q (more p.env))
