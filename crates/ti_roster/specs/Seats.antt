-- What contracts see of a seat and of a hold.
use Rattle.atomic_table.specs.Seated.{TableId}
use Rattle.ti_roster.specs.declared.view.RosterView.{RosterView}
use Rattle.ti_roster.specs.Log.{Log}

-- a seat: its cell, and its view
pub record Sitting : Type 0 where
  pub cell : TableId
  pub view : RosterView

-- a hold: its cell, its seat's view, and the roster
pub record Holding : Type 0 where
  pub cell : TableId
  pub view : RosterView
  pub roster : Log

-- the hold with another roster
abbrev pub with_roster : Holding → Log → Holding
with_roster h r = record { cell = h.cell; view = h.view; roster = r }
