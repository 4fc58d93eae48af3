-- What contracts see of a seat and of a hold.
use Rattle.std.specs.Prelude.{ℕ, zero, suc, List, [], ◌∷◌, ◌++◌}
use Rattle.atomic_table.specs.Seated.{TableId}
use Rattle.ti_slot.specs.Thread.{Thread}
use Rattle.ti_cell.specs.View.{newcomer}
use Rattle.ti_cell.specs.declared.view.Subject.{Subject}
use Rattle.ti_cell.specs.declared.view.View.{View}

-- a seat: its cell, and its view
pub record Sitting : Type 0 where
  pub cell : TableId
  pub view : View

-- a hold: its cell, its seat's view, and the slot
pub record Holding : Type 0 where
  pub cell : TableId
  pub view : View
  pub slot : Thread

-- the hold with another slot
abbrev pub with_slot : Holding → Thread → Holding
with_slot h t = record { cell = h.cell; view = h.view; slot = t }

-- the seats of n environments, in the order of their numbers
abbrev pub env_seats : TableId → Subject → ℕ → List Sitting
env_seats cell subject zero = []
env_seats cell subject (suc n) = env_seats cell subject n ++ record { cell = cell; view = newcomer subject (suc n) 0 } ∷ []
