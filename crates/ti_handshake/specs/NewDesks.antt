-- The desks at a thread that was just made.
use Rattle.std.specs.Prelude.{ℕ, zero, suc, ◌≡◌, ◌-◌, List, [], ◌∷◌, ◌++◌}
use Rattle.atomic_table.specs.Seated.{TableId}
use Rattle.ti_cell.specs.declared.view.Subject.{Subject}
use Rattle.ti_cell.specs.Seats.{Sitting}
use Rattle.ti_cell.specs.View.{newcomer}
use Rattle.ti_types.specs.declared.numbers.EnvNo.{EnvNo}
use Rattle.ti_handshake.specs.Desk.{DeskState}

-- a seat at this cell
abbrev pub IsSeatAt : TableId → Sitting → Type 0
IsSeatAt cell s = s.cell ≡ cell

-- the desk that has a seat
abbrev pub desk_at : Sitting → DeskState
desk_at s = record { cell = s.cell; env = record { 0 = s.view.number - 1 }; view = s.view; cancelled = []; former = 0 }

-- the desk of an environment that has done nothing yet
abbrev pub new_desk : TableId → Subject → EnvNo → DeskState
new_desk cell subject env = record { cell = cell; env = env; view = newcomer subject (suc env.0) 0; cancelled = []; former = 0 }

-- the desks of n environments, in the order of their numbers
abbrev pub new_desks : TableId → Subject → ℕ → List DeskState
new_desks cell subject zero = []
new_desks cell subject (suc n) = new_desks cell subject n ++ new_desk cell subject (record { 0 = n }) ∷ []
