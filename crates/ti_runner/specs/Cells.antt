-- The cells of a run, and the seats at them.
use Rattle.std.specs.Prelude.{ℕ, ◌≡◌, List, length, map, Some, slice_get}
use Rattle.std.specs.List.{All}
use Rattle.atomic_table.specs.Seated.{TableId}
use Rattle.ti_types.specs.declared.limits.Limits.{Limits}
use Rattle.ti_cell.specs.View.{subject_of}
use Rattle.ti_cell.specs.Seats.{Sitting}
use Rattle.ti_handshake.specs.Desk.{DeskState}
use Rattle.ti_handshake.specs.NewDesks.{new_desks}
use Rattle.ti_runner.specs.declared.thread_walk.Walked.{Walked}

-- the owner's seat of a cell
pub record IsBack (cell : TableId) (s : Sitting) : Type 0 where
  pub here : s.cell ≡ cell
  pub owner : s.view.number ≡ 0

-- the cells of seats, and of threads that have not started
abbrev pub seats_at : List Sitting → List TableId
seats_at seats = map (λ s. s.cell) seats

-- the cells of the seats that walks give back
abbrev pub walked_at : List Walked → List TableId
walked_at walked = map (λ w. w.seat.cell) walked

-- each walk gave back the owner's seat of its cell
pub record AreBack (cells : List TableId) (walked : List Walked) : Type 0 where
  pub here : walked_at walked ≡ cells
  pub owners : All (λ w. w.seat.view.number ≡ 0) walked

-- the unused desks of the first environments, this many, at each cell; cell k is that of thread k
pub record AreDesks (limits : Limits) (envs : ℕ) (cells : List TableId) (desks : List (List DeskState)) : Type 0 where
  pub count : length desks ≡ length cells
  pub each : (k : ℕ) (l : List DeskState) (cell : TableId) → slice_get desks k ≡ Some l → slice_get cells k ≡ Some cell → l ≡ new_desks cell (subject_of limits (record { 0 = k })) envs
