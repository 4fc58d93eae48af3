-- Seats that the tests of cells use.
use Rattle.std.specs.Prelude.{ℕ, zero, suc, ◌≡◌, ◌+◌, ◌<◌, ◌≤◌, List, [], ◌∷◌, ◌++◌}
use Rattle.atomic_table.specs.Seated.{TableId}
use Rattle.ti_types.specs.declared.numbers.EnvNo.{EnvNo}
use Rattle.ti_types.specs.declared.call.Call.TheVariants.{SetWord}
use Rattle.ti_types.specs.declared.entry.Entry.{Entry}
use Rattle.ti_types.specs.declared.entry.Entry.TheVariants.{Asked}
use Rattle.ti_replay.specs.Legal.{calls_spent}
use Rattle.ti_cell.specs.Seats.{Sitting}

-- the seat of an environment at a cell, which may make this many more calls
pub record IsReady (cell : TableId) (env : EnvNo) (calls : ℕ) (s : Sitting) : Type 0 where
  pub here : s.cell ≡ cell
  pub number : s.view.number ≡ env.0 + 1
  pub there : env.0 < s.view.subject.limits.envs
  pub left : calls_spent env s.view.mine + calls ≤ s.view.subject.limits.calls

-- the seat of an environment at a cell, by which these entries were made
pub record HasSet (cell : TableId) (env : EnvNo) (entries : List Entry) (s : Sitting) : Type 0 where
  pub here : s.cell ≡ cell
  pub number : s.view.number ≡ env.0 + 1
  pub mine : s.view.mine ≡ entries

-- the owner's seat at a cell with this many seats, none of which came back
pub record IsOwner (cell : TableId) (seats : ℕ) (s : Sitting) : Type 0 where
  pub here : s.cell ≡ cell
  pub number : s.view.number ≡ 0
  pub made : s.view.made ≡ seats
  pub back : s.view.back ≡ []

-- n calls of an environment, which set its word to `first` and the next numbers
abbrev pub sets : EnvNo → (first n : ℕ) → List Entry
sets env first zero = []
sets env first (suc n) = sets env first n ++ Asked env n (SetWord (first + n)) ∷ []
