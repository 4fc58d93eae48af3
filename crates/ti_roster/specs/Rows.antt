-- The threads that are there, and the desks that no environment has taken.
use Rattle.std.specs.Prelude.{ℕ, suc, ◌≡◌, ◌<◌, ◌≤◌, List, [], ◌∷◌, length, map, Option, Some, None, slice_get, slice_set}
use Rattle.atomic_table.specs.Seated.{TableId}
use Rattle.ti_types.specs.declared.limits.Limits.{Limits}
use Rattle.ti_types.specs.declared.numbers.EnvNo.{EnvNo}
use Rattle.ti_types.specs.declared.numbers.ThreadNo.{ThreadNo}
use Rattle.ti_handshake.specs.Desk.{DeskState}
use Rattle.ti_cell.specs.View.{newcomer, subject_of}
use Rattle.ti_agent.specs.FreeDesk.{FreeState, IsClean}
use Rattle.ti_roster.specs.declared.coming.Coming.{Coming}
use Rattle.ti_roster.specs.declared.newcomer.Newcomer.{Newcomer}
use Rattle.ti_roster.specs.declared.row.Row.{Row}
use Rattle.ti_roster.specs.declared.stage.Stage.{Stage}
use Rattle.ti_roster.specs.declared.stage.Stage.TheVariants.{New}
use Rattle.ti_roster.specs.Stages.{stage_of}
use Rattle.ti_roster.specs.Log.{Lies, Unused, Out, Returned, came, lies, live, mark_of, threads_in}

-- a desk that has seen nothing of its thread
abbrev pub IsUnused : DeskState → Type 0
IsUnused d = d.view.seen ≡ []

-- a desk that no environment has, and at which nothing is spent
abbrev pub free_at : DeskState → FreeState
free_at d = record { desk = d; spent = 0 }

-- the desk of an environment at a thread, as it was when the thread was attached
abbrev pub new_desk : Limits → EnvNo → Newcomer → FreeState
new_desk limits e n = record { desk = record { cell = n.cell; env = e; view = newcomer (subject_of limits n.thread) (suc e.0) 0; cancelled = []; former = 0 }; spent = 0 }

-- A desk that an environment gave back at a thread. It is the environment's, at the thread's own cell, and nothing is left
-- there of what the environment did
pub record IsReturned (limits : Limits) (e : EnvNo) (n : Newcomer) (f : FreeState) : Type 0 where
  pub cell : f.desk.cell ≡ n.cell
  pub env : f.desk.env ≡ e
  pub subject : f.desk.view.subject ≡ subject_of limits n.thread
  pub clean : IsClean f

-- what is in the row of a thread for an environment's place
abbrev pub LiesAs : Lies → Limits → EnvNo → Newcomer → Option FreeState → Type 0
LiesAs Unused limits e n d = d ≡ Some (new_desk limits e n)
LiesAs Out limits e n d = d ≡ None
LiesAs Returned limits e n None = ⊥
LiesAs Returned limits e n (Some f) = IsReturned limits e n f

abbrev pub and_one : Option FreeState → List FreeState → List FreeState
and_one (Some f) l = f ∷ l
and_one None l = l

-- these are the desks for an environment's place that are in the rows of these threads, in the order of the threads
abbrev pub AreLeft : List Coming → Limits → EnvNo → List Newcomer → List FreeState → Type 0
AreLeft log limits e [] desks = desks ≡ []
AreLeft log limits e (n ∷ l) desks =
    (first : Option FreeState) × (rest : List FreeState) × (desks ≡ and_one first rest) × LiesAs (lies e n.thread log) limits e n first × AreLeft log limits e l rest

-- the cell of the thread that came under this number
abbrev pub IsAt : ThreadNo → TableId → List Coming → Type 0
IsAt t cell log = (n : Newcomer) × (slice_get (came log) t.0 ≡ Some n) × (n.cell ≡ cell)

abbrev pub newcomers : List Row → List Newcomer
newcomers rows = map (λ r. r.newcomer) rows

-- numbers from m on, each above those before it, and all below u
abbrev pub Rising : ℕ → List Newcomer → ℕ → Type 0
Rising m [] u = m ≤ u
Rising m (n ∷ l) u = (m ≤ n.thread.0) × Rising (suc n.thread.0) l u

-- the index of a thread among these
pub record IsIndex (l : List Newcomer) (t : ThreadNo) (i : ℕ) : Type 0 where
  pub one : Newcomer
  pub at : slice_get l i ≡ Some one
  pub is : one.thread.0 ≡ t.0

pub record IsRow (log : List Coming) (limits : Limits) (r : Row) : Type 0 where
  pub stage : r.stage ≡ stage_of r.newcomer.thread log
  pub places : length r.desks.items ≡ limits.envs
  pub each : (p : ℕ) → p < limits.envs → (d : Option FreeState) × (slice_get r.desks.items p ≡ Some d) × LiesAs (lies (record { 0 = p }) r.newcomer.thread log) limits (record { 0 = p }) r.newcomer d

-- the row of a thread that has just come: no environment has taken its desk
pub record IsNewRow (limits : Limits) (r : Row) : Type 0 where
  pub stage : r.stage ≡ New
  pub places : length r.desks.items ≡ limits.envs
  pub each : (p : ℕ) → p < limits.envs → slice_get r.desks.items p ≡ Some (Some (new_desk limits (record { 0 = p }) r.newcomer))

-- the row of a thread that has come further
abbrev pub reached : Row → Stage → Row
reached r s = record { newcomer = r.newcomer; stage = s; desks = r.desks }

-- the row after an environment's desk was put into it
pub record IsPut (e : EnvNo) (f : FreeState) (old new : Row) : Type 0 where
  pub newcomer : new.newcomer ≡ old.newcomer
  pub stage : new.stage ≡ old.stage
  pub desks : new.desks.items ≡ slice_set old.desks.items e.0 (Some f)

-- the row after an environment's desk was taken out of it, if it was there
pub record IsTaken (e : EnvNo) (old new : Row) : Type 0 where
  pub newcomer : new.newcomer ≡ old.newcomer
  pub stage : new.stage ≡ old.stage
  pub desks : new.desks.items ≡ slice_set old.desks.items e.0 None

-- the desks of an environment that are in these rows
abbrev pub and_desk : Option (Option FreeState) → List FreeState → List FreeState
and_desk (Some (Some d)) l = d ∷ l
and_desk (Some None) l = l
and_desk None l = l

abbrev pub desks_in : EnvNo → List Row → List FreeState
desks_in e [] = []
desks_in e (r ∷ rows) = and_desk (slice_get r.desks.items e.0) (desks_in e rows)

-- the rows are those of the live threads, and what is noted of each place is what the list says
pub record AreRows (log : List Coming) (limits : Limits) (rows : List Row) (marks : List (Option ℕ)) : Type 0 where
  pub live_are : newcomers rows ≡ live log
  pub each : (i : ℕ) (r : Row) → slice_get rows i ≡ Some r → IsRow log limits r
  pub places : length marks ≡ limits.envs
  pub marks_are : (p : ℕ) → p < limits.envs → slice_get marks p ≡ Some (mark_of (record { 0 = p }) log)
  pub fresh : (e : EnvNo) (t : ThreadNo) → threads_in log ≤ t.0 → lies e t log ≡ Unused
  pub unborn : (t : ThreadNo) → threads_in log ≤ t.0 → stage_of t log ≡ New
  pub passed : (e : EnvNo) (m : ℕ) (t : ThreadNo) → mark_of e log ≡ Some m → t.0 < m → lies e t log ≡ Out
  pub listed : (i : ℕ) (n : Newcomer) → slice_get (live log) i ≡ Some n → slice_get (came log) n.thread.0 ≡ Some n
  pub rising : Rising 0 (live log) (threads_in log)
