-- The rule of the cell, and what each step tells.
use Rattle.std.specs.Prelude.{ℕ, ◌≡◌, ◌≢◌, ◌≤◌, ◌/◌, ◌++◌, Bool, true, false, is_some, List, [], ◌∷◌, length, Option, Some, None}
use mathlib.Core.Option.{some, none}
use mathlib.Core.Option as maybe
use lib.ListN.{get_elem?}
use Rattle.atomic_table.specs.Table.{State, Me, Step}
use Rattle.ti_types.specs.declared.limits.Limits.{Limits}
use Rattle.ti_types.specs.declared.numbers.EnvNo.{EnvNo}
use Rattle.ti_roster.specs.declared.coming.Coming.{Coming}
use Rattle.ti_roster.specs.declared.view.RosterView.{RosterView}
use Rattle.ti_roster.specs.Log.{Log, mark_of, noted}
use Rattle.ti_roster.specs.View.{AreWithin, glanced, holding, stored}
use Rattle.ti_roster.specs.Word.{word_of}

-- the list begins with these
abbrev pub Begins : List Coming → List Coming → Type 0
Begins log seen = (more : List Coming) × (log ≡ seen ++ more)

-- at most the holder holds, while the lock bit is set, and it has seen the list
abbrev pub Holds : List Coming → Bool → ℕ → ℕ → RosterView → Type 0
Holds log locked holder j v = v.holds ≡ true → (locked ≡ true) × (j ≡ holder) × (v.seen ≡ log)

-- a seat that is an environment's has seen all that happened to its place
abbrev pub Claims : List Coming → Option EnvNo → List Coming → Type 0
Claims log None seen = Unit {0}
Claims log (Some e) seen = (noted e log ≡ noted e seen) × (is_some (mark_of e log) ≡ true)

-- no two seats are one environment's
abbrev pub OneEach : List RosterView → Type 0
OneEach views = (j k : ℕ) (v w : RosterView) (e : EnvNo) → get_elem? views j ≡ some v → get_elem? views k ≡ some w → v.place ≡ Some e → w.place ≡ Some e → j ≡ k

-- The roster is at its place if the lock bit is clear. If it is set, the place is the holder's
abbrev pub Placed : Limits → List Coming → Bool → List (maybe.Option (Option Log)) → Type 0
Placed limits log false homes = (r : Log) × (homes ≡ some (Some r) ∷ []) × (r.items ≡ log) × (r.limits ≡ limits)
Placed limits log true homes = homes ≡ none ∷ []

-- There is one list of what happened, whose length the word has. It begins with what each seat has seen, and is as long as
-- each look showed
pub record RosterInvariant (limits : Limits) (s : State (Option Log) RosterView) : Type 0 where
  pub log : List Coming
  pub locked : Bool
  pub holder : ℕ
  pub word : s.words ≡ word_of locked log ∷ []
  pub placed : Placed limits log locked s.homes
  pub about : (j : ℕ) (v : RosterView) → get_elem? s.views j ≡ some v → v.limits ≡ limits
  pub begins : (j : ℕ) (v : RosterView) → get_elem? s.views j ≡ some v → Begins log v.seen
  pub holds : (j : ℕ) (v : RosterView) → get_elem? s.views j ≡ some v → Holds log locked holder j v
  pub looked : (j : ℕ) (v : RosterView) → get_elem? s.views j ≡ some v → AreWithin (length log) v.looked
  pub claims : (j : ℕ) (v : RosterView) → get_elem? s.views j ≡ some v → Claims log v.place v.seen
  pub one_each : OneEach s.views

-- What whoever holds may do. A seat becomes an environment's only if the environment's place was free. Nothing happens to
-- other environments' places
pub record Moves (old new : Option EnvNo) (before after : List Coming) : Type 0 where
  pub others : (e : EnvNo) → old ≢ Some e → new ≢ Some e → noted e after ≡ noted e before
  pub there : (e : EnvNo) → new ≡ Some e → is_some (mark_of e after) ≡ true
  pub free : (e : EnvNo) → new ≡ Some e → old ≢ Some e → mark_of e before ≡ None

-- the roster as whoever holds finds it
abbrev pub IsFound : Log → RosterView → Type 0
IsFound r v = Begins r.items v.seen × Claims r.items v.place v.seen × (r.limits ≡ v.limits) × AreWithin (length r.items) v.looked

-- the roster as whoever holds may put it back
abbrev pub MayStore : Log → RosterView → Type 0
MayStore r v = Begins r.items v.seen × Moves v.place r.user v.seen r.items × (r.limits ≡ v.limits)

abbrev Mine : Type 0
Mine = Me (Option Log) RosterView

-- the lock bit was set by this step, and the roster is out; or nothing changed
abbrev pub locks : Step (Option Log) → Mine → ℕ → Mine → Type 0
locks st m found m' = (found ≡ st.first → (r : Log) × (m' ≡ (holding m.0 r.items, (0, Some r) ∷ m.1)) × IsFound r m.0) × (found ≢ st.first → m' ≡ m)

-- the roster is back, and its list was seen
abbrev pub frees : Step (Option Log) → Mine → ℕ → Mine → Type 0
frees st m found m' = (r : Log) → m.1 ≡ (0, Some r) ∷ [] → m' ≡ (stored m.0 r, [])

-- the word was read; it counts as much as was seen and as each earlier look showed, or more
abbrev pub glances : Step (Option Log) → Mine → ℕ → Mine → Type 0
glances st m found m' = (m' ≡ (glanced m.0 (found / 2), m.1)) × (length m.0.seen ≤ found / 2) × AreWithin (found / 2) m.0.looked
