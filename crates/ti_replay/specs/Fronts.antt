-- An environment's stop at one thread: which entries say that it is in force, and what stays until the environment lets the
-- thread go.
use Rattle.std.specs.Prelude.{ℕ, ℤ, ◌≡◌, ◌+◌, Bool, true, false, if◌then◌else◌, ◌==◌, List, [], ◌∷◌, ◌++◌, take, drop}
use Rattle.std.specs.List.{fold, list_any}
use Rattle.ti_types.specs.Frames.{bare_trace}
use Rattle.ti_types.specs.State.{bits_of}
use Rattle.ti_types.specs.declared.answer.Answer.{Answer}
use Rattle.ti_types.specs.declared.answer.Answer.TheVariants as answer
use Rattle.ti_types.specs.declared.entry.Entry.{Entry}
use Rattle.ti_types.specs.declared.call.Call.TheVariants.{Pop}
use Rattle.ti_types.specs.declared.entry.Entry.TheVariants.{Asked, Stop, Go}
use Rattle.ti_types.specs.declared.limits.Limits.{Limits}
use Rattle.ti_types.specs.declared.numbers.EnvNo.{EnvNo}
use Rattle.ti_replay.specs.Answers.{answer_of, or_zero}
use Rattle.ti_replay.specs.Laws.{is_done}
use Rattle.ti_replay.specs.Legal.{is_legal, is_stopper}
use Rattle.ti_replay.specs.Makers.{made_by, StartsWith}
use Rattle.ti_replay.specs.Standing.{is_standing, is_go_of}
use Rattle.ti_replay.specs.View.{view}

-- whether an environment's stop is in force after an entry of its own
abbrev pub stops_after : EnvNo → Bool → Entry → Bool
stops_after env stands (Stop other) = if other.0 == env.0 then true else stands
stops_after env stands (Go other) = if other.0 == env.0 then false else stands
stops_after env stands _ = stands

-- whether an environment's stop is in force after these entries
abbrev pub stops_by : EnvNo → List Entry → Bool
stops_by env entries = fold (stops_after env) false entries

-- an environment's own entries alone say whether its stop is in force
abbrev pub StopsAreOwn : Type 0
StopsAreOwn =
    (limits : Limits) (env : EnvNo) (history : List Entry) → is_legal limits history ≡ true
    → is_stopper (view limits history).stopper env ≡ stops_by env (made_by (env.0 + 1) history)

abbrev pub lets_go : EnvNo → List Entry → Bool
lets_go env entries = list_any (is_go_of env) entries

-- how many frames an entry takes from a thread that does not run: one if it is a pop that is done
abbrev pub frames_popped : Limits → List Entry → Entry → ℕ
frames_popped limits history (Asked env number Pop) = if is_done (answer_of (view limits history) env Pop) then 1 else 0
frames_popped limits history _ = 0

-- how many frames the entries after a prefix take
abbrev pub popped_behind : Limits → List Entry → List Entry → ℕ
popped_behind limits front [] = 0
popped_behind limits front (x ∷ more) = frames_popped limits front x + popped_behind limits (front ++ x ∷ []) more

-- After a prefix that leaves the thread standing for an environment, up to that environment's go. The thread makes no entry
-- of its own, and stays in its mode. Its frames are those of the prefix, without those that were popped, the newest first
pub record IsStill (limits : Limits) (env : EnvNo) (front more : List Entry) : Type 0 where
  pub none : made_by 0 more ≡ []
  pub stands : is_standing limits (front ++ more) env ≡ true
  pub mode : (view limits (front ++ more)).mode ≡ (view limits front).mode
  pub frames : (view limits (front ++ more)).frames ≡ drop (popped_behind limits front more) (view limits front).frames

abbrev pub FrontsStay : Type 0
FrontsStay =
    (limits : Limits) (env : EnvNo) (front more : List Entry) → is_legal limits (front ++ more) ≡ true → is_standing limits front env ≡ true → lets_go env more ≡ false
    → IsStill limits env front more

-- An answer shows the mode and the frames of a prefix, after the pops of the entries since. The suspended flag may have
-- changed
abbrev pub TellsOf : Limits → List Entry → List Entry → ℤ → Answer → Type 0
TellsOf limits front more max_count a =
    (suspended : Bool)
    × (a ≡ answer.Stack (bits_of (view limits front).mode suspended) (bare_trace (take (or_zero max_count) (drop (popped_behind limits front more) (view limits front).frames))))

-- an answer that shows a later prefix also shows the first: its mode, and its frames after all pops since
abbrev pub FrontsTell : Type 0
FrontsTell =
    (limits : Limits) (env : EnvNo) (front more rest : List Entry) (max_count : ℤ) (a : Answer) → IsStill limits env front more → TellsOf limits (front ++ more) rest max_count a
    → TellsOf limits front (more ++ rest) max_count a

-- The same for one who knows only the environment's own entries. After a prefix that leaves the thread standing, it is
-- enough that none of these lets the thread go
abbrev pub FrontsStayByOwn : Type 0
FrontsStayByOwn =
    (limits : Limits) (env : EnvNo) (front history : List Entry) → is_legal limits history ≡ true → is_standing limits front env ≡ true
    → (later : StartsWith history front) → lets_go env (made_by (env.0 + 1) later.0) ≡ false → IsStill limits env front later.0
