-- What a clear poll says about its thread's history.
use Rattle.std.specs.Prelude.{◌≡◌, ◌<◌, ◌≤◌, Bool, false, not, List, [], ◌∷◌, ◌++◌, length}
use Rattle.ti_types.specs.declared.entry.Entry.{Entry}
use Rattle.ti_types.specs.declared.limits.Limits.{Limits}
use Rattle.ti_replay.specs.Legal.{is_armed}
use Rattle.ti_replay.specs.Makers.{made_by, StartsWith}
use Rattle.ti_cell.specs.declared.look.Look.{Look}
use Rattle.ti_cell.specs.declared.view.View.{View}

-- The owner's last look was that of a poll, which was clear or not. By then it had seen that the thread had started
pub record HasPolled (clear : Bool) (v : View) : Type 0 where
  pub before : List Look
  pub last : Look
  pub looked : v.looked ≡ before ++ last ∷ []
  pub told : last.armed ≡ not clear
  pub known : List Entry
  pub begins : StartsWith v.seen known
  pub started : 0 < length (made_by 0 known)
  pub behind : length known ≤ last.count

-- the history has a prefix in which the thread had started, and after which nobody waited for it
pub record WasCalm (limits : Limits) (history : List Entry) : Type 0 where
  pub front : List Entry
  pub begins : StartsWith history front
  pub started : 0 < length (made_by 0 front)
  pub calm : is_armed limits front ≡ false
