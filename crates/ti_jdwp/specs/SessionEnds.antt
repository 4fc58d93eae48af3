-- The end of the runtime is what a debugger is told last.
use Rattle.std.specs.Prelude.{◌≡◌, ℕ, Bool, List, ◌++◌}
use Rattle.ti_jdwp.specs.Notes.{Dies}
use Rattle.ti_jdwp.specs.SessionRuns.{Call, Runs}
use Rattle.ti_jdwp.specs.Talks.{Talk}

-- Once a session was told that the runtime ended, all that is ever sent is what was to be sent then.
abbrev pub NothingFollowsTheEnd : Type 0
NothingFollowsTheEnd = (old ended end : Talk) (is_told : Bool) (calls : List Call) (sent : List ℕ) → Dies old is_told ended → Runs ended calls sent end → ended.bytes.output ≡ sent ++ end.bytes.output
