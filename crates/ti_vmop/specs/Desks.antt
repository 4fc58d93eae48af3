-- What a desk of an environment sees of a thread that is standing for it.
use Rattle.std.specs.Prelude.{◌≡◌, ◌+◌, false, true}
use Rattle.ti_types.specs.declared.numbers.EnvNo.{EnvNo}
use Rattle.ti_replay.specs.Fronts.{lets_go, IsStill}
use Rattle.ti_replay.specs.Makers.{made_by, StartsWith}
use Rattle.ti_replay.specs.Standing.{is_standing}
use Rattle.ti_cell.specs.declared.view.View.{View}
use Rattle.ti_handshake.specs.Call.{GoesOn, added}

-- a seat of the environment saw its thread standing, and has let nobody go since
abbrev pub DesksStay : Type 0
DesksStay =
    (env : EnvNo) (old new : View) → old.number ≡ env.0 + 1 → old.mine ≡ made_by old.number old.seen → GoesOn old new
    → is_standing old.subject.limits old.seen env ≡ true → lets_go env (added old new) ≡ false
    → (later : StartsWith new.seen old.seen) → IsStill old.subject.limits env old.seen later.0
