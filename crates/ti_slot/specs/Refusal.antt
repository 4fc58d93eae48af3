-- Why a thread may not hand over.
use Rattle.std.specs.Prelude.{List, Option}
use Rattle.ti_types.specs.declared.limits.Limits.{Limits}
use Rattle.ti_types.specs.declared.state.Safe.{Safe}
use Rattle.ti_types.specs.declared.entry.Entry.{Entry}
use Rattle.ti_types.specs.declared.entry.Entry.TheVariants.{Hand}
use Rattle.ti_types.specs.declared.error.TiError.{TiError}
use Rattle.ti_replay.specs.View.{view}
use Rattle.ti_replay.specs.Legal.{own_spent}
use Rattle.ti_replay.specs.Refusals.{own_refusal}

-- after a history
abbrev pub hand_refusal : Limits → List Entry → Safe → Option TiError
hand_refusal limits history safe = own_refusal limits (view limits history) (own_spent history) (Hand safe)
