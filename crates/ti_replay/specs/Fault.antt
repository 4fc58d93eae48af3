-- What a failed replay says.
use Rattle.std.specs.Prelude.{◌≡◌, false, [], List, Some}
use Rattle.ti_types.specs.declared.limits.Limits.{Limits}
use Rattle.ti_types.specs.declared.entry.Entry.{Entry}
use Rattle.ti_replay.specs.declared.fault.ReplayFault.{ReplayFault}
use Rattle.ti_replay.specs.declared.fault.ReplayFault.TheVariants.{Illegal, Memory}
use Rattle.ti_replay.specs.Legal.{first_illegal, is_legal}

-- the history is illegal, and the place is its first illegal entry's. Memory may run out at any history
abbrev pub IsFaultOf : Limits → List Entry → ReplayFault → Type 0
IsFaultOf limits history (Illegal at) = (is_legal limits history ≡ false) × (first_illegal limits [] history ≡ Some at)
IsFaultOf limits history Memory = Unit {0}
