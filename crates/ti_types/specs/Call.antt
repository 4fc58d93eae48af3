-- What calls need, and which are well formed.
use Rattle.std.specs.Prelude.{Bool, true}
use Rattle.ti_types.specs.declared.call.Call.{Call}
use Rattle.ti_types.specs.declared.call.Call.TheVariants.{Trace, Location, Suspend, Resume, Pop}
use Rattle.ti_types.specs.declared.caps.Caps.{Caps}
use Rattle.ti_types.specs.Numbers.{is_not_negative}

-- the capabilities that a call needs
abbrev pub needed_by : Call → Caps
needed_by Suspend = record { bits = 1 }
needed_by Resume = record { bits = 1 }
needed_by Pop = record { bits = 2 }
needed_by _ = record { bits = 0 }

-- whether no number of the call is negative that may not be
abbrev pub is_well_formed : Call → Bool
is_well_formed (Trace start max_count) = is_not_negative max_count
is_well_formed (Location depth) = is_not_negative depth
is_well_formed _ = true
