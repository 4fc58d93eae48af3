-- Sets of capabilities, kept as sums of bits.
use Rattle.std.specs.Prelude.{◌-◌, Bool, ◌==◌, nat_lt, bit_and, bit_or}
use Rattle.ti_types.specs.declared.caps.Caps.{Caps}

abbrev pub no_caps : Caps
no_caps = record { bits = 0 }

-- the capabilities of either
abbrev pub caps_with : Caps → Caps → Caps
caps_with held more = record { bits = bit_or held.bits more.bits }

-- the capabilities of the first that are not of the second
abbrev pub caps_without : Caps → Caps → Caps
caps_without held gone = record { bits = held.bits - bit_and held.bits gone.bits }

-- whether all that are needed are there
abbrev pub has_all : Caps → Caps → Bool
has_all held needed = bit_and held.bits needed.bits == needed.bits

-- only can_suspend and can_pop_frame can be had
abbrev pub can_be_had : Caps → Bool
can_be_had caps = nat_lt caps.bits 4
