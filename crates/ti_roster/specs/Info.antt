-- What is told of a thread.
use Rattle.std.specs.Prelude.{◌≡◌}
use Rattle.std.specs.String.{string_bytes}
use Rattle.ti_roster.specs.declared.info.ThreadInfo.{ThreadInfo}

-- the same name, byte by byte, and the same priority
pub record IsSameInfo (a b : ThreadInfo) : Type 0 where
  pub name : string_bytes a.name ≡ string_bytes b.name
  pub priority : a.priority ≡ b.priority
