-- The numbers of the events for which threads stop.
use Rattle.std.specs.Prelude.{ℕ}
use Rattle.ti_stops.specs.declared.kind.StopKind.{StopKind}
use Rattle.ti_stops.specs.declared.kind.StopKind.TheVariants as kind

-- JVM TI's numbers
abbrev pub kind_number : StopKind → ℕ
kind_number kind.Breakpoint = 62
kind_number kind.SingleStep = 60
kind_number kind.FramePop = 61
