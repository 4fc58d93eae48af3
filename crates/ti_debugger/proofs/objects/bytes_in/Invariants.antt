use Rattle.std.specs.Prelude.{◌≡◌, ◌-◌, ◌^◌, min, take}
use Rattle.std.specs.List.{sum_by}
use Rattle.ti_debugger.specs.Kept.{size_of}
use Rattle.ti_debugger.proofs.objects.bytes_in.Given as goal

abbrev pub invariant-loop-object : goal.invariant-loop-object
invariant-loop-object l = l.bytes ≡ min (sum_by size_of (take l.object-index l.list)) (2 ^ 64 - 1)
