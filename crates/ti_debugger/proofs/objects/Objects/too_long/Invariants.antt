use Rattle.std.specs.Prelude.{◌≡◌, ◌-◌, take}
use Rattle.ti_debugger.specs.Kept.{bytes_of}
use Rattle.ti_debugger.proofs.objects.Objects.too_long.Given as goal

abbrev pub invariant-loop-kept : goal.invariant-loop-kept
invariant-loop-kept l = l.room ≡ 16777217 - bytes_of (take l.kept-index l.self.list.items)
