use Rattle.std.specs.Prelude.{◌≡◌, take}
use Rattle.std.specs.List.{fold}
use Rattle.ti_debugger.specs.Effects.{told_value}
use Rattle.ti_debugger.proofs.objects.Objects.tell_values.Given as goal

abbrev pub invariant-loop-value : goal.invariant-loop-value
invariant-loop-value l = (l.self.list.items ≡ fold told_value l.fn.self.list.items (take l.value-index l.values)) × (l.self.numbers ≡ l.fn.self.numbers)
