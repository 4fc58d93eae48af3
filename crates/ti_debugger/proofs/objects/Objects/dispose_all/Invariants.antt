use Rattle.std.specs.Prelude.{◌≡◌, take}
use Rattle.ti_debugger.specs.Kept.{all_disposed}
use Rattle.ti_debugger.proofs.objects.Objects.dispose_all.Given as goal

abbrev pub invariant-loop-which : goal.invariant-loop-which
invariant-loop-which l = (l.self.list.items ≡ all_disposed (take l.which-index l.list) l.fn.self.list.items) × (l.self.numbers ≡ l.fn.self.numbers)
