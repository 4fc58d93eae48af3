use Rattle.std.specs.Prelude.{◌≡◌}
use Rattle.ti_debugger.specs.Kept.{told_once}
use Rattle.ti_debugger.proofs.KeptLaws.{first_become}
use Rattle.ti_debugger.proofs.objects.Objects.tell.Given as goal

abbrev pub invariant-loop-kept : goal.invariant-loop-kept
invariant-loop-kept l = l.kept-items ≡ first_become (told_once l.first l.count) l.kept-index l.fn.self.list.items
