use Rattle.std.specs.Prelude.{◌≡◌}
use Rattle.ti_debugger.specs.Kept.{lessened}
use Rattle.ti_debugger.proofs.KeptLaws.{first_become}
use Rattle.ti_debugger.proofs.objects.Objects.lessen.Given as goal

abbrev pub invariant-loop-kept : goal.invariant-loop-kept
invariant-loop-kept l = l.kept-items ≡ first_become (lessened l.which) l.kept-index l.fn.self.list.items
