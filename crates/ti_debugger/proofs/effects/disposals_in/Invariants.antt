use Rattle.std.specs.Prelude.{◌≡◌}
use Rattle.ti_debugger.specs.Effects.{disposals}
use Rattle.ti_debugger.proofs.effects.disposals_in.Given as goal

abbrev pub invariant-loop-place : goal.invariant-loop-place
invariant-loop-place l = l.list.items ≡ disposals l.place l.bytes
