use Rattle.std.proofs.Common.{◌≡◌}
use Rattle.ti_chunked.specs.Chunks.{ArePositive, lowered}
use Rattle.ti_chunked.proofs.chunks.lower_each.Given as goal

-- what is lowered from here on is what was to be lowered from the first on
abbrev pub invariant-loop-i : goal.invariant-loop-i
invariant-loop-i l = record {
  positive : ArePositive l.i l.starts;
  same : lowered l.i l.starts ≡ lowered l.first l.initial.starts;
}
