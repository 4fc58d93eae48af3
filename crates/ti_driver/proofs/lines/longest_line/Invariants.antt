use Rattle.std.proofs.Common.{ℕ, ◌≤◌, drop}
use Rattle.ti_driver.specs.Lines.{AreWithin}
use Rattle.ti_driver.proofs.lines.longest_line.Given as goal

-- what the lines that are left are within, all are within
abbrev pub invariant-loop-index : goal.invariant-loop-index
invariant-loop-index l = (most : ℕ) → l.longest ≤ most → AreWithin most l.methods l.index (drop l.index l.outcomes) → AreWithin most l.methods 0 l.outcomes
