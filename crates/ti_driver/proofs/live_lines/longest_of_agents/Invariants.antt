use Rattle.std.proofs.Common.{ℕ, ◌≤◌, drop}
use Rattle.ti_driver.specs.ReportLines.{AreAgentLinesWithin}
use Rattle.ti_driver.proofs.live_lines.longest_of_agents.Given as goal

-- what the lines that are left are within, all are within
abbrev pub invariant-loop-number : goal.invariant-loop-number
invariant-loop-number l = (most : ℕ) → l.longest ≤ most → AreAgentLinesWithin most l.names l.number (drop l.number l.agents) → AreAgentLinesWithin most l.names 0 l.agents
