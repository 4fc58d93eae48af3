use Rattle.std.proofs.Common.{ℕ, ◌≤◌, drop}
use Rattle.ti_driver.specs.ReportLines.{AreReplyLinesWithin}
use Rattle.ti_driver.proofs.live_lines.longest_reply.Given as goal

-- what the lines that are left are within, all are within
abbrev pub invariant-loop-number : goal.invariant-loop-number
invariant-loop-number l = (most : ℕ) → l.longest ≤ most → AreReplyLinesWithin most l.names l.agent l.number (drop l.number l.replies) → AreReplyLinesWithin most l.names l.agent 0 l.replies
