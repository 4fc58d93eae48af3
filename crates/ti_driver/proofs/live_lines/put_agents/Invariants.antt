use Rattle.std.proofs.Common.{◌<◌, ◌≤◌, ◌++◌, drop, string_bytes}
use Rattle.std.specs.String.{string_len, string_capacity}
use Rattle.ti_script.specs.LiveTexts.{agents_text}
use Rattle.ti_driver.specs.ReportLines.{AreAgentLinesWithin, HasRoomFor}
use Rattle.ti_driver.specs.Streams.{Sends}
use Rattle.ti_driver.proofs.live_lines.put_agents.Given as goal

abbrev pub invariant-loop-number : goal.invariant-loop-number
invariant-loop-number g l = record {
  sent : Sends (g.W.Write.contents l.initial.writer) (g.W.Write.contents l.writer) (string_bytes l.initial.text ++ agents_text l.names.threads l.names.agents l.names.methods 0 l.agents)
      (string_bytes l.text ++ agents_text l.names.threads l.names.agents l.names.methods l.number (drop l.number l.agents));
  short : string_len l.text < 65536;
  room : HasRoomFor (string_capacity l.text) (λ most. AreAgentLinesWithin most l.names l.number (drop l.number l.agents));
  kept : string_capacity l.initial.text ≤ string_capacity l.text;
}
