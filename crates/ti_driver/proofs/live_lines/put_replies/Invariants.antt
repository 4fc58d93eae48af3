use Rattle.std.proofs.Common.{◌<◌, ◌≤◌, ◌++◌, drop, string_bytes}
use Rattle.std.specs.String.{string_len, string_capacity}
use Rattle.ti_script.specs.LiveTexts.{replies_text}
use Rattle.ti_driver.specs.ReportLines.{AreReplyLinesWithin, HasRoomFor}
use Rattle.ti_driver.specs.Streams.{Sends}
use Rattle.ti_driver.proofs.live_lines.put_replies.Given as goal

abbrev pub invariant-loop-number : goal.invariant-loop-number
invariant-loop-number g l = record {
  sent : Sends (g.W.Write.contents l.initial.writer) (g.W.Write.contents l.writer) (string_bytes l.initial.text ++ replies_text l.names.threads l.names.methods l.agent 0 l.replies)
      (string_bytes l.text ++ replies_text l.names.threads l.names.methods l.agent l.number (drop l.number l.replies));
  short : string_len l.text < 65536;
  room : HasRoomFor (string_capacity l.text) (λ most. AreReplyLinesWithin most l.names l.agent l.number (drop l.number l.replies));
  kept : string_capacity l.initial.text ≤ string_capacity l.text;
}
