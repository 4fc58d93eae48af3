use Rattle.std.proofs.Common.{◌<◌, ◌≤◌, ◌++◌, drop, string_bytes}
use Rattle.std.specs.String.{string_len, string_capacity}
use Rattle.ti_script.specs.LiveTexts.{refusals_text}
use Rattle.ti_driver.specs.Streams.{Sends}
use Rattle.ti_driver.proofs.live_lines.put_refusals.Given as goal

abbrev pub invariant-loop-index : goal.invariant-loop-index
invariant-loop-index g l = record {
  sent : Sends (g.W.Write.contents l.initial.writer) (g.W.Write.contents l.writer) (string_bytes l.initial.text ++ refusals_text l.thread l.refused)
      (string_bytes l.text ++ refusals_text l.thread (drop l.index l.refused));
  short : string_len l.text < 65536;
  kept : string_capacity l.initial.text ≤ string_capacity l.text;
}
