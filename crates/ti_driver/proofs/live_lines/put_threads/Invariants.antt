use Rattle.std.proofs.Common.{◌<◌, ◌≤◌, ◌++◌, drop, string_bytes, None}
use Rattle.std.specs.String.{string_len, string_capacity}
use Rattle.ti_driver.specs.Reports.{threads_text}
use Rattle.ti_driver.specs.Streams.{Sends}
use Rattle.ti_driver.proofs.live_lines.put_threads.Given as goal

abbrev pub invariant-loop-number : goal.invariant-loop-number
invariant-loop-number g l = record {
  sent : Sends (g.W.Write.contents l.initial.writer) (g.W.Write.contents l.writer) (string_bytes l.initial.text ++ threads_text (λ _. None) l.names.threads 0 l.threads)
      (string_bytes l.text ++ threads_text (λ _. None) l.names.threads l.number (drop l.number l.threads));
  short : string_len l.text < 65536;
  kept : string_capacity l.initial.text ≤ string_capacity l.text;
}
