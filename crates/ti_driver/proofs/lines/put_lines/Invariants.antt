use Rattle.std.proofs.Common.{◌<◌, ◌++◌, drop, string_bytes}
use Rattle.std.specs.String.{string_len, string_capacity}
use Rattle.ti_script.specs.Texts.{lines_text}
use Rattle.ti_driver.specs.Lines.{HasRoom}
use Rattle.ti_driver.specs.Streams.{Sends}
use Rattle.ti_driver.proofs.lines.put_lines.Given as goal

abbrev pub invariant-loop-index : goal.invariant-loop-index
invariant-loop-index g l = record {
  sent : Sends (g.W.Write.contents l.initial.writer) (g.W.Write.contents l.writer) (lines_text l.methods 0 l.outcomes) (string_bytes l.text ++ lines_text l.methods l.index (drop l.index l.outcomes));
  short : string_len l.text < 65536;
  room : HasRoom (string_capacity l.text) l.methods l.index (drop l.index l.outcomes);
}
