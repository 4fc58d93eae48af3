use Rattle.std.specs.Prelude.{◌≡◌, ◌++◌, drop, map}
use Rattle.ti_monitor.specs.Exposition.{code_line, series_of}
use Rattle.ti_monitor.specs.Texts.{text_of}
use Rattle.ti_monitor.proofs.prometheus_lines.push_codes.Given as goal

abbrev pub invariant-loop-row : goal.invariant-loop-row
invariant-loop-row l =
    l.out.items ++ text_of (map (code_line (series_of l.series)) (drop l.row-index l.codes))
    ≡ l.fn.out.items ++ text_of (map (code_line (series_of l.series)) l.codes)
