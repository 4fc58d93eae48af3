use Rattle.std.specs.Prelude.{◌≡◌, ◌++◌, drop, map}
use Rattle.ti_monitor.specs.Exposition.{labelled_lines, series_of}
use Rattle.ti_monitor.specs.Texts.{text_of}
use Rattle.ti_monitor.proofs.prometheus_lines.push_each.Given as goal

abbrev pub invariant-loop-place : goal.invariant-loop-place
invariant-loop-place l =
    l.out.items ++ text_of (labelled_lines (series_of l.series) (map (λ s. s.now) (drop l.place l.labels)) (drop l.place l.values))
    ≡ l.fn.out.items ++ text_of (labelled_lines (series_of l.series) (map (λ s. s.now) l.labels) l.values)
