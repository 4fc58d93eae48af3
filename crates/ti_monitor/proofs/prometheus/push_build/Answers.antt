use Rattle.std.proofs.Common.{codes, [], ◌∷◌}
use Rattle.ti_monitor.specs.declared.prometheus_lines.Unit.TheVariants as unit
use Rattle.ti_monitor.specs.Exposition.{gauge, head_lines, labelled, labelled_line}
use Rattle.ti_monitor.proofs.TextLaws.{join, last_line}
use Rattle.ti_monitor.proofs.prometheus.push_build.Goals as goal

pub returns : goal.returns
returns c =
    let one = labelled_line (labelled (codes "build_info") [] (codes "version") unit.Count) c.args.version.now 1 in
    join _ _ _ _ (head_lines (codes "build_info") gauge (codes "What serves this.")) (one ∷ []) c.in_ok-push_head.ensures
    (last_line _ _ _ one c.push_labelled.ensures)
