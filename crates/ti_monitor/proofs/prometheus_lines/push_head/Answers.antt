use Rattle.std.proofs.Common.{codes}
use Rattle.ti_monitor.specs.Exposition.{about_line}
use Rattle.ti_monitor.proofs.TextLaws.{two_lines}
use Rattle.ti_monitor.proofs.prometheus_lines.push_head.Goals as goal

pub returns : goal.returns
returns c =
    two_lines _ _ _ _ (about_line (codes "# HELP cebdyraq_") c.args.name.now c.args.help.now) (about_line (codes "# TYPE cebdyraq_") c.args.name.now c.args.kind.now)
    c.in_ok-push_about.ensures c.push_about-2.ensures
