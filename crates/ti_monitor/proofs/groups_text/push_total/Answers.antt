use Rattle.std.proofs.Common.{codes, decimal}
use Rattle.ti_monitor.specs.Threads.{total_line}
use Rattle.ti_monitor.proofs.TextLaws.{of_two}
use Rattle.ti_monitor.proofs.groups_text.push_total.Goals as goal

pub returns : goal.returns
unfolding total_line
returns c = of_two _ _ _ _ _ (codes "threads profile: total ") (decimal c.args.count) c.in_ok-push.ensures c.in_ok-push_number.ensures c.push-2.ensures
