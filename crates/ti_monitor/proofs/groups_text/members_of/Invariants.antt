use Rattle.std.specs.Prelude.{◌≡◌, ◌++◌, drop}
use Rattle.ti_monitor.specs.Threads.{members_of}
use Rattle.ti_monitor.proofs.groups_text.members_of.Given as goal

abbrev pub invariant-loop-row : goal.invariant-loop-row
invariant-loop-row l = l.members.items ++ members_of l.group (drop l.row-index l.rows) ≡ members_of l.group l.rows
