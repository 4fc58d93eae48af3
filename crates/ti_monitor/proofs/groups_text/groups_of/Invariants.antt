use Rattle.std.specs.Prelude.{◌≡◌, take}
use Rattle.ti_monitor.specs.Threads.{groups_of}
use Rattle.ti_monitor.proofs.groups_text.groups_of.Given as goal

abbrev pub invariant-loop-row : goal.invariant-loop-row
invariant-loop-row l = l.groups.keys ≡ groups_of (take l.row-index l.rows)
