use Rattle.std.specs.Prelude.{◌≡◌, ◌++◌, drop}
use Rattle.std.specs.List.{flat_map}
use Rattle.ti_monitor.specs.Texts.{text_of}
use Rattle.ti_monitor.specs.Threads.{group_lines}
use Rattle.ti_monitor.proofs.groups_text.push_groups.Given as goal

abbrev pub invariant-loop-group : goal.invariant-loop-group
invariant-loop-group l =
    l.out.items ++ text_of (flat_map (group_lines l.names l.details l.nodes l.rows) (drop l.group-index l.groups))
    ≡ l.fn.out.items ++ text_of (flat_map (group_lines l.names l.details l.nodes l.rows) l.groups)
