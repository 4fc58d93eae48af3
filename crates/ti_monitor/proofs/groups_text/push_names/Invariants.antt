use Rattle.std.specs.Prelude.{◌≡◌, ◌++◌, ◌==◌, drop, if◌then◌else◌}
use Rattle.ti_monitor.specs.Threads.{more_names, names_text}
use Rattle.ti_monitor.proofs.groups_text.push_names.Given as goal

abbrev pub invariant-loop-place : goal.invariant-loop-place
invariant-loop-place l =
    l.out.items ++ (if l.place == 0 then names_text l.names l.members else more_names l.names (drop l.place l.members))
    ≡ l.fn.out.items ++ names_text l.names l.members
