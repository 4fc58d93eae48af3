use Rattle.std.specs.Prelude.{◌≡◌, ◌++◌, drop}
use Rattle.ti_monitor.specs.Texts.{text_of}
use Rattle.ti_monitor.specs.Threads.{threads_from}
use Rattle.ti_monitor.proofs.threads_text.push_threads.Given as goal

abbrev pub invariant-loop-place : goal.invariant-loop-place
invariant-loop-place l =
    l.out.items ++ text_of (threads_from l.names l.details l.nodes l.rows l.place (drop l.place l.seen))
    ≡ l.fn.out.items ++ text_of (threads_from l.names l.details l.nodes l.rows 0 l.seen)
