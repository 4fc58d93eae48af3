use Rattle.std.proofs.Common.{rules}
use Rattle.std.proofs.lemmas.Result.{IfOk-weaker}
use Rattle.ti_driver.proofs.ReportLineLaws.{thread_lines}
use Rattle.ti_driver.proofs.live_lines.room_for_report.Goals as goal

pub returns-clause-threads : goal.returns-clause-threads
returns-clause-threads c =
    let threads = c.args.names.now.threads in
    IfOk-weaker c.with_capacity.result _ _
    (λ text room. (c.in-Some.of_threads, thread_lines threads c.longest_name-longest_name.result c.in-Some.of_threads c.longest_name-longest_name.ensures.threads c.in-Some.ensures.refusals c.in-Some.ensures.verdicts, search rules))
    c.with_capacity.ensures.capacity
