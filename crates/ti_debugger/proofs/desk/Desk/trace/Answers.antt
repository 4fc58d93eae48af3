use Rattle.ti_debugger.proofs.StackLaws.{trace_told}
use Rattle.ti_debugger.proofs.desk.Desk.trace.Goals as goal

pub returns-in-Trace-clause-told : goal.returns-in-Trace-clause-told
returns-in-Trace-clause-told c =
    trace_told c.stack.result c.args.self.now c.ask_now.new.self c.stack.new.self c.args.thread c.args.depth c.args.call c.in_ok-trace.field-0 c.in-Trace.trace c.in_ok-trace.ensures.told
    c.in-Trace.is c.stack.ensures.told
