use Rattle.std.proofs.Common.{◌≡◌, false, rules}
use Rattle.ti_debugger.specs.Pops.{any_native}
use Rattle.ti_debugger.proofs.PopLaws.{can_pop_told}
use Rattle.ti_debugger.proofs.desk.Desk.look_at.Goals as goal

pub returns-in-Trace-clause-told : goal.returns-in-Trace-clause-told
returns-in-Trace-clause-told c =
    let java : any_native c.in-Trace.trace.frames ≡ false = search rules in
    can_pop_told c.args.self.now c.depth.new.self c.ask_now.new.self c.args.thread c.args.depth c.in_ok-count.count c.in_ok-part.part c.trace_of.result c.in_ok-trace.field-0 c.in-Trace.trace
    c.in_ok-count.ensures.told (search rules) c.trace_of.ensures c.in_ok-trace.ensures.told c.in-Trace.is java
