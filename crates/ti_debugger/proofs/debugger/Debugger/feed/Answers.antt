use Rattle.std.proofs.Common.{◌≡◌, Some, refl, rules}
use Rattle.ti_jdwp.specs.Talks.{Talk}
use Rattle.ti_debugger.specs.Debuggers.{DebuggerValue}
use Rattle.ti_debugger.specs.Desks.{debugger_of}
use Rattle.ti_debugger.proofs.RefusedLaws.{refused_by_memory}
use Rattle.ti_debugger.proofs.debugger.Debugger.feed.Goals as goal

pub returns-in_err-taken-clause-err : goal.returns-in_err-taken-clause-err
returns-in_err-taken-clause-err c =
    let new : DebuggerValue = debugger_of (Some (record c.in-Some.seat { session = c.feed-taken.new.self })) c.self.inside.desk in
    let same : c.feed-taken.new.self ≡ c.in-Some.seat.session = search rules in
    refused_by_memory (λ (s s' : Talk). s' ≡ s) c.args.self.now new c.from_residual.result c.from_residual.ensures.1 (c.in-Some.seat.session, c.feed-taken.new.self, search rules, refl, same)
