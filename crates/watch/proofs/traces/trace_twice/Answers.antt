use Rattle.std.proofs.Common.{rules, to_z, of_z, w32, subst, ℤ}
use Rattle.std.proofs.lemmas.Int.{to_z-of_z}
use Rattle.ti_types.specs.declared.answer.Answer.TheVariants as answer
use Rattle.ti_types.specs.declared.error.TiError.{TiError}
use Rattle.ti_types.specs.Frames.{bare_trace}
use Rattle.ti_agent.specs.Asks.{IsCalled}
use Rattle.ti_service.proofs.Moves.{if_err}
use Rattle.watch.specs.Traces.{RefusesTwo, newest}
use Rattle.watch.specs.Traces.RefusesTwo.{NotTraced, NotTwice}
use Rattle.watch.proofs.TwiceLaws.{was_done, was_traced, trace_twice}
use Rattle.watch.proofs.traces.trace_twice.Goals as goal

pub returns-clause-same : goal.returns-clause-same
returns-clause-same g c = λ p q at_p at_q alone.
    trace_twice c.args.agent.now.env c.suspend_thread.new.self.env c.get_stack_trace.new.self.env c.get_stack_trace-2.new.self.env c.args.thread (to_z w32 (of_z w32 c.args.max_count)) c.in_ok-first.first.frames c.in_ok-second.second.frames
    (was_done _ c.args.agent.now.env c.suspend_thread.new.self.env c.args.thread _ c.in_ok-suspend_thread.ensures.called)
    (was_traced _ c.suspend_thread.new.self.env c.get_stack_trace.new.self.env c.args.thread _ c.in_ok-first.first.frames c.in_ok-first.ensures.called)
    (was_traced _ c.get_stack_trace.new.self.env c.get_stack_trace-2.new.self.env c.args.thread _ c.in_ok-second.second.frames c.in_ok-second.ensures.called)
    p q at_p at_q alone

pub returns-clause-taken : goal.returns-clause-taken
returns-clause-taken g c =
    let most = to_z-of_z w32 c.args.max_count c.ranges.max_count in record {
      mid = c.suspend_thread.new.self.env;
      last = c.get_stack_trace.new.self.env;
      suspended = c.in_ok-suspend_thread.ensures.called;
      first = subst (λ (m : ℤ). IsCalled c.suspend_thread.new.self.env c.get_stack_trace.new.self.env c.args.thread (newest m) (answer.Trace (bare_trace c.in_ok-first.first.frames))) most c.in_ok-first.ensures.called;
      second = subst (λ (m : ℤ). IsCalled c.get_stack_trace.new.self.env c.get_stack_trace-2.new.self.env c.args.thread (newest m) (answer.Trace (bare_trace c.in_ok-second.second.frames))) most c.in_ok-second.ensures.called;
    }

pub returns-in_err-first-clause-refused : goal.returns-in_err-first-clause-refused
returns-in_err-first-clause-refused g c =
    let most = to_z-of_z w32 c.args.max_count c.ranges.max_count in
    let e : TiError = c.in_err-first.field-0.0 in
    if_err (λ (x : TiError). RefusesTwo c.args.agent.now.env c.get_stack_trace.new.self.env c.args.thread c.args.max_count x) c.from_residual-in_err-first.result e (search rules)
    (NotTraced c.suspend_thread.new.self.env c.in_ok-suspend_thread.ensures.called
    (subst (λ (m : ℤ). IsCalled c.suspend_thread.new.self.env c.get_stack_trace.new.self.env c.args.thread (newest m) (answer.Refused e)) most c.in_err-first.ensures.called))

pub returns-in_err-second-clause-refused : goal.returns-in_err-second-clause-refused
returns-in_err-second-clause-refused g c =
    let most = to_z-of_z w32 c.args.max_count c.ranges.max_count in
    let e : TiError = c.in_err-second.field-0.0 in
    if_err (λ (x : TiError). RefusesTwo c.args.agent.now.env c.get_stack_trace-2.new.self.env c.args.thread c.args.max_count x) c.from_residual-in_err-second.result e (search rules)
    (NotTwice c.suspend_thread.new.self.env c.get_stack_trace.new.self.env c.in_ok-first.first.frames c.in_ok-suspend_thread.ensures.called
    (subst (λ (m : ℤ). IsCalled c.suspend_thread.new.self.env c.get_stack_trace.new.self.env c.args.thread (newest m) (answer.Trace (bare_trace c.in_ok-first.first.frames))) most c.in_ok-first.ensures.called)
    (subst (λ (m : ℤ). IsCalled c.get_stack_trace.new.self.env c.get_stack_trace-2.new.self.env c.args.thread (newest m) (answer.Refused e)) most c.in_err-second.ensures.called))
