use Rattle.std.proofs.Common.{rules}
use Rattle.ti_debugger.specs.Serving.{Going}
use Rattle.ti_debugger.proofs.ServingLaws.{going_more, going_serves, if_more, serving_idle, serving_more}
use Rattle.ti_debugger.proofs.seat.Seat.next.Goals as goal

pub returns-then-is_open-clause-served : goal.returns-then-is_open-clause-served
returns-then-is_open-clause-served c = serving_idle c.args.now c.args.self.now.session c.args.self.now.due c.args.desk.now

pub returns-in_err-todo-clause-served : goal.returns-in_err-todo-clause-served
returns-in_err-todo-clause-served c = serving_more c.args.now _ c.loop.self.session _ _ c.loop.self.due _ _ c.loop.desk _ c.loop.invariant.goes c.in_err-todo.ensures.served

pub returns-in-Some-clause-served : goal.returns-in-Some-clause-served
returns-in-Some-clause-served c = serving_more c.args.now _ c.loop.self.session _ _ c.loop.self.due _ _ c.loop.desk _ c.loop.invariant.goes c.in_ok-todo.ensures.served

pub loop-preserved : goal.loop-preserved
loop-preserved c =
    let goes = if_more (Going c.args.now c.loop.self.session c.loop.self.due c.loop.desk c.step.new.self.session c.step.new.self.due c.step.new.desk) c.in_ok-todo.field-0 c.in_default.is c.in_ok-todo.ensures.more in
    record {
      goes = going_more c.args.now c.args.self.now.session c.loop.self.session c.step.new.self.session c.args.self.now.due c.loop.self.due c.step.new.self.due c.args.desk.now c.loop.desk c.step.new.desk c.loop.invariant.goes goes;
      desk = search rules;
    }

pub returns-clause-served : goal.returns-clause-served
returns-clause-served c = going_serves c.args.now _ _ _ _ _ _ c.loop.invariant.goes
