use Rattle.std.proofs.Common.{refl, rules}
use Rattle.ti_debugger.specs.Debuggers.{DebuggerValue}
use Rattle.ti_debugger.specs.Desks.{debugger_of}
use Rattle.ti_debugger.specs.Runs.{RunsTo}
use Rattle.std.proofs.Common.{Some}
use Rattle.ti_debugger.proofs.NameLaws.{serving_names, works_on}
use Rattle.ti_debugger.proofs.RefusedLaws.{refused_by_memory}
use Rattle.ti_debugger.proofs.ServingLaws.{serving_runs}
use Rattle.ti_debugger.proofs.debugger.Debugger.next.Goals as goal

pub returns-in_err-todo-clause-err : goal.returns-in_err-todo-clause-err
returns-in_err-todo-clause-err c =
    let new : DebuggerValue = debugger_of (Some c.next-todo.new.self) c.next-todo.new.desk in
    let run = serving_runs c.args.now _ _ _ _ _ _ c.next-todo.ensures.served in
    refused_by_memory RunsTo c.args.self.now new c.from_residual.result c.from_residual.ensures.1 (c.in-Some.seat.session, c.next-todo.new.self.session, search rules, refl, run)

pub returns-in_err-todo-clause-served : goal.returns-in_err-todo-clause-served
returns-in_err-todo-clause-served c = λ there. (c.in-Some.seat, c.next-todo.new.self, c.self.inside.desk, c.next-todo.new.desk, search rules, refl, c.next-todo.ensures.served)

pub returns-clause-run : goal.returns-clause-run
returns-clause-run c =
    let run = serving_runs c.args.now _ _ _ _ _ _ c.next-todo.ensures.served in
    (c.in-Some.seat.session, c.next-todo.new.self.session, search rules, refl, (run, c.in_ok-todo.ensures.says))

pub returns-clause-served : goal.returns-clause-served
returns-clause-served c = λ there. (c.in-Some.seat, c.next-todo.new.self, c.self.inside.desk, c.next-todo.new.desk, search rules, refl, c.next-todo.ensures.served)

pub returns-in_err-todo-clause-desk : goal.returns-in_err-todo-clause-desk
returns-in_err-todo-clause-desk c = works_on c.args.self.now _ (Some c.next-todo.new.self) c.self.inside.desk c.next-todo.new.desk c.self.view_is c.next-todo.ensures.desk (serving_names c.args.now _ _ _ _ _ _ c.next-todo.ensures.served)

pub returns-clause-desk : goal.returns-clause-desk
returns-clause-desk c = works_on c.args.self.now _ (Some c.next-todo.new.self) c.self.inside.desk c.next-todo.new.desk c.self.view_is c.next-todo.ensures.desk (serving_names c.args.now _ _ _ _ _ _ c.next-todo.ensures.served)
