use Rattle.ti_debugger.specs.Serving.{Going}
use Rattle.ti_debugger.proofs.ServingLaws.{going_more, going_serves, more_always, not_ready, ready_goes, ready_none, rests_serves}
use Rattle.ti_debugger.proofs.seat.Seat.step.Goals as goal

pub returns-in_err-settle-clause-served : goal.returns-in_err-settle-clause-served
returns-in_err-settle-clause-served c =
    let came = c.in_err-settle.ensures.came in
    rests_serves c.args.now _ _ _ _ _ _ came.0 came.1 came.2

pub returns-then-not-branch-clause-served : goal.returns-then-not-branch-clause-served
returns-then-not-branch-clause-served c = not_ready c.args.now _ _ c.args.self.now.due _ c.args.desk.now _ c.in_ok-settle.field-0 c.if-not-branch.true c.in_ok-settle.ensures.came

pub go_on-requires : goal.go_on-requires
go_on-requires c = ready_none c.args.now _ _ c.args.self.now.due _ c.args.desk.now _ c.in_ok-settle.field-0 c.if-not-branch.false c.in_ok-settle.ensures.came

goes : (c : goal.After-go_on) → Going c.args.now c.args.self.now.session c.args.self.now.due c.args.desk.now c.go_on.new.self.session c.go_on.new.self.due c.go_on.new.desk
goes c =
    let now = c.args.now in
    let m = c.settle.new.self.session in
    let v = c.settle.new.self.due in
    let e = c.settle.new.desk in
    going_more now c.args.self.now.session m c.go_on.new.self.session c.args.self.now.due v c.go_on.new.self.due c.args.desk.now e c.go_on.new.desk
    (ready_goes now c.args.self.now.session m c.args.self.now.due v c.args.desk.now e c.in_ok-settle.field-0 c.if-not-branch.false c.in_ok-settle.ensures.came) (c.go_on.ensures.goes now)

pub returns-clause-served : goal.returns-clause-served
returns-clause-served c = going_serves c.args.now _ _ _ _ _ _ (goes c)

pub returns-clause-more : goal.returns-clause-more
returns-clause-more c = more_always _ c.go_on.result (goes c)
