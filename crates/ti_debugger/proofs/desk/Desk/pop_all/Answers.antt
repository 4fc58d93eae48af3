use Rattle.std.proofs.Common.{rules, ◌+◌, ◌-◌, ◌≤◌, refl, ap, arith}
use Rattle.ti_debugger.specs.declared.desk.Desk.{Desk}
use Rattle.ti_debugger.proofs.PopLaws.{gone_rest, pops_more, pops_some}
use Rattle.ti_debugger.proofs.desk.Desk.pop_all.Goals as goal

pub invariant_of-t-11 : goal.invariant_of-t-11
invariant_of-t-11 c =
    let p = c.args.popping in
    let done = c.loop-done.done in
    let within : p.left - done ≤ p.depth + 1 = omega (arith, p.within) in
    let fewer : done ≤ p.left = omega (arith, c.loop-done-test.true) in
    record { within = within; gone = gone_rest _ p.depth p.left done (p.left - done) _ _ p.within fewer refl p.gone c.loop-done.invariant.pops }

pub returns-in-Err-clause-later : goal.returns-in-Err-clause-later
returns-in-Err-clause-later c = λ late.
    pops_some c.args.self.now c.loop-done.self _ c.args.popping _ c.loop-done.done c.loop-done-test.true c.loop-done.invariant.pops (ap (λ (d : Desk). d.agent) (c.in-Err.ensures.later late)) refl refl refl refl

pub loop-done-preserved : goal.loop-done-preserved
loop-done-preserved c = record {
  rest = search rules;
  pops = pops_more _ _ _ c.loop-done.self.agent.env _ c.loop-done.invariant.pops c.in_default.ensures.popped;
}
