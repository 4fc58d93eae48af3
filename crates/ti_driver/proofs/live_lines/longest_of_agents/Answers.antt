use Rattle.ti_driver.proofs.ReportLineLaws.{max_first, max_second, within_more}
use Rattle.ti_driver.proofs.TextLaws.{drop_next}
use Rattle.ti_driver.proofs.live_lines.longest_of_agents.Goals as goal

pub loop-number-preserved : goal.loop-number-preserved
loop-number-preserved c = λ most enough rest.
    let rs = c.index-agents-number.result in
    let next = drop_next c.args.agents.now c.loop-number.number rs c.loop-number-test.true c.index-agents-number.is in
    let both = rw c.max-longest.ensures at enough in
    let here = rw (c.agent_name-agent.ensures, c.as_slice.ensures) at c.in_ok-one.ensures in
    let within = within_more c.in_ok-one.one most c.args.names.now _ 0 rs (max_second c.loop-number.longest c.in_ok-one.one most both) here in
    c.loop-number.invariant most (max_first c.loop-number.longest c.in_ok-one.one most both) (rw next (within, rest))
