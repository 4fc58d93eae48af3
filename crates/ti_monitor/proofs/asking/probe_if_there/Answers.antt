use Rattle.ti_monitor.proofs.ProbeLaws.{probed}
use Rattle.ti_monitor.proofs.asking.probe_if_there.Goals as goal

pub returns : goal.returns
returns c = probed c.args.agent.now c.probe-as_before.new.agent c.args.watched.now c.probe-as_before.new.watched c.probe-as_before.result c.if-watched.false c.probe-as_before.ensures.probes c.probe-as_before.ensures.kept
