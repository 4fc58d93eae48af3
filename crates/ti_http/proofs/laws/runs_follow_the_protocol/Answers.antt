use Rattle.ti_http.proofs.Protocol.{each_run}
use Rattle.ti_http.proofs.laws.runs_follow_the_protocol.Goals as goal

pub returns : goal.returns
returns c = each_run
