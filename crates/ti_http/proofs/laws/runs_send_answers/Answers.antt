use Rattle.ti_http.proofs.Sending.{each_sends}
use Rattle.ti_http.proofs.laws.runs_send_answers.Goals as goal

pub returns : goal.returns
returns c = each_sends
