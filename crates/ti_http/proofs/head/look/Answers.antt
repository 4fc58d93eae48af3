use Rattle.ti_http.proofs.Steps.{broken}
use Rattle.ti_http.proofs.head.look.Goals as goal

pub returns-in-Err : goal.returns-in-Err
returns-in-Err c =
    c.refused.ensures (broken c.new-server.result c.args.input.now 64 c.read.result c.in-Err.error c.new-server.ensures c.in-Err.is c.read.ensures.err)
