use Rattle.std.proofs.Common.{sym}
use Rattle.ti_capi.proofs.Ending.{disposed, remains}
use Rattle.ti_capi.proofs.env_events.cq_dispose_environment.Goals as goal

pub returns-then-code-eq-CQ_OK : goal.returns-then-code-eq-CQ_OK
returns-then-code-eq-CQ_OK c =
    disposed c.args.env.now c.clear.new.self c.in-Some.held.now c.dispose-code.new.held c.dispose-code.result (sym c.in-Some.ensures.value) c.dispose-code.ensures c.if-code-eq-CQ_OK.true c.clear.ensures.kind

pub returns-else-code-eq-CQ_OK : goal.returns-else-code-eq-CQ_OK
returns-else-code-eq-CQ_OK c =
    remains c.args.env.now c.in-Some.held.now c.dispose-code.new.held c.dispose-code.result (sym c.in-Some.ensures.value) c.dispose-code.ensures c.if-code-eq-CQ_OK.false
