use Rattle.std.proofs.Common.{sym}
use Rattle.ti_capi.proofs.Ending.{detached, stays_held}
use Rattle.ti_capi.proofs.thread_frames.cq_detach_thread.Goals as goal

pub returns-then-code-eq-CQ_OK : goal.returns-then-code-eq-CQ_OK
returns-then-code-eq-CQ_OK c =
    detached c.args.thread.now c.clear.new.self c.in-Some.held.now c.give_back-code.new.held c.give_back-code.result (sym c.in-Some.ensures.value) c.give_back-code.ensures c.if-code-eq-CQ_OK.true c.clear.ensures.kind

pub returns-else-code-eq-CQ_OK : goal.returns-else-code-eq-CQ_OK
returns-else-code-eq-CQ_OK c =
    stays_held c.args.thread.now c.in-Some.held.now c.give_back-code.new.held c.give_back-code.result (sym c.in-Some.ensures.value) c.give_back-code.ensures c.if-code-eq-CQ_OK.false
