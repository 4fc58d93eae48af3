use Rattle.std.proofs.Common.{◌∙◌}
use Rattle.ti_handshake.proofs.Holding.{news_then}
use Rattle.ti_handshake.proofs.not_running.NotRunning.run.Goals as goal

pub loop-preserved : goal.loop-preserved
loop-preserved g c =
    let e = c.in-Err.ensures in
    let n = c.await_unbarred-not_running.ensures in
    (n.cell ∙ (e.cell ∙ c.loop.invariant.0), news_then _ _ _ _ c.loop.invariant.1 e.hold.waits n.news, n.turn ∙ (e.turn ∙ c.loop.invariant.2))
