use Rattle.std.proofs.Common.{◌≡◌, ap, sym, subst, ◌∙◌, List, nat_lt, ◌&&◌}
use Rattle.ti_replay.specs.Events.{history_of}
use Rattle.ti_replay.specs.Standing.{is_standing}
use Rattle.ti_core.specs.Thread.{ThreadState}
use Rattle.ti_core.specs.Core.{CoreState, core_of, thread_at}
use Rattle.ti_core.specs.Refines.{Refines}
use Rattle.ti_core.proofs.KeptLaws.{standing_is}
use Rattle.ti_core.proofs.engine.Core.standing.Goals as goal

pub returns : goal.returns
returns c = λ events k.
    let i = c.self.inside in
    let s = core_of i.limits i.envs.items i.threads.items in
    let st = subst (Refines events) (sym c.self.view_is) k in
    let e = c.is_standing_at.ensures ∙ ap (λ (ts : List ThreadState). is_standing (thread_at i.limits ts c.args.thread).thread.limits (thread_at i.limits ts c.args.thread).thread.history c.args.env) c.deref.ensures.value
    ∙ standing_is events s c.args.env c.args.thread st in
    subst (λ (z : CoreState). c.is_standing_at.result ≡ (nat_lt c.args.thread.0 z.limits.threads && is_standing z.limits (history_of z.limits c.args.thread events) c.args.env)) c.self.view_is e
