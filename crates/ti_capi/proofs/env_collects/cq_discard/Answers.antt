use Rattle.std.proofs.Common.{◌∙◌, Bool, false, is_some, Option, Result, Ok, Err, ap, refl, subst, sym}
use Rattle.ti_types.specs.declared.error.TiError.{TiError}
use Rattle.ti_handshake.specs.declared.discarded.Discarded.{Discarded}
use Rattle.ti_agent.specs.Deadlines.{DiscardsOwn}
use Rattle.ti_capi.specs.Asking.{thread_no}
use Rattle.ti_capi.specs.Calls as calls
use Rattle.ti_capi.proofs.Calling.{called}
use Rattle.ti_capi.proofs.env_collects.cq_discard.Goals as goal

-- whether something was discarded
abbrev was_there : Result (Option Discarded) TiError → Bool
was_there (Ok d) = is_some d
was_there (Err e) = false

pub returns-in-Ok : goal.returns-in-Ok
returns-in-Ok c =
    let e = c.in-Ok.ensures in
    called _ _ _ _ _ _ _ (sym c.in-Some.ensures.value) c.in-Some-agent.is
    (calls.Discarded refl e.home
    (subst (λ (b : Bool). DiscardsOwn c.in-Some-agent.agent.env c.discard_now.new.self.env (thread_no c.args.thread) b) (sym c.is_some.ensures) e.discards)
    (λ far. ((e.nobody far).0, c.is_some.ensures ∙ ap was_there (e.nobody far).1)))
