use Rattle.std.proofs.Common.{◌≡◌, Bool, inl, inr, subst}
use Rattle.ti_monitor.specs.Asking.{seen_with}
use Rattle.ti_monitor.proofs.asking.see_after.Goals as goal

pub returns-in-Ok-clause-sees : goal.returns-in-Ok-clause-sees
returns-in-Ok-clause-sees c = inl (c.in-Ok.ensures.probes, subst (λ (x : Bool). c.seen_with.result ≡ seen_with x c.args.told) c.has_ended.ensures c.seen_with.ensures)

pub returns-in-Err-clause-sees : goal.returns-in-Err-clause-sees
returns-in-Err-clause-sees c = inr (c.in-Err.ensures.kept, (c.in-Err.error, c.in-Err.ensures.why, c.unseen_by.ensures))
