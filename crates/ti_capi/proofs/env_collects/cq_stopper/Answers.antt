use Rattle.std.proofs.Common.{◌≡◌, ◌⊎◌, inl, inr, ℕ, Option, None, Some, refl, sym, ap, subst, ◌∙◌}
use Rattle.ti_types.specs.TiError.{number_of}
use Rattle.ti_types.specs.declared.error.TiError.{TiError}
use Rattle.ti_types.specs.declared.error.TiError.TheVariants.{Busy}
use Rattle.ti_types.specs.declared.numbers.EnvNo.{EnvNo}
use Rattle.ti_types.specs.declared.numbers.ThreadNo.{ThreadNo}
use Rattle.ti_agent.specs.HandOvers.{TellsStopper, absence_refusal}
use Rattle.ti_service.specs.Memberships.{AgentValue}
use Rattle.ti_capi.specs.Asking.{thread_no}
use Rattle.ti_capi.specs.Calls.{StopperAbsent, StopperBusy, StopperTold, TellsStopperBy}
use Rattle.ti_capi.proofs.Calling.{called}
use Rattle.ti_capi.proofs.env_collects.cq_stopper.Goals as goal

refused : (t : ThreadNo) (n0 : ℕ) (s n : AgentValue) (e : TiError) (code : ℕ) → code ≡ number_of e → n ≡ s → (absence_refusal s.env t ≡ Some e) ⊎ ((e ≡ Busy) × (absence_refusal s.env t ≡ None)) → TellsStopperBy t n0 n0 s n code
refused t n0 s n e code is same (inl absent) = StopperAbsent e is absent same refl
refused t n0 s n e code is same (inr busy) = StopperBusy (is ∙ ap number_of busy.0) busy.1 same refl

pub returns-in-Ok-Some : goal.returns-in-Ok-Some
returns-in-Ok-Some c =
    let told = subst (λ (o : Option EnvNo). TellsStopper c.in-Some-agent.agent.env c.stopper_now.new.self.env (thread_no c.args.thread) o) c.in-Ok-Some.field-0-is c.in-Ok-Some.ensures.tells in
    called _ _ _ _ _ _ _ (sym c.in-Some.ensures.value) c.in-Some-agent.is (StopperTold c.in-Ok-Some.stopper refl c.stopper_now.ensures.home told refl)

pub returns-in-Err : goal.returns-in-Err
returns-in-Err c =
    called _ _ _ _ _ _ _ (sym c.in-Some.ensures.value) c.in-Some-agent.is (refused (thread_no c.args.thread) c.args.number.now c.in-Some-agent.agent c.stopper_now.new.self c.in-Err.error c.number.result c.number.ensures c.in-Err.ensures.unchanged c.in-Err.ensures.refused)
