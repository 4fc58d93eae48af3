use Rattle.std.proofs.Common.{sym, ◌∙◌, subst, Option}
use Rattle.std.specs.Prelude.{OnOk}
use Rattle.ti_roster.specs.declared.life_event.LifeKind.{LifeKind}
use Rattle.ti_service.specs.Memberships.{state_of}
use Rattle.ti_service.specs.Telling.{EnablesBy}
use Rattle.ti_service.proofs.agent_events.enable_now.Goals as goal

pub returns-in-Some-clause-enables : goal.returns-in-Some-clause-enables
returns-in-Some-clause-enables c =
    let e = c.enable_life_now in
    subst (λ (k : Option LifeKind). OnOk e.result (EnablesBy k (state_of c.args.agent.now) (state_of e.new.agent))) (sym c.in-Some.is ∙ c.life.ensures) e.ensures.enables

pub returns-in-None-clause-enables : goal.returns-in-None-clause-enables
returns-in-None-clause-enables c =
    let e = c.enable_classes in
    subst (λ (k : Option LifeKind). EnablesBy k (state_of c.args.agent.now) (state_of e.new.agent)) (sym c.in-None.is ∙ c.life.ensures) e.ensures.enables
