use Rattle.std.proofs.Common.{◌≡◌, ◌++◌, ◌∷◌, [], arith, ap, ap₂, sym, ◌∙◌, subst, List}
use Rattle.ti_env.specs.Env.{EnvValue}
use Rattle.ti_replay.specs.Outcomes.{told_now, happening}
use Rattle.ti_core.specs.Thread.{ThreadState}
use Rattle.ti_core.specs.Core.{CoreState, core_of, core_next}
use Rattle.ti_core.specs.Refines.{Refines}
use Rattle.ti_core.proofs.NewLaws.{restored}
use Rattle.ti_core.proofs.ToldLaws.{stands_on}
use Rattle.ti_core.proofs.engine.Core.follow.Goals as goal

pub invariant_of-self : goal.invariant_of-self
invariant_of-self c =
    let k = c.self.invariant in
    let h = happening c.args.event (told_now c.step.result) in
    let i = c.self.inside in
    let s = core_of i.limits i.envs.items i.threads.items in
    let same : core_of i.limits c.deref_mut.result.now c.deref_mut-2.result.now ≡ s = ap₂ (λ (x : List EnvValue) (y : List ThreadState). core_of i.limits x y) c.deref_mut.ensures.value c.deref_mut-2.ensures.value in
    let q1 = restored i.envs.len i.envs.items c.step.new.envs (grind (arith, c.step.auto.envs, c.deref_mut.ensures.value)) (grind (arith, c.deref_mut.ensures.len, c.deref_mut.ensures.value)) in
    let q2 = restored i.threads.len i.threads.items c.step.new.threads (grind (arith, c.step.auto.threads, c.deref_mut-2.ensures.value)) (grind (arith, c.deref_mut-2.ensures.len, c.deref_mut-2.ensures.value)) in
    let e =
    ap (λ (z : CoreState). core_next z h) (sym same)
    ∙ ap₂ (λ (x : List EnvValue) (y : List ThreadState). core_of i.limits x y) (sym c.step.ensures.envs) (sym c.step.ensures.threads)
    ∙ ap₂ (λ (x : List EnvValue) (y : List ThreadState). core_of i.limits x y) (sym q1) (sym q2) in
    (k.0 ++ h ∷ [], subst (Refines (k.0 ++ h ∷ [])) e (stands_on k.0 s h k.1))
