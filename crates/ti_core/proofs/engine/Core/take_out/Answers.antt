use Rattle.std.proofs.Common.{ap, sym, subst, ◌∙◌, arith, List, is_some}
use Rattle.ti_core.specs.Thread.{ThreadState}
use Rattle.ti_core.specs.Core.{core_of, core_taken}
use Rattle.ti_core.specs.Refines.{Refines}
use Rattle.ti_core.proofs.NewLaws.{restored}
use Rattle.ti_core.proofs.ToldLaws.{take_stands}
use Rattle.ti_core.proofs.engine.Core.take_out.Goals as goal

pub invariant_of-self : goal.invariant_of-self
invariant_of-self c =
    let k = c.self.invariant in
    let i = c.self.inside in
    let s = core_of i.limits i.envs.items i.threads.items in
    let q = restored i.threads.len i.threads.items c.take_at.new.threads (grind (arith, c.take_at.auto.threads, c.deref_mut.ensures.value)) (grind (arith, c.deref_mut.ensures.len, c.deref_mut.ensures.value)) in
    let e =
    ap (λ (ts : List ThreadState). core_taken (core_of i.limits i.envs.items ts) c.args.ticket (is_some c.take_at.result)) (sym c.deref_mut.ensures.value)
    ∙ ap (λ (ts : List ThreadState). core_of i.limits i.envs.items ts) (sym c.take_at.ensures.next ∙ sym q) in
    (k.0, subst (Refines k.0) e (take_stands k.0 s c.args.ticket (is_some c.take_at.result) k.1))
