use Rattle.std.proofs.Common.{◌≡◌, ◌++◌, ◌∷◌, [], ap, sym, subst, ◌∙◌, ◌+◌}
use Rattle.ti_core.specs.Thread.{ThreadState, new_state}
use Rattle.ti_core.specs.Refines.{AreNew}
use Rattle.ti_core.proofs.NewLaws.{one_more_new}
use Rattle.ti_core.proofs.engine.new_threads.Goals as goal

pub loop-number-preserved : goal.loop-number-preserved
loop-number-preserved c =
    let old = c.loop-number.threads.items in
    let n = c.loop-number.number in
    let e : old ++ new_state c.args.limits (record { 0 = n }) ∷ [] ≡ c.push.new.self.items = ap (λ (t : ThreadState). old ++ t ∷ []) (sym c.in_ok-thread.ensures.new) ∙ sym c.in-Ok.ensures.items in
    subst (AreNew c.args.limits (n + 1)) e (one_more_new c.args.limits n old c.loop-number.invariant)
