use Rattle.std.proofs.Common.{◌<◌, ◌≤◌, List, length, ap, subst, sym, ◌∙◌}
use Rattle.ti_debugger.specs.declared.halted.Halted.{Halted}
use Rattle.ti_debugger.specs.Stopping.{once_let_go}
use Rattle.ti_debugger.proofs.StopLaws.{all_written, become_more}
use Rattle.ti_debugger.proofs.halted.Stops.let_go.Goals as goal

pub loop-halted-preserved : goal.loop-halted-preserved
loop-halted-preserved c =
    let within = subst (λ (l : List Halted). c.loop-halted.halted-index < length l) c.deref_mut-halted-items.ensures.value c.loop-halted-test.true in
    become_more (once_let_go c.args.thread) c.loop-halted.halted-index c.args.self.now.halted.items c.loop-halted.halted-items _ c.once_let_go.result c.loop-halted.invariant within c.once_let_go.ensures

pub returns-clause-halted : goal.returns-clause-halted
returns-clause-halted c =
    let value = c.deref_mut-halted-items.ensures.value in
    let over = subst (λ (l : List Halted). length l ≤ c.loop-halted.halted-index) value c.loop-halted-test.false in
    let same = c.loop-halted.auto.halted-items ∙ ap (λ (l : List Halted). length l) value in
    let long = sym c.deref_mut-halted-items.ensures.len ∙ ap (λ (l : List Halted). length l) value in
    all_written (once_let_go c.args.thread) c.loop-halted.halted-index c.args.self.now.halted.len c.args.self.now.halted.items c.loop-halted.halted-items c.loop-halted.invariant over same long
