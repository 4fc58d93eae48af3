use Rattle.std.proofs.Common.{◌++◌, List, take, drop, sym, ap, ◌∙◌}
use Rattle.ti_stops.specs.declared.lists.Waiting.{Waiting}
use Rattle.ti_stops.specs.Lists.{next_told}
use Rattle.ti_stops.proofs.Telling.{tells_here}
use Rattle.ti_stops.proofs.lists.tell_next.Goals as goal

pub returns-then-is_untold-clause-list : goal.returns-then-is_untold-clause-list
returns-then-is_untold-clause-list c =
    tells_here c.args.env c.loop-i.waiting c.loop-i.i _ (rw c.loop-i.invariant.same c.loop-i-test.true) (sym c.is_untold.ensures ∙ c.if-is_untold.true)
    ∙ ap (λ (l : List Waiting). take c.loop-i.i l ++ next_told c.args.env (drop c.loop-i.i l)) c.loop-i.invariant.same
    ∙ c.loop-i.invariant.list
