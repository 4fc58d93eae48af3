use Rattle.std.proofs.Common.{inl, inr, refl}
use Rattle.ti_monitor.proofs.asking.ask.Goals as goal

pub returns-then-watched-clause-tells : goal.returns-then-watched-clause-tells
returns-then-watched-clause-tells c = inl (c.if-watched.true, refl, refl, refl)

pub returns-clause-tells : goal.returns-clause-tells
returns-clause-tells c = inr (c.ask_stack-told.new.agent, c.ask_stack-told.new.watched, c.ask_stack-told.result, c.ask_stack-told.ensures.asks, c.see_after.ensures.sees)
