use Rattle.std.proofs.Common.{[], ◌∷◌, List, subst}
use Rattle.ti_types.specs.declared.entry.Entry.{Entry}
use Rattle.ti_types.specs.declared.entry.Entry.TheVariants as entry
use Rattle.ti_types.specs.declared.event.Event.TheVariants as event
use Rattle.ti_types.specs.declared.numbers.EnvNo.{EnvNo}
use Rattle.ti_replay.specs.Events.{stopping_refusal, if_none}
use Rattle.ti_replay.specs.View.{view}
use Rattle.ti_cell.specs.declared.view.Subject.{Subject}
use Rattle.ti_handshake.specs.Call.{Waits}
use Rattle.ti_handshake.proofs.Holding.{waits_then, found_then}
use Rattle.ti_handshake.proofs.desk.Desk.stop.Goals as goal

pub returns-in-Some-stop_unless_others-clause-hold : goal.returns-in-Some-stop_unless_others-clause-hold
returns-in-Some-stop_unless_others-clause-hold g c =
    let waited = c.loop.invariant.1 in
    let there = found_then c.args.self.now.view c.loop.self.view c.stop_unless_others.new.self.view waited in
    subst (λ (x : Subject × (List Entry × EnvNo)). Waits c.args.self.now.view c.stop_unless_others.new.self.view (if_none (stopping_refusal (view x.0.limits x.1.0) (event.Stop x.1.1 x.0.thread)) (entry.Stop x.1.1 ∷ [])))
    (λ i. (waited.goes.subject i, (there i, c.loop.invariant.0.env i)))
    (waits_then _ _ _ _ waited c.in-Some-stop_unless_others.ensures.hold.waits)
