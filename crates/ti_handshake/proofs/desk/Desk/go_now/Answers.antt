use Rattle.std.proofs.Common.{◌≡◌, refl, ap, List, [], ◌∷◌, Option}
use Rattle.ti_types.specs.Answer.{said}
use Rattle.ti_types.specs.declared.entry.Entry.{Entry}
use Rattle.ti_types.specs.declared.entry.Entry.TheVariants as entry
use Rattle.ti_types.specs.declared.error.TiError.{TiError}
use Rattle.ti_types.specs.declared.event.Event.TheVariants as event
use Rattle.ti_replay.specs.Events.{stopping_refusal, if_none}
use Rattle.ti_replay.specs.View.{view}
use Rattle.ti_slot.specs.Thread.{Thread, done_or}
use Rattle.ti_handshake.proofs.Desks.{Took, took, Known, stores_as, adds_held, answers_as, keeps_all}
use Rattle.ti_handshake.proofs.desk.Desk.go_now.Goals.{After-slot-slot}
use Rattle.ti_handshake.proofs.desk.Desk.go_now.Goals as goal

abbrev why : Known → Option TiError
why x = stopping_refusal (view x.limits x.history) (event.Go x.env x.thread)

abbrev adds : Known → List Entry
adds x = if_none (why x) (entry.Go x.env ∷ [])

-- the slot that the desk took
taken : (c : After-slot-slot) → Took c.args.self.now c.self.inside.env c.in-Some.seat c.in-Ok.hold c.slot-slot.result.now
taken c = took _ _ _ _ _ _ _ c.in-Ok.hold _ c.self.invariant c.self.view_is c.in-Some.is c.take.ensures.value c.in-Ok.ensures.view c.in-Ok.ensures.taken c.slot-slot.ensures.value

pub store_quietly-requires-clause-adds : goal.store_quietly-requires-clause-adds
store_quietly-requires-clause-adds c =
    let k = taken (goal.at.store_quietly-requires-clause-adds c).After-slot-slot in
    adds_held _ _ _ _ _ _ _ _ k refl c.go-said.ensures.thread

pub store_quietly-requires-clause-keeps : goal.store_quietly-requires-clause-keeps
store_quietly-requires-clause-keeps c =
    let k = taken (goal.at.store_quietly-requires-clause-keeps c).After-slot-slot in
    keeps_all _ _ _ _ c.slot-slot.result.now c.go-said.new.self k (ap (λ (t : Thread). t.uncollected) c.go-said.ensures.thread)

pub returns-in-Ok-clause-hold : goal.returns-in-Ok-clause-hold
returns-in-Ok-clause-hold c =
    let k = taken (goal.at.returns-in-Ok-clause-hold c).After-slot-slot in
    stores_as adds _ _ _ _ _ c.go-said.new.self _ k c.store_quietly.ensures.view c.go-said.ensures.thread c.store_quietly.ensures.legal c.store_quietly.ensures.mine

pub returns-in-Ok-clause-answer : goal.returns-in-Ok-clause-answer
returns-in-Ok-clause-answer c =
    let k = taken (goal.at.returns-in-Ok-clause-answer c).After-slot-slot in
    answers_as (λ x. said c.go-said.result ≡ done_or (why x)) _ _ _ _ _ c.go-said.new.self _ _ k c.store_quietly.ensures.view c.go-said.ensures.thread c.go-said.ensures.answer
