use Rattle.std.proofs.lemmas.Int.{to_z-of_z}
use Rattle.std.proofs.Common.{w32, to_z, of_z, ◌≡◌, ℤ, refl, ap, ◌∙◌, List, [], ◌∷◌, Option}
use Rattle.ti_types.specs.declared.entry.Entry.{Entry}
use Rattle.ti_types.specs.declared.entry.Entry.TheVariants as entry
use Rattle.ti_types.specs.declared.error.TiError.{TiError}
use Rattle.ti_types.specs.declared.event.Event.TheVariants as event
use Rattle.ti_replay.specs.Events.{stopping_refusal, if_none}
use Rattle.ti_replay.specs.View.{view}
use Rattle.ti_slot.specs.Thread.{Thread, with_more}
use Rattle.ti_handshake.proofs.Desks.{Took, took, may_call, Known, in_slot, stores_as, adds_held, keeps_all}
use Rattle.ti_handshake.proofs.desk.Desk.read_now.Goals.{After-slot-slot}
use Rattle.ti_handshake.proofs.desk.Desk.read_now.Goals as goal

abbrev why : (max_count : ℤ) → Known → Option TiError
why max_count x = stopping_refusal (view x.limits x.history) (event.Read x.env x.thread max_count)

abbrev adds : (max_count : ℤ) → Known → List Entry
adds max_count x = if_none (why max_count x) (entry.Read x.env max_count ∷ [])

-- the slot that the desk took
taken : (c : After-slot-slot) → Took c.args.self.now c.self.inside.env c.in-Some.seat c.in-Ok.hold c.slot-slot.result.now
taken c = took _ _ _ _ _ _ _ c.in-Ok.hold _ c.self.invariant c.self.view_is c.in-Some.is c.take.ensures.value c.in-Ok.ensures.view c.in-Ok.ensures.taken c.slot-slot.ensures.value

pub read-said-requires-clause-calls : goal.read-said-requires-clause-calls
read-said-requires-clause-calls c =
    let k = taken (goal.at.read-said-requires-clause-calls c).After-slot-slot in
    may_call _ _ _ _ _ k c.requires.calls

pub store_quietly-requires-clause-adds : goal.store_quietly-requires-clause-adds
store_quietly-requires-clause-adds c =
    let k = taken (goal.at.store_quietly-requires-clause-adds c).After-slot-slot in
    adds_held _ _ _ _ _ _ _ _ k refl c.read-said.ensures.thread

pub store_quietly-requires-clause-keeps : goal.store_quietly-requires-clause-keeps
store_quietly-requires-clause-keeps c =
    let k = taken (goal.at.store_quietly-requires-clause-keeps c).After-slot-slot in
    keeps_all _ _ _ _ c.slot-slot.result.now c.read-said.new.self k (ap (λ (t : Thread). t.uncollected) c.read-said.ensures.thread)

pub returns-in-Ok-clause-hold : goal.returns-in-Ok-clause-hold
returns-in-Ok-clause-hold c =
    let k = taken (goal.at.returns-in-Ok-clause-hold c).After-slot-slot in
    let z : to_z w32 (of_z w32 c.args.max_count) ≡ c.args.max_count = to_z-of_z w32 c.args.max_count c.ranges.max_count in
    let longer : c.read-said.new.self ≡ with_more c.slot-slot.result.now (adds c.args.max_count (in_slot c.slot-slot.result.now c.self.inside.env)) =
    c.read-said.ensures.thread ∙ ap (λ (m : ℤ). with_more c.slot-slot.result.now (adds m (in_slot c.slot-slot.result.now c.self.inside.env))) z in
    stores_as (adds c.args.max_count) _ _ _ _ _ c.read-said.new.self _ k c.store_quietly.ensures.view longer c.store_quietly.ensures.legal c.store_quietly.ensures.mine
