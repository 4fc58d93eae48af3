use Rattle.std.proofs.Common.{◌≡◌, suc, List, [], ◌∷◌, ◌++◌, Option, arith, sym, ap, ◌∙◌, subst}
use Rattle.atomic_table.specs.Table.{Me}
use Rattle.ti_types.specs.declared.entry.Entry.{Entry}
use Rattle.ti_slot.specs.Thread.{Thread, next_asked}
use Rattle.ti_slot.specs.declared.asked.Asked.TheVariants.{Answered}
use Rattle.ti_cell.specs.declared.view.View.{View}
use Rattle.ti_cell.specs.View.{holding, stored}
use Rattle.ti_cell.specs.Seats.{Sitting}
use Rattle.ti_cell.specs.Rule.{IsTaken}
use Rattle.ti_cell.proofs.Goes.{asked_more, may_ask}
use Rattle.ti_cell.proofs.cell.ThreadCell.ask_now.Goals.{After-slot_mut}
use Rattle.ti_cell.proofs.cell.ThreadCell.ask_now.Goals as goal

-- the slot that the seat took, as it is lent
taken : (c : After-slot_mut) → IsTaken c.args.seat.now.view c.slot_mut.result.now
taken c =
    let view : c.seat.inside.seat.me.0 ≡ c.args.seat.now.view = ap (λ (s : Sitting). s.view) c.seat.view_is in
    subst (λ (t : Thread). IsTaken c.args.seat.now.view t) (sym c.slot_mut.ensures.value) (subst (λ (v : View). IsTaken v c.in-Some.slot) view c.in-Some.ensures.taken)

-- the seat's view while it holds
holds : (c : After-slot_mut) → c.take_now.new.seat.me.0 ≡ holding c.args.seat.now.view c.slot_mut.result.now.history c.slot_mut.result.now.uncollected
holds c =
    let view : c.seat.inside.seat.me.0 ≡ c.args.seat.now.view = ap (λ (s : Sitting). s.view) c.seat.view_is in
    let lent = sym c.slot_mut.ensures.value in
    ap (λ (m : Me (Option Thread) View). m.0) c.in-Some.ensures.seat ∙ (λ i. holding (view i) (lent i).history (lent i).uncollected)

pub ask_at_once-answer-requires-clause-calls : goal.ask_at_once-answer-requires-clause-calls
ask_at_once-answer-requires-clause-calls c = may_ask c.args.seat.now.view c.slot_mut.result.now c.args.env (taken c) c.requires.number c.requires.calls

pub give-requires-clause-adds : goal.give-requires-clause-adds
give-requires-clause-adds c =
    let at = (goal.at.give-requires-clause-adds c).After-slot_mut in
    let t = c.slot_mut.result.now in
    let more = asked_more t c.ask_at_once-answer.new.self c.args.env c.args.call (Answered c.ask_at_once-answer.result) c.ask_at_once-answer.ensures.asked in
    let number : suc c.args.env.0 ≡ c.take_now.new.seat.me.0.number = omega (arith, c.requires.number, ap (λ (v : View). v.number) (holds at)) in
    let seen : t.history ≡ c.take_now.new.seat.me.0.seen = sym (ap (λ (v : View). v.seen) (holds at)) in
    (next_asked t c.args.env c.args.call ∷ [], more.0 ∙ ap (λ (l : List Entry). l ++ next_asked t c.args.env c.args.call ∷ []) seen, (number, tt))

pub returns-clause-asked : goal.returns-clause-asked
returns-clause-asked c =
    let at = (goal.at.returns-clause-asked c).After-slot_mut in
    let left = c.ask_at_once-answer.new.self in
    record {
      slot = c.slot_mut.result.now;
      left = left;
      taken = taken at;
      asked = c.ask_at_once-answer.ensures.asked;
      store = ap (λ (m : Me (Option Thread) View). m.0) c.give.ensures.seat.1 ∙ ap (λ (v : View). stored v left.history left.uncollected) (holds at);
    }
