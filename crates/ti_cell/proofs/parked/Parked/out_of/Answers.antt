use Rattle.std.proofs.Common.{◌≡◌, ℕ, ◌≤◌, ◌∙◌, sym, ap, subst, length, List, arith}
use Rattle.ti_types.specs.declared.event.Ticket.{Ticket}
use Rattle.ti_types.specs.declared.numbers.EnvNo.{EnvNo}
use Rattle.ti_replay.specs.Makers.{made_by}
use Rattle.ti_slot.specs.Thread.{Thread}
use Rattle.ti_slot.specs.Tickets.{held_by}
use Rattle.ti_cell.specs.View.{tickets_of}
use Rattle.ti_cell.proofs.Tickets.{out_of_env, none_of_owner, few_of}
use Rattle.ti_cell.proofs.parked.Parked.out_of.Goals as goal

pub returns-in-Some-clause-out : goal.returns-in-Some-clause-out
returns-in-Some-clause-out c =
    let env : EnvNo = record { 0 = c.in-Some.env } in
    let number = c.in-Some.ensures in
    c.out.ensures ∙ ap (λ (z : Thread). held_by env z.uncollected) c.slot-slot.ensures
    ∙ sym (out_of_env c.args.number env (omega (arith, number.0, number.1)) c.args.self.now.uncollected)

pub returns-in-Some-clause-few : goal.returns-in-Some-clause-few
returns-in-Some-clause-few c =
    subst (λ (z : Thread). length (tickets_of c.args.number z.uncollected) ≤ length (made_by c.args.number z.history)) c.slot-slot.ensures (few_of c.args.number c.slot-slot.result.now c.tickets.ensures.few)

pub returns-in-None-clause-out : goal.returns-in-None-clause-out
returns-in-None-clause-out c =
    let tickets = c.args.self.now.uncollected in
    let owner : c.args.number ≡ 0 = omega (arith, c.in-None.ensures) in
    sym (ap (λ (l : List Ticket). length l) (ap (λ (n : ℕ). tickets_of n tickets) owner ∙ none_of_owner tickets))

pub returns-in-None-clause-few : goal.returns-in-None-clause-few
returns-in-None-clause-few c =
    subst (λ (z : Thread). length (tickets_of c.args.number z.uncollected) ≤ length (made_by c.args.number z.history)) c.slot-slot.ensures (few_of c.args.number c.slot-slot.result.now c.tickets.ensures.few)
