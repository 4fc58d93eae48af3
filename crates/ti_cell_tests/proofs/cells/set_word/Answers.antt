use Rattle.std.proofs.Common.{◌≡◌, ℕ, ◌+◌, List, [], ◌∷◌, ◌++◌, arith, ap, sym, subst, ◌∙◌}
use Rattle.ti_types.specs.declared.event.Ticket.{Ticket}
use Rattle.ti_types.specs.declared.call.Call.TheVariants.{SetWord}
use Rattle.ti_types.specs.declared.entry.Entry.{Entry}
use Rattle.ti_types.specs.declared.entry.Entry.TheVariants.{Asked}
use Rattle.ti_replay.specs.Legal.{calls_spent, asked_by}
use Rattle.ti_slot.specs.Thread.{Thread, next_asked}
use Rattle.ti_cell.specs.declared.view.Subject.{Subject}
use Rattle.ti_cell.specs.declared.view.View.{View}
use Rattle.ti_cell.specs.View.{stored, tickets_but}
use Rattle.ti_cell.proofs.Calls.{asked_keeps}
use Rattle.ti_cell.proofs.Goes.{mine_grows, asked_more, asked_is, may_ask, spent_more}
use Rattle.ti_cell_tests.proofs.cells.set_word.Goals as goal

pub ask-asked-requires-clause-calls : goal.ask-asked-requires-clause-calls
ask-asked-requires-clause-calls g c =
    let r = c.requires.ready in
    let left = r.left in
    let v : c.slot-slot.result.now ≡ c.hold-hold.result.slot = c.slot-slot.ensures.value in
    let may = may_ask c.args.seat.view c.hold-hold.result.slot c.args.env c.hold-hold.ensures.taken r.number (omega arith) in
    rw v may

pub returns-clause-told : goal.returns-clause-told
returns-clause-told g c =
    let v : c.slot-slot.result.now ≡ c.hold-hold.result.slot = c.slot-slot.ensures.value in
    let more = asked_more _ _ _ _ _ c.ask-asked.ensures.asked in
    let call : Entry = next_asked c.hold-hold.result.slot c.args.env (SetWord c.args.word) in
    let longer : c.ask-asked.new.self.history ≡ c.hold-hold.result.slot.history ++ call ∷ [] = more.0 ∙ ap (λ (t : Thread). t.history ++ next_asked t c.args.env (SetWord c.args.word) ∷ []) v in
    let next : call ≡ Asked c.args.env (asked_by c.args.env c.args.seat.view.mine) (SetWord c.args.word) =
    ap (λ (n : ℕ). Asked c.args.env n (SetWord c.args.word)) (asked_is c.args.seat.view c.hold-hold.result.slot c.args.env c.hold-hold.ensures.taken c.requires.ready.number) in
    mine_grows c.args.seat.view _ _ c.hold-hold.result.slot _ (call ∷ []) _ c.hold-hold.ensures.view longer c.store.ensures.view ∙ ap (λ (e : Entry). c.args.seat.view.mine ++ e ∷ []) next

pub returns-clause-ready : goal.returns-clause-ready
returns-clause-ready g c left ready =
    let spent : calls_spent c.args.env c.store.result.view.mine ≡ calls_spent c.args.env c.args.seat.view.mine + 1 = ap (calls_spent c.args.env) (returns-clause-told g c) ∙ spent_more c.args.env c.args.seat.view.mine _ _ in
    let view : c.store.result.view ≡ stored c.hold-hold.result.view c.ask-asked.new.self.history c.ask-asked.new.self.uncollected = c.store.ensures.view in
    let same : c.store.result.view.subject ≡ c.args.seat.view.subject = ap (λ (w : View). w.subject) view ∙ ap (λ (w : View). w.subject) c.hold-hold.ensures.view in
    let number : c.store.result.view.number ≡ c.args.seat.view.number = ap (λ (w : View). w.number) view ∙ ap (λ (w : View). w.number) c.hold-hold.ensures.view in
    let limits : c.store.result.view.subject.limits.envs ≡ c.args.seat.view.subject.limits.envs = ap (λ (s : Subject). s.limits.envs) same in
    let calls : c.store.result.view.subject.limits.calls ≡ c.args.seat.view.subject.limits.calls = ap (λ (s : Subject). s.limits.calls) same in
    let room = ready.left in
    let there = ready.there in record {
      here = c.store.ensures.cell ∙ c.hold-hold.ensures.cell;
      number = number ∙ ready.number;
      there = omega (arith, limits, there);
      left = omega (arith, calls, spent, room);
    }

pub store-requires-clause-keeps : goal.store-requires-clause-keeps
store-requires-clause-keeps g c =
    let v : c.slot-slot.result.now ≡ c.hold-hold.result.slot = c.slot-slot.ensures.value in
    let number : c.hold-hold.result.view.number ≡ c.args.env.0 + 1 = ap (λ (w : View). w.number) c.hold-hold.ensures.view ∙ c.requires.ready.number in
    let found : c.hold-hold.result.view.found ≡ c.hold-hold.result.slot.uncollected = ap (λ (w : View). w.found) c.hold-hold.ensures.view in
    subst (λ (x : ℕ × List Ticket). tickets_but x.0 c.ask-asked.new.self.uncollected ≡ tickets_but x.0 x.1)
    (λ i. (sym number i, (ap (λ (t : Thread). t.uncollected) v ∙ sym found) i)) (asked_keeps _ _ _ _ _ c.ask-asked.ensures.asked)
