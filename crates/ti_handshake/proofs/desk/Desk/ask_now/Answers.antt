use Rattle.std.proofs.Common.{[], ◌∷◌, Option, Some, None}
use Rattle.std.specs.Prelude.{IfSome}
use Rattle.ti_types.specs.declared.answer.Answer.{Answer}
use Rattle.ti_slot.specs.declared.asked.Asked.TheVariants.{Answered}
use Rattle.ti_cell.specs.Asking.{AsksAtOnce}
use Rattle.ti_handshake.specs.Call.{Holds, IsTold, next_call}
use Rattle.ti_handshake.proofs.Desks.{took_now, asks_now, told_now}
use Rattle.ti_handshake.proofs.desk.Desk.ask_now.Goals.{After-ask_now}
use Rattle.ti_handshake.proofs.desk.Desk.ask_now.Goals as goal

held : (c : After-ask_now) (r : Option Answer) → IfSome r (λ a. AsksAtOnce c.in-Some.seat.view c.ask_now.new.seat.view c.self.inside.env c.args.call a)
    → IfSome r (λ a. Holds c.args.self.now.view c.ask_now.new.seat.view (next_call c.args.self.now.view c.args.self.now.env c.args.call ∷ []))
held c None k = tt
held c (Some a) k =
    asks_now _ c.self.inside.cell c.self.inside.env c.in-Some.seat c.ask_now.new.seat.view c.args.call a k
    (took_now _ _ _ _ _ _ c.ask_now.new.seat.view c.args.call a c.self.invariant c.self.view_is c.in-Some.is k) c.ask_now.ensures.legal c.ask_now.ensures.mine

pub returns-clause-hold : goal.returns-clause-hold
returns-clause-hold c = held c c.ask_now.result c.ask_now.ensures.asked

told : (c : After-ask_now) (r : Option Answer) → IfSome r (λ a. AsksAtOnce c.in-Some.seat.view c.ask_now.new.seat.view c.self.inside.env c.args.call a)
    → IfSome r (λ a. IsTold c.args.self.now.view c.ask_now.new.seat.view c.args.self.now.env c.args.call (Answered a))
told c None k = tt
told c (Some a) k =
    told_now _ c.self.inside.cell c.self.inside.env c.in-Some.seat c.ask_now.new.seat.view c.args.call a k
    (took_now _ _ _ _ _ _ c.ask_now.new.seat.view c.args.call a c.self.invariant c.self.view_is c.in-Some.is k)

pub returns-clause-told : goal.returns-clause-told
returns-clause-told c = told c c.ask_now.result c.ask_now.ensures.asked
