use Rattle.std.proofs.Common.{◌≡◌, ◌-◌, List, [], ◌∷◌, ◌++◌, length, length-append, map, ap, sym, ◌∙◌, subst, arith}
use Rattle.std.specs.Prelude.{All}
use Rattle.std.specs.Vec.Iter.{into_iter_items}
use Rattle.std.proofs.lemmas.List.{append_assoc}
use Rattle.std.proofs.lemmas.List.Elements.{All-head, All-tail}
use Rattle.ti_cell.specs.Seats.{Sitting}
use Rattle.ti_handshake.specs.Desk.{DeskState}
use Rattle.ti_handshake.specs.NewDesks.{IsSeatAt, desk_at}
use Rattle.ti_handshake.proofs.shared_cell.desks_of.Goals as goal

pub loop-seat-preserved : goal.loop-seat-preserved
loop-seat-preserved c =
    let at = c.loop-seat in
    let seat : Sitting = c.in-Some.seat in
    let rest : List Sitting = into_iter_items c.next.new.self in
    let steps : into_iter_items at.seat-iterator ≡ seat ∷ rest = c.in-Some.ensures.steps.0 in
    let all : All (IsSeatAt c.args.cell.now) (seat ∷ rest) = subst (λ (l : List Sitting). All (IsSeatAt c.args.cell.now) l) steps at.invariant.2 in
    let mine : IsSeatAt c.args.cell.now seat = All-head (IsSeatAt c.args.cell.now) seat rest all in
    let desk : DeskState = c.new.result in
    let cell : desk.cell ≡ seat.cell = c.new.ensures.cell ∙ (c.in_ok-cell.ensures.cell ∙ sym mine) in
    let number : desk.env.0 ≡ seat.view.number - 1 = omega (arith, c.new.ensures.env) in
    let is : desk ≡ desk_at seat = (λ j. record { cell = cell j; env = record { 0 = number j }; view = c.new.ensures.view j; cancelled = c.new.ensures.none.0 j; former = c.new.ensures.none.1 j }) in
    let items : c.push_reserved.new.self.items ≡ at.desks.items ++ desk_at seat ∷ [] = c.push_reserved.ensures.items ∙ ap (λ (d : DeskState). at.desks.items ++ d ∷ []) is in
    let count = ap (λ (l : List Sitting). length l) steps in
    let longer = ap (λ (l : List DeskState). length l) items ∙ length-append at.desks.items (desk_at seat ∷ []) in (
      ap (λ (l : List DeskState). l ++ map desk_at rest) items
          ∙ (append_assoc at.desks.items (desk_at seat ∷ []) (map desk_at rest)
          ∙ (ap (λ (l : List Sitting). at.desks.items ++ map desk_at l) (sym steps) ∙ at.invariant.0)),
      omega (arith, at.invariant.1, count, longer, c.push_reserved.ensures.capacity),
      All-tail (IsSeatAt c.args.cell.now) seat rest all,
    )
