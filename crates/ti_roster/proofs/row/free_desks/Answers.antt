use Rattle.std.proofs.Common.{◌≡◌, List, [], ◌∷◌, ◌++◌, length, length-append, map, Option, Some, ap, sym, ◌∙◌, subst, arith}
use Rattle.std.specs.Prelude.{All}
use Rattle.std.specs.Vec.Iter.{into_iter_items}
use Rattle.std.proofs.lemmas.List.{append_assoc}
use Rattle.std.proofs.lemmas.List.Elements.{All-tail}
use Rattle.ti_agent.specs.FreeDesk.{FreeState}
use Rattle.ti_handshake.specs.Desk.{DeskState}
use Rattle.ti_roster.specs.Rows.{IsUnused, free_at}
use Rattle.ti_roster.proofs.row.free_desks.Goals as goal

abbrev a_desk : DeskState → Option FreeState
a_desk d = Some (free_at d)

pub loop-desk-preserved : goal.loop-desk-preserved
loop-desk-preserved c =
    let at = c.loop-desk in
    let desk : DeskState = c.in-Some.desk in
    let rest : List DeskState = into_iter_items c.next.new.self in
    let steps : into_iter_items at.desk-iterator ≡ desk ∷ rest = c.in-Some.ensures.steps.0 in
    let all : All IsUnused (desk ∷ rest) = subst (λ (l : List DeskState). All IsUnused l) steps at.invariant.2 in
    let items : c.push_reserved.new.self.items ≡ at.free.items ++ a_desk desk ∷ [] = c.push_reserved.ensures.items ∙ ap (λ (f : FreeState). at.free.items ++ Some f ∷ []) c.in-Ok.ensures.made in
    let count = ap (λ (l : List DeskState). length l) steps in
    let longer = ap (λ (l : List (Option FreeState)). length l) items ∙ length-append at.free.items (a_desk desk ∷ []) in (
      ap (λ (l : List (Option FreeState)). l ++ map a_desk rest) items
          ∙ (append_assoc at.free.items (a_desk desk ∷ []) (map a_desk rest)
          ∙ (ap (λ (l : List DeskState). at.free.items ++ map a_desk l) (sym steps) ∙ at.invariant.0)),
      omega (arith, at.invariant.1, count, longer, c.push_reserved.ensures.capacity),
      All-tail IsUnused desk rest all,
    )
