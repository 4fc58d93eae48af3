use Rattle.std.proofs.Common.{◌≡◌, List, [], ◌∷◌, ◌++◌, Option, Some, sym, ap, ◌∙◌, subst}
use Rattle.atomic_table.specs.Table.{opening}
use Rattle.ti_roster.specs.Log.{Log}
use Rattle.ti_types.specs.declared.limits.Limits.{Limits}
use Rattle.ti_roster.specs.View.{first_view}
use Rattle.ti_roster.specs.Rule.{RosterInvariant}
use Rattle.ti_roster.proofs.Steps.{opens}
use Rattle.ti_roster.proofs.roster_cell.RosterCell.make.Goals as goal

pub new-requires-2 : goal.new-requires-2
new-requires-2 c =
    let roster : Log = c.in_ok-roster.roster in
    let limits : Limits = c.args.limits in
    let is : c.push.new.self.items ≡ Some roster ∷ [] = c.in-Ok.ensures.items ∙ ap (λ (xs : List (Option Log)). xs ++ Some roster ∷ []) c.in_ok-slots.ensures.items in
    let empty = ap (λ (r : Log). r.items) c.in_ok-roster.ensures.new in
    let about = ap (λ (r : Log). r.limits) c.in_ok-roster.ensures.new in
    subst (λ (xs : List (Option Log)). RosterInvariant limits (opening (0 ∷ []) xs (first_view limits))) (sym is) (opens limits roster empty about)
