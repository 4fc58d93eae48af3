use Rattle.std.proofs.Common.{rules, ◌≡◌, ℕ, List, ◌∷◌, Option, Some, sym, ap, ◌∙◌}
use Rattle.atomic_table.specs.Table.{Me, rest}
use Rattle.ti_roster.specs.Log.{Log}
use Rattle.ti_roster.specs.declared.view.RosterView.{RosterView}
use Rattle.ti_roster.proofs.Steps.{locks_keep}
use Rattle.ti_roster.proofs.roster_cell.RosterCell.take_now.Goals as goal

pub compare_exchange-found-requires : goal.compare_exchange-found-requires
compare_exchange-found-requires g = (search rules, search rules, locks_keep _ _ _ _ _ _ (search rules) (search rules))

pub exchange-requires : goal.exchange-requires
exchange-requires g =
    let h = g.compare_exchange-found.ensures.2.0 g.if-found-word.false in
    let e : g.compare_exchange-found.new.seat.me.1 ≡ (0, Some h.0) ∷ g.args.seat.now.me.1 = ap (λ (x : Me (Option Log) RosterView). x.1) h.1 in
    (search rules, (Some h.0, e ∙ ap (λ (x : List (ℕ × Option Log)). (0, Some h.0) ∷ rest x) (sym e)))
