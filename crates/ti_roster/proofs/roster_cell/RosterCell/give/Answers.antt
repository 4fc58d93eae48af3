use Rattle.std.proofs.Common.{rules, ◌≡◌, ℕ, List, false, [], ◌∷◌, Option, Some, sym, ap, ◌∙◌, subst}
use Rattle.atomic_table.specs.Table.{Me, rest}
use Rattle.ti_roster.specs.Log.{Log}
use Rattle.ti_roster.specs.declared.view.RosterView.{RosterView}
use Rattle.ti_roster.specs.Rule.{MayStore}
use Rattle.ti_roster.specs.Word.{word_at, word_of}
use Rattle.ti_roster.proofs.Steps.{frees_keep}
use Rattle.ti_roster.proofs.roster_cell.RosterCell.give.Goals as goal

pub store-requires : goal.store-requires
store-requires c =
    let m = c.exchange.ensures.3 in
    let v : c.exchange.new.seat.me.0 ≡ c.args.seat.now.me.0 = ap (λ (x : Me (Option Log) RosterView). x.0) m in
    let out : c.exchange.new.seat.me.1 ≡ (0, Some c.args.roster) ∷ [] =
    ap (λ (x : Me (Option Log) RosterView). x.1) m ∙ ap (λ (x : List (ℕ × Option Log)). (0, Some c.args.roster) ∷ rest x) c.requires.seat.1 in
    let now : c.free-word.result.bits ≡ word_of false c.args.roster.items = c.free-word.ensures.bits ∙ ap (λ (n : ℕ). word_at n false) c.len.ensures.len in (
      search rules,
      search rules,
      frees_keep _ _ _ _ _ c.args.roster (ap (λ (x : RosterView). x.holds) v ∙ c.requires.seat.2) out (subst (λ (x : RosterView). MayStore c.args.roster x) (sym v) c.requires.may) now,
    )
