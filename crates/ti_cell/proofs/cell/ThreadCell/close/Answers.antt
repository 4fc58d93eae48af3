use Rattle.std.proofs.Common.{◌≡◌, sym, ap, subst, ◌∙◌}
use Rattle.ti_cell.specs.declared.view.View.{View}
use Rattle.ti_cell.specs.Rule.{Ends}
use Rattle.ti_cell.specs.Seats.{Sitting}
use Rattle.ti_cell.proofs.Ends.{ends, end_seen, end_mine, end_about, end_users, end_whole, end_last}
use Rattle.ti_cell.proofs.cell.ThreadCell.close.Goals as goal

pub returns-clause-ends : goal.returns-clause-ends
returns-clause-ends c =
    let same : c.seat.inside.seat.me.0 ≡ c.args.seat.view = ap (λ (x : Sitting). x.view) c.seat.view_is in
    subst (λ (v : View). Ends v c.unlocked.result) same (ends _ _ _ _ _ _ c.seat.invariant.2 (_, _, c.close_with-closed.ensures.values.2, c.word.ensures, c.take-slot.ensures.value) (λ e. c.unlocked.ensures.clear e ∙ c.unpark.ensures) c.unlocked.ensures.locked)

pub returns-clause-seen : goal.returns-clause-seen
returns-clause-seen c = end_seen _ _ (sym (ap (λ (x : Sitting). x.view.gone) c.seat.view_is) ∙ c.seat.invariant.2) (returns-clause-ends c)

pub returns-clause-mine : goal.returns-clause-mine
returns-clause-mine c = end_mine _ _ (sym (ap (λ (x : Sitting). x.view.gone) c.seat.view_is) ∙ c.seat.invariant.2) (returns-clause-ends c)

pub returns-clause-users : goal.returns-clause-users
returns-clause-users c = end_users _ _ (sym (ap (λ (x : Sitting). x.view.gone) c.seat.view_is) ∙ c.seat.invariant.2) (returns-clause-ends c)

pub returns-clause-whole : goal.returns-clause-whole
returns-clause-whole c alone = end_whole _ _ (sym (ap (λ (x : Sitting). x.view.gone) c.seat.view_is) ∙ c.seat.invariant.2) (sym (ap (λ (x : Sitting). x.view.holds) c.seat.view_is) ∙ c.seat.invariant.1) alone (returns-clause-ends c)

pub returns-clause-last : goal.returns-clause-last
returns-clause-last c alone = end_last _ _ (sym (ap (λ (x : Sitting). x.view.gone) c.seat.view_is) ∙ c.seat.invariant.2) alone (returns-clause-ends c)

pub returns-clause-about : goal.returns-clause-about
returns-clause-about c = end_about _ _ (returns-clause-ends c)
