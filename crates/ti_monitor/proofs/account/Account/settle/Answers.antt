use Rattle.std.proofs.Common.{◌≡◌, ◌≤◌, arith, rules, length, length-set, ap, ◌∙◌}
use Rattle.std.specs.Prelude.{sum}
use Rattle.ti_monitor.specs.Counting.{frame}
use Rattle.ti_monitor.specs.Watching.{label_at}
use Rattle.ti_monitor.proofs.AccountLaws.{settles_more}
use Rattle.ti_monitor.proofs.Sums.{paid_more, sum_none}
use Rattle.ti_monitor.proofs.account.Account.settle.Goals as goal

pub loop-place-preserved : goal.loop-place-preserved
loop-place-preserved c =
    let old = c.loop-place.self in
    let here = rw (c.bare.ensures, c.label_at.ensures) at c.lose.ensures.loses in
    record {
      loses = settles_more c.args.self.now old c.lose.new.self c.loop-place.place (frame 0 0) (label_at c.args.watched.now c.args.kept) c.loop-place.invariant.loses here;
      paid = λ k h. rw c.lose.ensures.loses.1.0 (paid_more old.owed.items c.loop-place.place c.loop-place.invariant.paid k h);
      same = ap length c.lose.ensures.loses.1.0 ∙ length-set old.owed.items c.loop-place.place 0 ∙ c.loop-place.invariant.same;
      ticks = c.lose.ensures.loses.1.1 ∙ c.loop-place.invariant.ticks;
    }

pub returns-clause-all : goal.returns-clause-all
returns-clause-all c =
    let a = c.loop-place.self in
    let end : length a.owed.items ≤ c.loop-place.place = let same = c.loop-place.invariant.same in search rules in
    let none : sum a.owed.items ≡ 0 = sum_none a.owed.items (λ k h. c.loop-place.invariant.paid k (omega arith)) in
    omega (arith, a.balance, none)
