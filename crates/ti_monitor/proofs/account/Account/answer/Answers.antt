use Rattle.std.proofs.Common.{refl, arith}
use Rattle.ti_monitor.proofs.account.Account.answer.Goals as goal

pub returns-clause-answers : goal.returns-clause-answers
returns-clause-answers c =
    let owed = c.take_at-owed.ensures.taken in
    let put = rw owed at c.put_stack.ensures.put in
    (put, (c.take_at-owed.ensures.left, refl), omega (arith, owed), omega (arith, owed), refl)
