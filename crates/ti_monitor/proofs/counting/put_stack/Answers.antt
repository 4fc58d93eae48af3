use Rattle.std.proofs.Common.{arith}
use Rattle.ti_monitor.proofs.counting.put_stack.Goals as goal

pub returns-then-owed-gt1-clause-put : goal.returns-then-owed-gt1-clause-put
returns-then-owed-gt1-clause-put c =
    let first = rw c.frames.ensures at c.put.ensures.put in
    let second = rw c.late.ensures at c.put-then-owed-gt1.ensures.put in
    (λ e. absurd (omega arith), λ e. absurd (omega arith), λ h. (c.put.new.counts, first, second))
