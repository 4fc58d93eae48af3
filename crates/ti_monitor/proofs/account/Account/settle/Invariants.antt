use Rattle.std.proofs.Common.{◌≡◌, ℕ, ◌<◌, get_or, length}
use Rattle.ti_monitor.specs.Accounts.{LosesUpTo}
use Rattle.ti_monitor.specs.Counting.{frame}
use Rattle.ti_monitor.specs.Watching.{label_at}
use Rattle.ti_monitor.proofs.account.Account.settle.Given as goal

abbrev pub invariant-loop-place : goal.invariant-loop-place
invariant-loop-place l = record {
  loses : LosesUpTo l.fn.self l.self l.place (frame 0 0) (label_at l.watched l.kept);
  paid : (k : ℕ) → k < l.place → get_or l.self.owed.items k 0 ≡ 0;
  same : length l.self.owed.items ≡ length l.fn.self.owed.items;
  ticks : l.self.thread_ticks ≡ l.fn.self.thread_ticks;
}
