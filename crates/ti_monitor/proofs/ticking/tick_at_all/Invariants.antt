use Rattle.ti_monitor.specs.Accounts.{IsUncounted}
use Rattle.ti_monitor.specs.Ticking.{OwesBelow}
use Rattle.ti_monitor.proofs.ticking.tick_at_all.Given as goal

abbrev pub invariant-loop-place : goal.invariant-loop-place
invariant-loop-place l = record {
  owes : OwesBelow l.place l.watched l.fn.account l.account;
  uncounted : IsUncounted l.fn.account l.account;
}
