-- How an account is settled.
use Rattle.std.proofs.Common.{ℕ, ◌+◌, add-one}
use Rattle.ti_pprof.specs.declared.stacks.Frame.{Frame}
use Rattle.ti_monitor.specs.declared.account.Account.{Account}
use Rattle.ti_monitor.specs.declared.label.Label.{Label}
use Rattle.ti_monitor.specs.Accounts.{Loses, LosesUpTo}

-- one place more is settled
pub settles_more : (old between new : Account) (place : ℕ) (f : Frame) (labels : ℕ → Label) → LosesUpTo old between place f labels → Loses between new place f (labels place) → LosesUpTo old new (place + 1) f labels
settles_more old between new place f labels before here = rw (add-one place) (between, before, here)
