use Rattle.std.proofs.Common.{◌≡◌, ◌≤◌, length, take}
use Rattle.std.specs.Prelude.{vec_capacity}
use Rattle.ti_capi.specs.Gathers.{numbered}
use Rattle.ti_capi.proofs.env_traces.thread_numbers.Given as goal

abbrev pub invariant-loop-i : goal.invariant-loop-i
invariant-loop-i l = (l.threads.items ≡ numbered (take l.i l.numbers)) × (length l.numbers ≤ vec_capacity l.threads)
