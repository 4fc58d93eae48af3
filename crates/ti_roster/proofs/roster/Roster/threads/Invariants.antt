use Rattle.std.proofs.Common.{◌≡◌, ◌≤◌, length, take}
use Rattle.std.specs.Prelude.{vec_capacity}
use Rattle.ti_roster.proofs.Living.{alive_rows}
use Rattle.ti_roster.proofs.roster.Roster.threads.Given as goal

abbrev pub invariant-loop-i : goal.invariant-loop-i
invariant-loop-i l = (l.threads.items ≡ alive_rows (take l.i l.self-inside.rows)) × (length l.threads.items ≤ l.i) × (length l.self-inside.rows ≤ vec_capacity l.threads)
