use Rattle.std.proofs.Common.{◌≡◌, ◌<◌, ℕ, true, is_some}
use Rattle.ti_roster.specs.Log.{mark_of}
use Rattle.ti_roster.proofs.roster.Roster.free_place.Given as goal

-- all so far are taken
abbrev pub invariant-loop-p : goal.invariant-loop-p
invariant-loop-p l = (j : ℕ) → j < l.p → is_some (mark_of (record { 0 = j }) l.self-inside.log.items) ≡ true
