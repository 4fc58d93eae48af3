use Rattle.std.proofs.Common.{◌≡◌, true, List, take}
use Rattle.std.specs.List.{list_all}
use Rattle.ti_replay.specs.Admission.{Happening}
use Rattle.ti_core.specs.Runs.{HasSeen, AtTurn, is_final}
use Rattle.ti_core.proofs.outcomes.answer_all.Given as goal

abbrev pub invariant-loop-place : goal.invariant-loop-place
invariant-loop-place l = ((hs : List Happening) → HasSeen hs l.fn.outcomes l.fn.core → AtTurn l.fn.core.limits hs l.fn.outcomes l.place l.outcomes l.core) × (list_all is_final (take l.place l.outcomes) ≡ true)
