use Rattle.std.proofs.Common.{◌≡◌, ◌≤◌, length, take}
use Rattle.std.specs.Prelude.{vec_capacity}
use Rattle.ti_capi.specs.Questions.{AreTold}
use Rattle.ti_capi.proofs.door_questions.values_of.Given as goal

abbrev pub invariant-loop-i : goal.invariant-loop-i
invariant-loop-i l = AreTold (take l.i l.values) l.told.items × (length l.told.items ≡ l.i) × (length l.values ≤ vec_capacity l.told)
