use Rattle.std.proofs.Common.{◌-◌, ◌≡◌, ◌≤◌, map}
use Rattle.std.specs.Prelude.{vec_capacity, vec_len}
use Rattle.ti_types.specs.declared.numbers.MethodNo.{MethodNo}
use Rattle.ti_methods.specs.Classes.{count_from}
use Rattle.ti_methods.proofs.told.method_numbers.Given as goal

abbrev pub invariant-loop-i : goal.invariant-loop-i
invariant-loop-i l = (l.i ≤ l.methods) × (l.methods ≤ vec_capacity l.numbers) × (vec_len l.numbers ≡ l.i) × (map (λ (n : MethodNo). n.0) l.numbers.items ≡ count_from l.first l.i)

abbrev pub decreases-loop-i : goal.decreases-loop-i
decreases-loop-i l = l.methods - l.i
