use Rattle.std.proofs.Common.{◌≡◌, ◌≤◌, length, take}
use Rattle.std.specs.Prelude.{vec_capacity}
use Rattle.ti_capi.specs.Defining.{AreMethods}
use Rattle.ti_capi.proofs.class_parts.methods_of.Given as goal

abbrev pub invariant-loop-i : goal.invariant-loop-i
invariant-loop-i l = AreMethods l.text l.lines (take l.i l.methods) l.infos.items × (length l.infos.items ≡ l.i) × (length l.methods ≤ vec_capacity l.infos)
