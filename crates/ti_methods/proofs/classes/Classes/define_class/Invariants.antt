use Rattle.std.proofs.Common.{◌≡◌, ◌≤◌, length}
use Rattle.std.specs.Arc.{arc_value}
use mathlib.Core.List.{IsPrefix}
use Rattle.ti_methods.proofs.classes.Classes.define_class.Given as goal

abbrev pub invariant-loop : goal.invariant-loop
invariant-loop l =
    let inside = l.self-inside in
    (inside.seen.book ≡ arc_value inside.shared) × (inside.own.taken ≡ inside.own.stored) × (inside.own.taken ≤ length inside.seen.log)
    × (inside.seen.book ≡ l.fn.self.book) × IsPrefix l.fn.self.seen inside.seen.log
