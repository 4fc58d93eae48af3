use Rattle.std.proofs.Common.{◌≡◌, ◌≢◌, ◌<◌, ℕ, List, Some, map}
use Rattle.std.specs.Prelude.{slice_get}
use Rattle.ti_types.specs.declared.numbers.MethodNo.{MethodNo}
use Rattle.tiprof.specs.Folds.{stacks_of}
use Rattle.tiprof.proofs.fold.Fold.add.Given as goal

-- nothing has changed, and the stacks so far are others
abbrev pub invariant-loop-i : goal.invariant-loop-i
invariant-loop-i l =
    (l.self ≡ l.fn.self)
    × ((j : ℕ) (m : List MethodNo) → j < l.i → slice_get (stacks_of l.self.stacks.items) j ≡ Some m → m ≢ map (λ x. x.method) l.frames)
