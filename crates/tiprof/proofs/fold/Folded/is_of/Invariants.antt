use Rattle.std.proofs.Common.{◌≡◌, map, take, length}
use Rattle.tiprof.proofs.fold.Folded.is_of.Given as goal

-- those so far are the same
abbrev pub invariant-loop-i : goal.invariant-loop-i
invariant-loop-i l = (take l.i l.self.methods.items ≡ map (λ x. x.method) (take l.i l.frames)) × (length l.self.methods.items ≡ length l.frames)
