use Rattle.std.proofs.Common.{◌≡◌, map, take}
use Rattle.tiprof.proofs.fold.Folded.new.Given as goal

-- the methods so far
abbrev pub invariant-loop-frame : goal.invariant-loop-frame
invariant-loop-frame l = l.methods.items ≡ map (λ x. x.method) (take l.frame-index l.frames)
