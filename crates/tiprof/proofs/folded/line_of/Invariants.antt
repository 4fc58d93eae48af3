use Rattle.std.proofs.Common.{◌≡◌, ◌≤◌, ◌++◌, length, take}
use Rattle.std.specs.String.{string_bytes}
use Rattle.tiprof.specs.Lines.{names_of}
use Rattle.tiprof.proofs.folded.line_of.Given as goal

-- with those that are left it is the whole line
abbrev pub invariant-loop-left : goal.invariant-loop-left
invariant-loop-left l =
    (l.left ≤ length l.methods)
    × (string_bytes l.line ++ names_of (take l.left l.methods) ≡ l.root ++ names_of l.methods)

abbrev pub decreases-loop-left : goal.decreases-loop-left
decreases-loop-left l = l.left
