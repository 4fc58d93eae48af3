use Rattle.std.proofs.Common.{◌≡◌, ◌++◌, map, take}
use Rattle.std.specs.String.{string_bytes}
use Rattle.tiprof.specs.Lines.{lines_in}
use Rattle.tiprof.proofs.folded.add_lines.Given as goal

-- the lines so far
abbrev pub invariant-loop-folded : goal.invariant-loop-folded
invariant-loop-folded l = map string_bytes l.lines.items ≡ map string_bytes l.fn.lines.items ++ lines_in l.root (take l.folded-index l.stacks)
