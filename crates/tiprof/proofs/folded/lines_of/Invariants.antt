use Rattle.std.proofs.Common.{◌≡◌, ◌++◌, drop, map}
use Rattle.std.specs.String.{string_bytes}
use Rattle.tiprof.specs.Lines.{lines_from}
use Rattle.tiprof.proofs.folded.lines_of.Given as goal

-- with those of the parts that are left they are all lines
abbrev pub invariant-loop-place : goal.invariant-loop-place
invariant-loop-place l =
    map string_bytes l.lines.items ++ lines_from l.roots.by_thread l.roots.workers l.place (drop l.place l.roots.parts.items) ≡ lines_from l.roots.by_thread l.roots.workers 0 l.roots.parts.items
