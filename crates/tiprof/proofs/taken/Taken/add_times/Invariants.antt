use Rattle.std.proofs.Common.{◌≡◌, map}
use Rattle.tiprof.specs.Roots.{AreAddedAt, place_of}
use Rattle.tiprof.proofs.taken.Taken.add_times.Given as goal

-- the stack was added as often as the loop went round
abbrev pub invariant-loop : goal.invariant-loop
invariant-loop l =
    (l.self.roots.by_thread ≡ l.fn.self.roots.by_thread)
    × (l.self.roots.workers ≡ l.fn.self.roots.workers)
    × AreAddedAt l.counter l.fn.self.roots.parts.items l.self.roots.parts.items (place_of l.fn.self.roots.by_thread l.fn.self.roots.workers l.thread.0) l.doing (map (λ x. x.method) l.frames)
