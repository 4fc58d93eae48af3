use Rattle.std.specs.Prelude.{◌≡◌, ◌≤◌, ◌++◌, map, length}
use Rattle.ti_pprof.specs.Profile.{location_of}
use Rattle.ti_pprof.specs.Stacks.{stack_at, stacks_of}
use Rattle.ti_pprof.proofs.places.Places.write_locations_of_frames.Given as goal

abbrev pub invariant-loop-number : goal.invariant-loop-number
invariant-loop-number l = record {
  there : l.number ≤ length l.self.nodes.now;
  rest : l.ids.items ++ map (location_of l.self.frames.keys) (stack_at (stacks_of l.self.nodes.now) l.number) ≡ map (location_of l.self.frames.keys) (stack_at (stacks_of l.self.nodes.now) l.stack);
}

abbrev pub decreases-loop-number : goal.decreases-loop-number
decreases-loop-number l = l.number
