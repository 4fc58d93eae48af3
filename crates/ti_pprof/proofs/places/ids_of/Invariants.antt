use Rattle.std.specs.Prelude.{◌≡◌, map, take}
use Rattle.ti_pprof.specs.Profile.{node_location}
use Rattle.ti_pprof.proofs.places.ids_of.Given as goal

abbrev pub invariant-loop-node : goal.invariant-loop-node
invariant-loop-node l = l.ids.items ≡ map (node_location l.frames.keys) (take l.node-index l.nodes)
