use Rattle.std.specs.Prelude.{◌≡◌, take}
use Rattle.ti_pprof.specs.Profile.{frames_of}
use Rattle.ti_pprof.proofs.places.frames_of.Given as goal

abbrev pub invariant-loop-node : goal.invariant-loop-node
invariant-loop-node l = l.frames.keys ≡ frames_of (take l.node-index l.nodes)
