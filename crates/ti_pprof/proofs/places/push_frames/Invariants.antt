use Rattle.std.specs.Prelude.{◌≡◌, ◌+◌, ◌++◌, drop}
use Rattle.ti_pprof.specs.Profile.{locations_from}
use Rattle.ti_pprof.proofs.places.push_frames.Given as goal

abbrev pub invariant-loop-frame : goal.invariant-loop-frame
invariant-loop-frame l = record {
  id : l.id ≡ l.frame-index + 3;
  rest : l.out.items ++ locations_from l.named l.id (drop l.frame-index l.frames) ≡ l.fn.out.items ++ locations_from l.named 3 l.frames;
}
