use Rattle.std.proofs.Common.{◌≡◌, take}
use Rattle.ti_script.specs.LiveBounds.{frames_listed}
use Rattle.ti_script.proofs.live_bound.frames_listed.Given as goal

abbrev pub invariant-loop-i : goal.invariant-loop-i
invariant-loop-i l = l.count ≡ frames_listed (take l.i l.infos)
