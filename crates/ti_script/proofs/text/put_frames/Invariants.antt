use Rattle.std.proofs.Common.{drop}
use Rattle.ti_script.specs.Texts.{frames_text, written}
use Rattle.ti_script.proofs.LiveTextLaws.{Goes}
use Rattle.ti_script.proofs.text.put_frames.Given as goal

abbrev pub invariant-loop-frame : goal.invariant-loop-frame
invariant-loop-frame l = Goes (written l.fn.out) (written l.out) (frames_text l.methods (drop l.frame-index l.frames)) (frames_text l.methods l.frames)
