use Rattle.std.specs.Prelude.{◌≡◌, ◌++◌, drop, map}
use Rattle.ti_monitor.specs.Texts.{text_of}
use Rattle.ti_monitor.specs.Threads.{frame_line}
use Rattle.ti_monitor.proofs.frames_text.push_frames.Given as goal

abbrev pub invariant-loop-frame : goal.invariant-loop-frame
invariant-loop-frame l =
    l.out.items ++ text_of (map (frame_line l.functions l.natives) (drop l.frame-index l.frames)) ≡ l.fn.out.items ++ text_of (map (frame_line l.functions l.natives) l.frames)
