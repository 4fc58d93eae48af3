use Rattle.std.specs.Prelude.{◌≡◌, ◌++◌, drop, map}
use Rattle.serde_json.specs.View.{view}
use Rattle.ti_monitor.specs.Json.{frame_data}
use Rattle.ti_monitor.proofs.json_frames.frames_value.Given as goal

abbrev pub invariant-loop-frame : goal.invariant-loop-frame
invariant-loop-frame l = map view l.values.items ++ map (frame_data l.functions) (drop l.frame-index l.frames) ≡ map (frame_data l.functions) l.frames
