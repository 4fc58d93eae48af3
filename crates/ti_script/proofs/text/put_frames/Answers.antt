use Rattle.std.proofs.Common.{◌+◌, refl, drop}
use Rattle.ti_script.specs.Texts.{frames_text, written}
use Rattle.std.proofs.lemmas.List.{at_drop_more}
use Rattle.ti_script.proofs.LiveTextLaws.{goes_first, goes_then, goes_wrong, goes_done, none_left}
use Rattle.ti_script.proofs.text.put_frames.Goals as goal

pub loop-frame-init : goal.loop-frame-init
loop-frame-init c = goes_first (written c.args.out.now) (frames_text c.args.methods.now c.args.frames.now)

pub loop-frame-preserved : goal.loop-frame-preserved
loop-frame-preserved c =
    goes_then (written c.args.out.now) (written c.loop-frame.out) (written c.put_frame_behind.new.out) _ (frames_text c.args.methods.now (drop (c.loop-frame.frame-index + 1) c.args.frames.now)) (frames_text c.args.methods.now (drop c.loop-frame.frame-index c.args.frames.now)) (frames_text c.args.methods.now c.args.frames.now) c.loop-frame.invariant (at_drop_more (frames_text c.args.methods.now) c.args.frames.now c.loop-frame.frame-index _ c.loop-frame-test.true) c.in_ok-put_frame_behind.ensures

pub returns-in_err-put_frame_behind : goal.returns-in_err-put_frame_behind
returns-in_err-put_frame_behind c =
    goes_wrong c.from_residual.result c.from_residual.ensures.0 (written c.args.out.now) (written c.loop-frame.out) (written c.put_frame_behind.new.out) _ (frames_text c.args.methods.now (drop (c.loop-frame.frame-index + 1) c.args.frames.now)) (frames_text c.args.methods.now (drop c.loop-frame.frame-index c.args.frames.now)) (frames_text c.args.methods.now c.args.frames.now) c.loop-frame.invariant (at_drop_more (frames_text c.args.methods.now) c.args.frames.now c.loop-frame.frame-index _ c.loop-frame-test.true) c.in_err-put_frame_behind.ensures

pub returns : goal.returns
returns c = goes_done (written c.args.out.now) (written c.loop-frame.out) (frames_text c.args.methods.now (drop c.loop-frame.frame-index c.args.frames.now)) (frames_text c.args.methods.now c.args.frames.now) c.loop-frame.invariant (none_left (frames_text c.args.methods.now) c.args.frames.now c.loop-frame.frame-index c.loop-frame-test.false refl)
