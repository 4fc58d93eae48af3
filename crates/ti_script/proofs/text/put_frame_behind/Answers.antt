use Rattle.ti_script.specs.Texts.{frame_text, written}
use Rattle.ti_script.proofs.LiveTextLaws.{adds_more, adds_part}
use Rattle.ti_script.proofs.text.put_frame_behind.Goals as goal

pub returns-in_err-put_text : goal.returns-in_err-put_text
returns-in_err-put_text c = adds_part c.from_residual.result c.from_residual.ensures.0 (written c.args.out.now) (written c.put_text.new.out) c.args.word.now ((frame_text c.args.methods.now c.args.frame)) c.in_err-put_text.ensures

pub returns : goal.returns
returns c = adds_more _ (written c.args.out.now) (written c.put_text.new.out) (written c.put_frame.new.out) c.args.word.now ((frame_text c.args.methods.now c.args.frame)) c.in_ok-put_text.ensures c.put_frame.ensures
