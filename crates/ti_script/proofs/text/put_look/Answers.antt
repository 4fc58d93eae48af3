use Rattle.std.proofs.Common.{◌++◌}
use Rattle.ti_script.specs.Texts.{bits_text, frames_text, written}
use Rattle.ti_script.proofs.LiveTextLaws.{adds_more, adds_part}
use Rattle.ti_script.proofs.text.put_look.Goals as goal

pub returns-in_err-put_text : goal.returns-in_err-put_text
returns-in_err-put_text c = adds_part c.from_residual.result c.from_residual.ensures.0 (written c.args.out.now) (written c.put_text.new.out) c.args.word.now ((bits_text c.args.state) ++ (frames_text c.args.methods.now c.args.frames.now)) c.in_err-put_text.ensures

pub returns-in_err-put_bits : goal.returns-in_err-put_bits
returns-in_err-put_bits c = adds_more _ (written c.args.out.now) (written c.put_text.new.out) (written c.put_bits.new.out) c.args.word.now ((bits_text c.args.state) ++ (frames_text c.args.methods.now c.args.frames.now)) c.in_ok-put_text.ensures (adds_part c.from_residual-in_err-put_bits.result c.from_residual-in_err-put_bits.ensures.0 (written c.put_text.new.out) (written c.put_bits.new.out) ((bits_text c.args.state)) ((frames_text c.args.methods.now c.args.frames.now)) c.in_err-put_bits.ensures)

pub returns : goal.returns
returns c = adds_more _ (written c.args.out.now) (written c.put_text.new.out) (written c.put_frames.new.out) c.args.word.now ((bits_text c.args.state) ++ (frames_text c.args.methods.now c.args.frames.now)) c.in_ok-put_text.ensures (adds_more _ (written c.put_text.new.out) (written c.put_bits.new.out) (written c.put_frames.new.out) ((bits_text c.args.state)) ((frames_text c.args.methods.now c.args.frames.now)) c.in_ok-put_bits.ensures c.put_frames.ensures)
