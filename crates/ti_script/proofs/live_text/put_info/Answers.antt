use Rattle.std.proofs.Common.{◌++◌, codes, subst}
use Rattle.ti_script.specs.LiveTexts.{name_text}
use Rattle.ti_script.specs.Texts.{Adds, bits_text, frames_text, written}
use Rattle.ti_script.proofs.LiveTextLaws.{adds_more, adds_part}
use Rattle.ti_script.proofs.live_text.put_info.Goals as goal

pub returns-in_err-put_name : goal.returns-in_err-put_name
returns-in_err-put_name c = adds_part c.from_residual.result c.from_residual.ensures.0 (written c.args.out.now) (written c.put_name.new.out) ((name_text c.args.threads.now c.args.info.now.thread.0)) ((codes " " ++ (bits_text c.args.info.now.state ++ frames_text c.args.methods.now c.args.info.now.frames.frames))) c.in_err-put_name.ensures

pub returns : goal.returns
returns c =
    let look = subst (λ f. Adds c.put_look.result (written c.put_name.new.out) (written c.put_look.new.out) (codes " " ++ (bits_text c.args.info.now.state ++ frames_text c.args.methods.now f))) c.frames.ensures.frames c.put_look.ensures in
    adds_more c.put_look.result (written c.args.out.now) (written c.put_name.new.out) (written c.put_look.new.out) (name_text c.args.threads.now c.args.info.now.thread.0) (codes " " ++ (bits_text c.args.info.now.state ++ frames_text c.args.methods.now c.args.info.now.frames.frames)) c.in_ok-put_name.ensures look
