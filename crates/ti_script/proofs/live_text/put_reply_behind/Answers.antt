use Rattle.std.proofs.Common.{◌++◌, codes, subst}
use Rattle.ti_script.specs.Texts.{Adds, written}
use Rattle.ti_script.specs.LiveTexts.{reply_text}
use Rattle.ti_script.proofs.LiveTextLaws.{adds_more, adds_of, adds_part}
use Rattle.ti_script.proofs.live_text.put_reply_behind.Goals as goal

pub returns-in_err-put_text : goal.returns-in_err-put_text
returns-in_err-put_text c = adds_part c.from_residual.result c.from_residual.ensures.0 (written c.args.out.now) (written c.put_text.new.out) (codes " ") (reply_text c.args.threads.now c.args.methods.now c.args.reply.now ++ codes "\n") c.in_err-put_text.ensures

pub returns-in_err-reply_text : goal.returns-in_err-reply_text
returns-in_err-reply_text c =
    let text = reply_text c.args.threads.now c.args.methods.now c.args.reply.now in
    adds_more _ (written c.args.out.now) (written c.put_text.new.out) (written c.reply_text.new.out) (codes " ") (text ++ codes "\n") c.in_ok-put_text.ensures
    (adds_part c.from_residual-in_err-reply_text.result c.from_residual-in_err-reply_text.ensures.0 (written c.put_text.new.out) (written c.reply_text.new.out) text (codes "\n") (subst (λ r. Adds r (written c.put_text.new.out) (written c.reply_text.new.out) text) c.in_err-reply_text.was (adds_of c.reply_text.result (written c.put_text.new.out) (written c.reply_text.new.out) text c.reply_text.ensures.ok c.reply_text.ensures.len c.reply_text.ensures.room c.reply_text.ensures.full c.reply_text.ensures.front)))

pub returns : goal.returns
returns c =
    let text = reply_text c.args.threads.now c.args.methods.now c.args.reply.now in
    adds_more _ (written c.args.out.now) (written c.put_text.new.out) (written c.put_text-2.new.out) (codes " ") (text ++ codes "\n") c.in_ok-put_text.ensures
    (adds_more _ (written c.put_text.new.out) (written c.reply_text.new.out) (written c.put_text-2.new.out) text (codes "\n") (subst (λ r. Adds r (written c.put_text.new.out) (written c.reply_text.new.out) text) c.in_ok-reply_text.was (adds_of c.reply_text.result (written c.put_text.new.out) (written c.reply_text.new.out) text c.reply_text.ensures.ok c.reply_text.ensures.len c.reply_text.ensures.room c.reply_text.ensures.full c.reply_text.ensures.front)) c.put_text-2.ensures)
