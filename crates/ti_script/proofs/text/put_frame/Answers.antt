use Rattle.std.proofs.Common.{◌++◌, codes}
use Rattle.ti_script.specs.LiveTexts.{name_text}
use Rattle.ti_script.specs.Texts.{place_text, written}
use Rattle.ti_script.proofs.LiveTextLaws.{adds_more, adds_part}
use Rattle.ti_script.proofs.text.put_frame.Goals as goal

pub returns-in_err-put_name : goal.returns-in_err-put_name
returns-in_err-put_name c = adds_part c.from_residual.result c.from_residual.ensures.0 (written c.args.out.now) (written c.put_name.new.out) ((name_text c.args.methods.now c.args.frame.method.0)) ((codes "@") ++ (place_text c.args.frame.place)) c.in_err-put_name.ensures

pub returns-in_err-put_text : goal.returns-in_err-put_text
returns-in_err-put_text c = adds_more _ (written c.args.out.now) (written c.put_name.new.out) (written c.put_text.new.out) ((name_text c.args.methods.now c.args.frame.method.0)) ((codes "@") ++ (place_text c.args.frame.place)) c.in_ok-put_name.ensures (adds_part c.from_residual-in_err-put_text.result c.from_residual-in_err-put_text.ensures.0 (written c.put_name.new.out) (written c.put_text.new.out) ((codes "@")) ((place_text c.args.frame.place)) c.in_err-put_text.ensures)

pub returns : goal.returns
returns c = adds_more _ (written c.args.out.now) (written c.put_name.new.out) (written c.put_place.new.out) ((name_text c.args.methods.now c.args.frame.method.0)) ((codes "@") ++ (place_text c.args.frame.place)) c.in_ok-put_name.ensures (adds_more _ (written c.put_name.new.out) (written c.put_text.new.out) (written c.put_place.new.out) ((codes "@")) ((place_text c.args.frame.place)) c.in_ok-put_text.ensures c.put_place.ensures)
