use Rattle.std.proofs.Common.{◌++◌, codes, decimal}
use Rattle.ti_script.specs.Texts.{written}
use Rattle.ti_script.proofs.LiveTextLaws.{adds_more, adds_part}
use Rattle.ti_script.proofs.live_text.put_line_end.Goals as goal

pub returns-in_err-put_text : goal.returns-in_err-put_text
returns-in_err-put_text c = adds_part c.from_residual.result c.from_residual.ensures.0 (written c.args.out.now) (written c.put_text.new.out) c.args.word.now ((decimal c.args.number) ++ (codes "\n")) c.in_err-put_text.ensures

pub returns-in_err-put_number : goal.returns-in_err-put_number
returns-in_err-put_number c = adds_more _ (written c.args.out.now) (written c.put_text.new.out) (written c.put_number.new.out) c.args.word.now ((decimal c.args.number) ++ (codes "\n")) c.in_ok-put_text.ensures (adds_part c.from_residual-in_err-put_number.result c.from_residual-in_err-put_number.ensures.0 (written c.put_text.new.out) (written c.put_number.new.out) ((decimal c.args.number)) ((codes "\n")) c.in_err-put_number.ensures)

pub returns : goal.returns
returns c = adds_more _ (written c.args.out.now) (written c.put_text.new.out) (written c.put_text-2.new.out) c.args.word.now ((decimal c.args.number) ++ (codes "\n")) c.in_ok-put_text.ensures (adds_more _ (written c.put_text.new.out) (written c.put_number.new.out) (written c.put_text-2.new.out) ((decimal c.args.number)) ((codes "\n")) c.in_ok-put_number.ensures c.put_text-2.ensures)
