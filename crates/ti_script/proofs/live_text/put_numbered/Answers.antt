use Rattle.std.proofs.Common.{◌++◌, codes, decimal}
use Rattle.ti_script.specs.Texts.{written}
use Rattle.ti_script.proofs.LiveTextLaws.{adds_more, adds_part}
use Rattle.ti_script.proofs.live_text.put_numbered.Goals as goal

pub returns-in_err-put_text : goal.returns-in_err-put_text
returns-in_err-put_text c = adds_part c.from_residual.result c.from_residual.ensures.0 (written c.args.out.now) (written c.put_text.new.out) c.args.name.now ((codes " " ++ decimal c.args.number)) c.in_err-put_text.ensures

pub returns : goal.returns
returns c = adds_more _ (written c.args.out.now) (written c.put_text.new.out) (written c.put_counted.new.out) c.args.name.now ((codes " " ++ decimal c.args.number)) c.in_ok-put_text.ensures c.put_counted.ensures
