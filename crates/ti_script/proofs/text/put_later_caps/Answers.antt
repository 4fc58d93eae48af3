use Rattle.std.proofs.Common.{codes}
use Rattle.ti_script.specs.Texts.{held_text, written}
use Rattle.ti_script.proofs.LiveTextLaws.{adds_more, adds_part}
use Rattle.ti_script.proofs.text.put_later_caps.Goals as goal

pub returns-in_err-put_held : goal.returns-in_err-put_held
returns-in_err-put_held c = adds_part c.from_residual.result c.from_residual.ensures.0 (written c.args.out.now) (written c.put_held.new.out) ((held_text c.args.held 2 (codes "can_pop_frame"))) ((held_text c.args.held 4 (codes "can_tag_objects"))) c.in_err-put_held.ensures

pub returns : goal.returns
returns c = adds_more _ (written c.args.out.now) (written c.put_held.new.out) (written c.put_held-2.new.out) ((held_text c.args.held 2 (codes "can_pop_frame"))) ((held_text c.args.held 4 (codes "can_tag_objects"))) c.in_ok-put_held.ensures c.put_held-2.ensures
