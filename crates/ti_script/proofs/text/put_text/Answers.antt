use Rattle.ti_script.specs.Texts.{written}
use Rattle.ti_script.proofs.LiveTextLaws.{pushed}
use Rattle.ti_script.proofs.text.put_text.Goals as goal

pub returns : goal.returns
returns c = pushed c.push_str.result (written c.args.out.now) (written c.push_str.new.self) c.args.text.now c.push_str.ensures.bytes c.push_str.ensures.len c.push_str.ensures.capacity c.push_str.ensures.full
