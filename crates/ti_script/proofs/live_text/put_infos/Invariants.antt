use Rattle.std.proofs.Common.{drop}
use Rattle.ti_script.specs.Texts.{written}
use Rattle.ti_script.specs.LiveTexts.{infos_text}
use Rattle.ti_script.proofs.LiveTextLaws.{Goes}
use Rattle.ti_script.proofs.live_text.put_infos.Given as goal

abbrev pub invariant-loop-i : goal.invariant-loop-i
invariant-loop-i l = Goes (written l.fn.out) (written l.out) (infos_text l.threads l.methods (drop l.i l.infos)) (infos_text l.threads l.methods l.infos)
