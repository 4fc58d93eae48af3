use Rattle.std.proofs.Common.{drop}
use Rattle.ti_script.specs.Texts.{written}
use Rattle.ti_script.specs.LiveTexts.{codes_text}
use Rattle.ti_script.proofs.LiveTextLaws.{Goes}
use Rattle.ti_script.proofs.live_text.put_codes.Given as goal

abbrev pub invariant-loop-i : goal.invariant-loop-i
invariant-loop-i l = Goes (written l.fn.out) (written l.out) (codes_text (drop l.i l.numbers)) (codes_text l.numbers)
