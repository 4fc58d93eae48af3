use Rattle.std.proofs.Common.{drop}
use Rattle.ti_script.specs.Texts.{written}
use Rattle.ti_script.specs.LiveTexts.{refusals_text}
use Rattle.ti_script.proofs.LiveTextLaws.{Goes}
use Rattle.ti_script.proofs.live_text.refusals_text.Given as goal

abbrev pub invariant-loop-i : goal.invariant-loop-i
invariant-loop-i l = Goes (written l.fn.out) (written l.out) (refusals_text l.thread (drop l.i l.refused)) (refusals_text l.thread l.refused)
