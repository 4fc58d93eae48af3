use Rattle.std.proofs.Common.{◌∙◌, sym}
use Rattle.std.proofs.lemmas.Result.{err_from_is_err_and}
use Rattle.ti_jdwp.specs.Modifiers.{modifiers_end}
use Rattle.ti_jdwp.proofs.Walks.{goes_on, ends, is_done}
use Rattle.ti_jdwp.proofs.modifiers.end_of_modifiers.Goals as goal

pub returns-in_err-next : goal.returns-in_err-next
returns-in_err-next c =
    let p = err_from_is_err_and c.from_residual.result c.from_residual.ensures.1 in
    rw (p.1, p.2) (ends c.args.bytes.now c.args.count c.loop.counter c.loop.end c.in_err-next.field-0.0 (modifiers_end c.args.count c.args.at c.args.bytes.now) c.loop-test.true (sym c.in_err-next.was ∙ c.said_at.ensures) c.loop.invariant)

pub loop-preserved : goal.loop-preserved
loop-preserved c = goes_on c.args.bytes.now c.args.count c.loop.counter c.loop.end c.in_ok-next.next c.in_ok-next.field-0-0 (modifiers_end c.args.count c.args.at c.args.bytes.now) c.loop-test.true (sym c.in_ok-next.was ∙ c.said_at.ensures) c.loop.invariant

pub returns : goal.returns
returns c = is_done c.args.bytes.now c.args.count c.loop.counter c.loop.end (modifiers_end c.args.count c.args.at c.args.bytes.now) c.loop-test.false c.loop.invariant
