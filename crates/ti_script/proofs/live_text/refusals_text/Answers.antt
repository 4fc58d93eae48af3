use Rattle.std.proofs.Common.{◌≡◌, ◌+◌, ◌++◌, refl, drop, get_or, subst}
use Rattle.ti_live.specs.declared.report.Refusal.{Refusal}
use Rattle.ti_script.specs.Texts.{Adds, written}
use Rattle.ti_script.specs.LiveTexts.{refusals_text, refusal_line}
use Rattle.std.proofs.lemmas.List.{at_drop_more}
use Rattle.ti_script.proofs.LiveTextLaws.{adds_of, goes_first, goes_then, goes_wrong, goes_done, none_left}
use Rattle.ti_script.proofs.live_text.refusals_text.Goals as goal

abbrev none : Refusal
none = record { operation = 0; error = 0 }

pub loop-i-init : goal.loop-i-init
loop-i-init c = goes_first (written c.args.out.now) (refusals_text c.args.thread.now c.args.refused.now)

pub loop-i-preserved : goal.loop-i-preserved
loop-i-preserved c =
    let e : refusals_text c.args.thread.now (drop c.loop-i.i c.args.refused.now) ≡ (refusal_line c.args.thread.now (get_or c.args.refused.now c.loop-i.i none)) ++ refusals_text c.args.thread.now (drop (c.loop-i.i + 1) c.args.refused.now) = at_drop_more (refusals_text c.args.thread.now) c.args.refused.now c.loop-i.i none c.loop-i-test.true in
    goes_then (written c.args.out.now) (written c.loop-i.out) (written c.refusal_line.new.out) (refusal_line c.args.thread.now (get_or c.args.refused.now c.loop-i.i none)) (refusals_text c.args.thread.now (drop (c.loop-i.i + 1) c.args.refused.now)) (refusals_text c.args.thread.now (drop c.loop-i.i c.args.refused.now)) (refusals_text c.args.thread.now c.args.refused.now) c.loop-i.invariant e (subst (λ r. Adds r (written c.loop-i.out) (written c.refusal_line.new.out) (refusal_line c.args.thread.now (get_or c.args.refused.now c.loop-i.i none))) c.in_ok-refusal_line.was (adds_of c.refusal_line.result (written c.loop-i.out) (written c.refusal_line.new.out) (refusal_line c.args.thread.now (get_or c.args.refused.now c.loop-i.i none)) c.refusal_line.ensures.ok c.refusal_line.ensures.len c.refusal_line.ensures.room c.refusal_line.ensures.full c.refusal_line.ensures.front))

pub returns-in_err-refusal_line : goal.returns-in_err-refusal_line
returns-in_err-refusal_line c =
    let e : refusals_text c.args.thread.now (drop c.loop-i.i c.args.refused.now) ≡ (refusal_line c.args.thread.now (get_or c.args.refused.now c.loop-i.i none)) ++ refusals_text c.args.thread.now (drop (c.loop-i.i + 1) c.args.refused.now) = at_drop_more (refusals_text c.args.thread.now) c.args.refused.now c.loop-i.i none c.loop-i-test.true in
    goes_wrong c.from_residual.result c.from_residual.ensures.0 (written c.args.out.now) (written c.loop-i.out) (written c.refusal_line.new.out) (refusal_line c.args.thread.now (get_or c.args.refused.now c.loop-i.i none)) (refusals_text c.args.thread.now (drop (c.loop-i.i + 1) c.args.refused.now)) (refusals_text c.args.thread.now (drop c.loop-i.i c.args.refused.now)) (refusals_text c.args.thread.now c.args.refused.now) c.loop-i.invariant e (subst (λ r. Adds r (written c.loop-i.out) (written c.refusal_line.new.out) (refusal_line c.args.thread.now (get_or c.args.refused.now c.loop-i.i none))) c.in_err-refusal_line.was (adds_of c.refusal_line.result (written c.loop-i.out) (written c.refusal_line.new.out) (refusal_line c.args.thread.now (get_or c.args.refused.now c.loop-i.i none)) c.refusal_line.ensures.ok c.refusal_line.ensures.len c.refusal_line.ensures.room c.refusal_line.ensures.full c.refusal_line.ensures.front))

pub returns : goal.returns
returns c = goes_done (written c.args.out.now) (written c.loop-i.out) (refusals_text c.args.thread.now (drop c.loop-i.i c.args.refused.now)) (refusals_text c.args.thread.now c.args.refused.now) c.loop-i.invariant (none_left (refusals_text c.args.thread.now) c.args.refused.now c.loop-i.i c.loop-i-test.false refl)
