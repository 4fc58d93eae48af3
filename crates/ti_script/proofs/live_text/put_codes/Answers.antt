use Rattle.std.proofs.Common.{◌≡◌, ◌+◌, ◌++◌, refl, get_or, drop, codes, decimal}
use Rattle.ti_script.specs.Texts.{written}
use Rattle.ti_script.specs.LiveTexts.{codes_text}
use Rattle.std.proofs.lemmas.List.{at_drop_more}
use Rattle.ti_script.proofs.LiveTextLaws.{goes_first, goes_then, goes_wrong, goes_done, none_left}
use Rattle.ti_script.proofs.live_text.put_codes.Goals as goal

pub loop-i-init : goal.loop-i-init
loop-i-init c = goes_first (written c.args.out.now) (codes_text c.args.numbers.now)

pub loop-i-preserved : goal.loop-i-preserved
loop-i-preserved c =
    let e : codes_text (drop c.loop-i.i c.args.numbers.now) ≡ (codes " " ++ decimal (get_or c.args.numbers.now c.loop-i.i 0)) ++ codes_text (drop (c.loop-i.i + 1) c.args.numbers.now) = at_drop_more codes_text c.args.numbers.now c.loop-i.i 0 c.loop-i-test.true in
    goes_then (written c.args.out.now) (written c.loop-i.out) (written c.put_code_behind.new.out) (codes " " ++ decimal (get_or c.args.numbers.now c.loop-i.i 0)) (codes_text (drop (c.loop-i.i + 1) c.args.numbers.now)) (codes_text (drop c.loop-i.i c.args.numbers.now)) (codes_text c.args.numbers.now) c.loop-i.invariant e c.in_ok-put_code_behind.ensures

pub returns-in_err-put_code_behind : goal.returns-in_err-put_code_behind
returns-in_err-put_code_behind c =
    let e : codes_text (drop c.loop-i.i c.args.numbers.now) ≡ (codes " " ++ decimal (get_or c.args.numbers.now c.loop-i.i 0)) ++ codes_text (drop (c.loop-i.i + 1) c.args.numbers.now) = at_drop_more codes_text c.args.numbers.now c.loop-i.i 0 c.loop-i-test.true in
    goes_wrong c.from_residual.result c.from_residual.ensures.0 (written c.args.out.now) (written c.loop-i.out) (written c.put_code_behind.new.out) (codes " " ++ decimal (get_or c.args.numbers.now c.loop-i.i 0)) (codes_text (drop (c.loop-i.i + 1) c.args.numbers.now)) (codes_text (drop c.loop-i.i c.args.numbers.now)) (codes_text c.args.numbers.now) c.loop-i.invariant e c.in_err-put_code_behind.ensures

pub returns : goal.returns
returns c = goes_done (written c.args.out.now) (written c.loop-i.out) (codes_text (drop c.loop-i.i c.args.numbers.now)) (codes_text c.args.numbers.now) c.loop-i.invariant (none_left (codes_text) c.args.numbers.now c.loop-i.i c.loop-i-test.false refl)
