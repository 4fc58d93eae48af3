use Rattle.std.proofs.Common.{◌≡◌, ◌+◌, ◌++◌, refl, drop, codes}
use Rattle.ti_script.specs.Texts.{written}
use Rattle.ti_script.specs.LiveTexts.{infos_text, info_text}
use Rattle.ti_script.proofs.LiveTextLaws.{goes_first, goes_then, goes_wrong, goes_done, none_left, next_text}
use Rattle.ti_script.proofs.live_text.put_infos.Goals as goal

pub loop-i-init : goal.loop-i-init
loop-i-init c = goes_first (written c.args.out.now) (infos_text c.args.threads.now c.args.methods.now c.args.infos.now)

pub loop-i-preserved : goal.loop-i-preserved
loop-i-preserved c =
    let e : infos_text c.args.threads.now c.args.methods.now (drop c.loop-i.i c.args.infos.now) ≡ (codes " | " ++ info_text c.args.threads.now c.args.methods.now c.index-infos-i.result) ++ infos_text c.args.threads.now c.args.methods.now (drop (c.loop-i.i + 1) c.args.infos.now) = next_text (infos_text c.args.threads.now c.args.methods.now) c.args.infos.now c.loop-i.i c.index-infos-i.result c.loop-i-test.true c.index-infos-i.is in
    goes_then (written c.args.out.now) (written c.loop-i.out) (written c.put_info_behind.new.out) (codes " | " ++ info_text c.args.threads.now c.args.methods.now c.index-infos-i.result) (infos_text c.args.threads.now c.args.methods.now (drop (c.loop-i.i + 1) c.args.infos.now)) (infos_text c.args.threads.now c.args.methods.now (drop c.loop-i.i c.args.infos.now)) (infos_text c.args.threads.now c.args.methods.now c.args.infos.now) c.loop-i.invariant e c.in_ok-put_info_behind.ensures

pub returns-in_err-put_info_behind : goal.returns-in_err-put_info_behind
returns-in_err-put_info_behind c =
    let e : infos_text c.args.threads.now c.args.methods.now (drop c.loop-i.i c.args.infos.now) ≡ (codes " | " ++ info_text c.args.threads.now c.args.methods.now c.index-infos-i.result) ++ infos_text c.args.threads.now c.args.methods.now (drop (c.loop-i.i + 1) c.args.infos.now) = next_text (infos_text c.args.threads.now c.args.methods.now) c.args.infos.now c.loop-i.i c.index-infos-i.result c.loop-i-test.true c.index-infos-i.is in
    goes_wrong c.from_residual.result c.from_residual.ensures.0 (written c.args.out.now) (written c.loop-i.out) (written c.put_info_behind.new.out) (codes " | " ++ info_text c.args.threads.now c.args.methods.now c.index-infos-i.result) (infos_text c.args.threads.now c.args.methods.now (drop (c.loop-i.i + 1) c.args.infos.now)) (infos_text c.args.threads.now c.args.methods.now (drop c.loop-i.i c.args.infos.now)) (infos_text c.args.threads.now c.args.methods.now c.args.infos.now) c.loop-i.invariant e c.in_err-put_info_behind.ensures

pub returns : goal.returns
returns c = goes_done (written c.args.out.now) (written c.loop-i.out) (infos_text c.args.threads.now c.args.methods.now (drop c.loop-i.i c.args.infos.now)) (infos_text c.args.threads.now c.args.methods.now c.args.infos.now) c.loop-i.invariant (none_left (infos_text c.args.threads.now c.args.methods.now) c.args.infos.now c.loop-i.i c.loop-i-test.false refl)
