use Rattle.std.proofs.Common.{◌≡◌, false, arith, sym, ◌∙◌}
use Rattle.ti_types.specs.declared.numbers.ThreadNo.{ThreadNo}
use Rattle.ti_report.proofs.agents.used_up.Goals as goal

pub returns-then-not-is_used_up : goal.returns-then-not-is_used_up
returns-then-not-is_used_up c =
    let t : ThreadNo = record { 0 = c.loop-n.n } in
    let no' : c.is_used_up.result ≡ false = grind (arith, c.if-not-is_used_up.true) in
    (λ e. cc e, λ h. let yes' = c.is_used_up.ensures.1 (h t c.loop-n-test.true) in cc (sym no' ∙ yes'))
