use Rattle.std.proofs.Common.{◌≡◌, arith, false, nat_lt, ap, sym, ◌∙◌}
use Rattle.std.specs.List.{list_all}
use Rattle.ti_report.proofs.whole.why_whole.Goals as goal

pub returns-then-not-are_threads : goal.returns-then-not-are_threads
returns-then-not-are_threads c =
    let none : list_all (λ t. nat_lt t.0 c.args.limits.threads) c.in-ListStacks.threads ≡ false =
    ap (list_all (λ t. nat_lt t.0 c.args.limits.threads)) (sym c.as_slice.ensures) ∙ sym c.are_threads.ensures ∙ grind (arith, c.if-not-are_threads.true) in
    rw c.in-ListStacks.is (grind (arith, none))
