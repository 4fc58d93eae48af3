use Rattle.std.proofs.Common.{◌++◌, ◌∷◌, [], ◌+◌, ◌-◌, List, ap, sym, ◌∙◌, append_assoc}
use Rattle.ti_types.specs.declared.numbers.ThreadNo.{ThreadNo}
use Rattle.ti_report.specs.Doings.{threads_from}
use Rattle.ti_report.proofs.EventLaws.{threads_next}
use Rattle.ti_report.proofs.events.every_thread.Goals as goal

pub loop-n-preserved : goal.loop-n-preserved
loop-n-preserved c =
    let n = c.loop-n.n in
    let most = c.args.limits.threads in
    let x : ThreadNo = record { 0 = n } in
    let rest = threads_from (n + 1) (most - (n + 1)) in
    ap (λ (l : List ThreadNo). l ++ rest) c.in_ok-push.ensures.items
    ∙ append_assoc c.loop-n.threads.items (x ∷ []) rest
    ∙ ap (λ (l : List ThreadNo). c.loop-n.threads.items ++ l) (sym (threads_next n most c.loop-n-test.true))
    ∙ c.loop-n.invariant
