use Rattle.std.proofs.Common.{◌≡◌, true, ◌++◌, sym, ◌∙◌, ap, arith}
use Rattle.ti_report.specs.Walks.{IsDone}
use Rattle.ti_report.proofs.WalkLaws.{not_so, not_next, turn, paid_behind}
use Rattle.ti_report.proofs.walks.goes_through.Goals.{else-spent-via-then-spent+else-is_done, else-spent-via-else-spent}
use Rattle.ti_report.proofs.walks.goes_through.Goals as goal

pub returns-then-not-is_so : goal.returns-then-not-is_so
returns-then-not-is_so c =
    let not_done : c.args.spent ≡ true → IsDone c.loop-i.mode c.loop-i.refused.now c.loop-i.entries.now → ⊥ = elim c.else-spent.branch [
      | else-spent-via-then-spent+else-is_done w ↦ λ s d. cc (sym w.if-is_done.false ∙ w.is_done.ensures.1 d)
      | else-spent-via-else-spent w ↦ λ s d. cc (sym w.if-spent.false ∙ s)
    ] in (
      λ e. cc e,
      λ g. not_so c.args.limits c.args.spent c.loop-i.mode c.loop-i.own c.loop-i.i c.args.walk.now _ c.loop-i.refused.now c.loop-i.entries.now c.error_of-error.result
          c.loop-i-test.true not_done c.error_of-error.ensures (sym c.is_so.ensures ∙ c.if-not-is_so.true) (c.loop-i.invariant.same.1 g),
    )

pub returns-in_default : goal.returns-in_default
returns-in_default c =
    let not_done : c.args.spent ≡ true → IsDone c.loop-i.mode c.loop-i.refused.now c.loop-i.entries.now → ⊥ = elim c.else-spent.branch [
      | else-spent-via-then-spent+else-is_done w ↦ λ s d. cc (sym w.if-is_done.false ∙ w.is_done.ensures.1 d)
      | else-spent-via-else-spent w ↦ λ s d. cc (sym w.if-spent.false ∙ s)
    ] in (
      λ e. cc e,
      λ g. not_next c.args.limits c.args.spent c.loop-i.mode c.loop-i.own c.loop-i.i c.args.walk.now _ c.loop-i.refused.now c.loop-i.entries.now c.error_of-error.result c.left_by.result
          c.loop-i-test.true not_done c.error_of-error.ensures c.left_by.ensures c.in_default.ensures (c.loop-i.invariant.same.1 g),
    )

pub loop-i-preserved : goal.loop-i-preserved
loop-i-preserved c =
    let not_done : c.args.spent ≡ true → IsDone c.loop-i.mode c.loop-i.refused.now c.loop-i.entries.now → ⊥ = elim c.else-spent.branch [
      | else-spent-via-then-spent+else-is_done w ↦ λ s d. cc (sym w.if-is_done.false ∙ w.is_done.ensures.1 d)
      | else-spent-via-else-spent w ↦ λ s d. cc (sym w.if-spent.false ∙ s)
    ] in
    let so = sym c.is_so.ensures ∙ c.if-not-is_so.false in
    record {
      paid = omega (arith, c.own_behind-own.ensures, paid_behind c.args.limits c.loop-i.mode c.loop-i.own _ c.error_of-error.result c.loop-i.invariant.paid so);
      same = turn c.args.limits c.args.spent c.loop-i.mode c.mode_behind-mode.result c.loop-i.own c.own_behind-own.result c.loop-i.i c.args.walk.now _ c.loop-i.refused.now c.refusals_behind-refused.result.now
          c.loop-i.entries.now c.in-Some.rest.now c.error_of-error.result _ c.loop-i-test.true not_done c.error_of-error.ensures so
          (c.in-Some.ensures ∙ ap (λ l. l ++ c.in-Some.rest.now) c.left_by.ensures) c.mode_behind-mode.ensures c.own_behind-own.ensures c.refusals_behind-refused.ensures c.loop-i.invariant.same;
    }
