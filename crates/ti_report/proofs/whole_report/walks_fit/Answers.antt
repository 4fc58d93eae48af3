use Rattle.std.proofs.Common.{◌≡◌, [], false, slice_index_or, sym, ◌∙◌, subst, arith}
use Rattle.ti_types.specs.declared.numbers.ThreadNo.{ThreadNo}
use Rattle.ti_report.specs.Walks.{WalkFits}
use Rattle.ti_report.proofs.FitLaws.{at_place}
use Rattle.ti_report.proofs.whole_report.walks_fit.Goals as goal

pub returns-then-not-branch : goal.returns-then-not-branch
returns-then-not-branch c =
    let i = c.loop-i.i in
    let t : ThreadNo = record { 0 = i } in
    let walk = at_place c.args.walks.now i c.index-walks-index.result [] (omega (arith, c.loop-i-test.true, c.requires.walks)) c.index-walks-index.is ∙ sym c.as_slice-walk.ensures in
    let list = at_place c.args.refused.now i c.index-refused-index.result [] (omega (arith, c.loop-i-test.true, c.requires.refused)) c.index-refused-index.is ∙ sym c.as_slice-list.ensures in
    let history = at_place c.args.histories.now i c.index-histories-index.result [] (omega (arith, c.loop-i-test.true, c.requires.histories)) c.index-histories-index.is ∙ sym c.as_slice.ensures in
    let no' : c.in_ok-walk_fits.field-0 ≡ false = grind (arith, c.if-not-branch.true) in (
      λ e. cc e,
      λ h.
          let here = subst (λ w. WalkFits c.args.limits c.args.spent w c.as_slice-list.result.now c.as_slice.result.now) walk
          (subst (λ r. WalkFits c.args.limits c.args.spent (slice_index_or c.args.walks.now i []) r c.as_slice.result.now) list
          (subst (λ s. WalkFits c.args.limits c.args.spent (slice_index_or c.args.walks.now i []) (slice_index_or c.args.refused.now i []) s) history (h t c.loop-i-test.true))) in
          let yes' = c.in_ok-walk_fits.ensures.1 here in
          cc (sym no' ∙ yes'),
    )
