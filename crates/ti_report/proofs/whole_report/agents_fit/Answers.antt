use Rattle.std.proofs.Common.{◌≡◌, [], true, false, slice_index_or, sym, ◌∙◌, subst, arith, refl}
use Rattle.ti_types.specs.declared.numbers.EnvNo.{EnvNo}
use Rattle.ti_report.specs.Fits.{AgentFits}
use Rattle.ti_report.proofs.FitLaws.{at_place, all_agents}
use Rattle.ti_report.proofs.whole_report.agents_fit.Goals as goal

pub returns-then-not-branch : goal.returns-then-not-branch
returns-then-not-branch c histories are =
    let i = c.loop-i.i in
    let e : EnvNo = record { 0 = i } in
    let list = at_place c.args.calls.now i c.index-calls-index.result [] (omega (arith, c.loop-i-test.true, c.requires.calls)) c.index-calls-index.is ∙ sym c.as_slice-list.ensures in
    let told = at_place c.args.replies.now i c.index-replies-index.result [] (omega (arith, c.loop-i-test.true, c.requires.replies)) c.index-replies-index.is ∙ sym c.as_slice-told.ensures in
    let no' : c.in_ok-agent_fits.field-0 ≡ false = grind (arith, c.if-not-branch.true) in (
      λ x. cc x,
      λ h.
          let here = subst (λ l. AgentFits c.args.limits histories e c.args.spent l c.as_slice-told.result.now) list
          (subst (λ r. AgentFits c.args.limits histories e c.args.spent (slice_index_or c.args.calls.now i []) r) told (h e c.loop-i-test.true)) in
          let yes' = (c.in_ok-agent_fits.ensures histories are).1 here in
          cc (sym no' ∙ yes'),
    )

pub loop-i-preserved : goal.loop-i-preserved
loop-i-preserved c histories are =
    let i = c.loop-i.i in
    let e : EnvNo = record { 0 = i } in
    let list = at_place c.args.calls.now i c.index-calls-index.result [] (omega (arith, c.loop-i-test.true, c.requires.calls)) c.index-calls-index.is ∙ sym c.as_slice-list.ensures in
    let told = at_place c.args.replies.now i c.index-replies-index.result [] (omega (arith, c.loop-i-test.true, c.requires.replies)) c.index-replies-index.is ∙ sym c.as_slice-told.ensures in
    let yes' : c.in_ok-agent_fits.field-0 ≡ true = grind (arith, c.if-not-branch.false) in
    let here = (c.in_ok-agent_fits.ensures histories are).0 yes' in
    all_agents (λ e. AgentFits c.args.limits histories e c.args.spent (slice_index_or c.args.calls.now e.0 []) (slice_index_or c.args.replies.now e.0 [])) i (c.loop-i.invariant histories are)
    (subst (λ l. AgentFits c.args.limits histories e c.args.spent l (slice_index_or c.args.replies.now i [])) (sym list)
    (subst (λ r. AgentFits c.args.limits histories e c.args.spent c.as_slice-list.result.now r) (sym told) here))

pub returns : goal.returns
returns c histories are = (λ x e l. c.loop-i.invariant histories are e (omega (arith, l, c.loop-i-test.false)), λ h. refl)
