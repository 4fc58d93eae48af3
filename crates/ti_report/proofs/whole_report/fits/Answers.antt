use Rattle.std.proofs.Common.{◌≡◌, ◌↔◌, ◌<◌, [], true, false, slice_index_or, IfSome, sym, ◌∙◌, subst, arith}
use Rattle.ti_types.specs.declared.numbers.EnvNo.{EnvNo}
use Rattle.ti_types.specs.declared.numbers.ThreadNo.{ThreadNo}
use Rattle.ti_replay.specs.Legal.{is_legal}
use Rattle.ti_report.specs.Told.{history_at}
use Rattle.ti_report.specs.Books.{AreBooks}
use Rattle.ti_report.specs.Walks.{WalkFits}
use Rattle.ti_report.specs.Fits.{AgentFits}
use Rattle.ti_report.proofs.whole_report.fits.Goals as goal

pub returns-then-not-branch : goal.returns-then-not-branch
returns-then-not-branch c =
    let limits = c.args.script.now.limits in
    let s = c.args.script.now in
    let r = c.args.report.now in
    let are = subst (λ h. AreBooks limits h c.in-Some.books.items) c.as_slice-histories.ensures (subst (λ o. IfSome o (λ b. AreBooks limits c.as_slice-histories.result.now b.items)) c.in-Some.is c.in_ok-books.ensures.some) in
    let are' = subst (AreBooks limits r.histories) (sym c.deref.ensures.value) are in
    let agents = subst (λ l. (c.in_ok-agents_fit.field-0 ≡ true) ↔ ((e : EnvNo) → e.0 < limits.envs → AgentFits limits r.histories e r.spent (slice_index_or s.calls e.0 []) (slice_index_or l e.0 []))) c.as_slice.ensures
    (subst (λ l. (c.in_ok-agents_fit.field-0 ≡ true) ↔ ((e : EnvNo) → e.0 < limits.envs → AgentFits limits r.histories e r.spent (slice_index_or l e.0 []) (slice_index_or c.as_slice.result.now e.0 []))) c.as_slice-calls.ensures (c.in_ok-agents_fit.ensures r.histories are')) in
    let no' : c.in_ok-agents_fit.field-0 ≡ false = grind (arith, c.if-not-branch.true) in
    (λ x. cc x, λ f. let yes' = agents.1 f.calls in cc (sym no' ∙ yes'))

pub returns : goal.returns
returns c =
    let limits = c.args.script.now.limits in
    let s = c.args.script.now in
    let r = c.args.report.now in
    let are = subst (λ h. AreBooks limits h c.in-Some.books.items) c.as_slice-histories.ensures (subst (λ o. IfSome o (λ b. AreBooks limits c.as_slice-histories.result.now b.items)) c.in-Some.is c.in_ok-books.ensures.some) in
    let legal = subst (λ h. (t : ThreadNo) → t.0 < limits.threads → is_legal limits (history_at h t) ≡ true) c.as_slice-histories.ensures
    (subst (λ o. IfSome o (λ b. (t : ThreadNo) → t.0 < limits.threads → is_legal limits (history_at c.as_slice-histories.result.now t) ≡ true)) c.in-Some.is c.in_ok-books.ensures.legal) in
    let are' = subst (AreBooks limits r.histories) (sym c.deref.ensures.value) are in
    let agents = subst (λ l. (c.in_ok-agents_fit.field-0 ≡ true) ↔ ((e : EnvNo) → e.0 < limits.envs → AgentFits limits r.histories e r.spent (slice_index_or s.calls e.0 []) (slice_index_or l e.0 []))) c.as_slice.ensures
    (subst (λ l. (c.in_ok-agents_fit.field-0 ≡ true) ↔ ((e : EnvNo) → e.0 < limits.envs → AgentFits limits r.histories e r.spent (slice_index_or l e.0 []) (slice_index_or c.as_slice.result.now e.0 []))) c.as_slice-calls.ensures (c.in_ok-agents_fit.ensures r.histories are')) in
    let yes' : c.in_ok-agents_fit.field-0 ≡ true = grind (arith, c.if-not-branch.false) in
    let shape = c.has_shape.ensures.0 (grind (arith, c.if-not-has_shape.false)) in
    let walks = subst (λ h. (c.in_ok-fits.fits ≡ true) ↔ ((t : ThreadNo) → t.0 < limits.threads → WalkFits limits r.spent (slice_index_or s.walks t.0 []) (slice_index_or r.refused t.0 []) (history_at h t))) c.as_slice-histories.ensures
    (subst (λ l. (c.in_ok-fits.fits ≡ true) ↔ ((t : ThreadNo) → t.0 < limits.threads → WalkFits limits r.spent (slice_index_or s.walks t.0 []) (slice_index_or l t.0 []) (history_at c.as_slice-histories.result.now t))) c.as_slice-refused.ensures
    (subst (λ w. (c.in_ok-fits.fits ≡ true) ↔ ((t : ThreadNo) → t.0 < limits.threads → WalkFits limits r.spent (slice_index_or w t.0 []) (slice_index_or c.as_slice-refused.result.now t.0 []) (history_at c.as_slice-histories.result.now t))) c.as_slice-walks.ensures c.in_ok-fits.ensures)) in
    (λ x. record { shape = shape; legal = legal; calls = agents.0 yes'; walks = walks.0 x }, λ f. walks.1 f.walks)
