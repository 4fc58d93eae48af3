use Rattle.std.proofs.Common.{◌≡◌, ◌↔◌, ◌+◌, ◌<◌, ℕ, true, false, List, slice_get, drop, length, ap, sym, ◌∙◌, subst, arith}
use Rattle.ti_types.specs.declared.numbers.EnvNo.{EnvNo}
use Rattle.ti_report.specs.Books.{Row, page_in}
use Rattle.ti_report.specs.Accounts.{CallNow, called_now}
use Rattle.ti_report.proofs.CheckLaws.{too_many, next_one, calls_step, called_step, called_env}
use Rattle.ti_report.proofs.agents.calls_fit.Goals as goal

pub returns-then-replies-calls-clause-fits : goal.returns-then-replies-calls-clause-fits
returns-then-replies-calls-clause-fits c =
    (λ e. cc e, λ h. absurd (too_many c.args.limits (λ t. page_in (slice_get c.args.books.now t) c.args.account.now.env) c.args.account.now c.args.calls.now c.args.replies.now c.if-replies-calls.true h))

pub returns-then-not-branch-clause-fits : goal.returns-then-not-branch-clause-fits
returns-then-not-branch-clause-fits c =
    let limits = c.args.limits in
    let a = c.loop-i.account in
    let i = c.loop-i.i in
    let call = c.index-calls-i.result in
    let reply = c.index-replies-i.result in
    let pages : EnvNo → ℕ → List Row × ℕ = λ e t. page_in (slice_get c.args.books.now t) e in
    let mine = pages c.args.account.now.env in
    let long : i < length c.args.calls.now = omega arith in
    let step = calls_step limits mine a (drop i c.args.calls.now) (drop (i + 1) c.args.calls.now) (drop i c.args.replies.now) (drop (i + 1) c.args.replies.now) call reply
    (next_one c.args.calls.now i call long c.index-calls-i.is) (next_one c.args.replies.now i reply c.loop-i-test.true c.index-replies-i.is) in
    let fits = subst (λ e. (c.in_ok-call_fits.field-0 ≡ true) ↔ CallNow limits (pages e) a call reply) c.loop-i.invariant.env c.in_ok-call_fits.ensures.fits in
    let no' : c.in_ok-call_fits.field-0 ≡ false = grind (arith, c.if-not-branch.true) in
    (λ e. cc e, λ h. let yes' = fits.1 (step.0 (c.loop-i.invariant.fits.1 h)).0 in cc (sym no' ∙ yes'))

pub loop-i-preserved : goal.loop-i-preserved
loop-i-preserved c =
    let limits = c.args.limits in
    let a = c.loop-i.account in
    let i = c.loop-i.i in
    let call = c.index-calls-i.result in
    let reply = c.index-replies-i.result in
    let pages : EnvNo → ℕ → List Row × ℕ = λ e t. page_in (slice_get c.args.books.now t) e in
    let mine = pages c.args.account.now.env in
    let long : i < length c.args.calls.now = omega arith in
    let next = next_one c.args.calls.now i call long c.index-calls-i.is in
    let next' = next_one c.args.replies.now i reply c.loop-i-test.true c.index-replies-i.is in
    let step = calls_step limits mine a (drop i c.args.calls.now) (drop (i + 1) c.args.calls.now) (drop i c.args.replies.now) (drop (i + 1) c.args.replies.now) call reply next next' in
    let more = called_step limits a (drop i c.args.calls.now) (drop (i + 1) c.args.calls.now) (drop i c.args.replies.now) (drop (i + 1) c.args.replies.now) call reply next next' in
    let fits = subst (λ e. (c.in_ok-call_fits.field-0 ≡ true) ↔ CallNow limits (pages e) a call reply) c.loop-i.invariant.env c.in_ok-call_fits.ensures.fits in
    let yes' : c.in_ok-call_fits.field-0 ≡ true = grind (arith, c.if-not-branch.false) in
    let now : c.call_fits.new.account ≡ called_now limits a call reply = c.in_ok-call_fits.ensures.account yes' in
    record {
      env = ap (λ v. v.env) now ∙ called_env limits a call reply ∙ c.loop-i.invariant.env;
      fits = rw now (λ h. c.loop-i.invariant.fits.0 (step.1 (fits.0 yes', h)), λ h. (step.0 (c.loop-i.invariant.fits.1 h)).1);
      account = rw now (sym more ∙ c.loop-i.invariant.account);
    }
