use Rattle.std.proofs.Common.{◌≡◌, ◌↔◌, true, false, slice_get, length, ap, sym, ◌∙◌, subst, arith, rules}
use Rattle.ti_report.specs.Books.{page_in}
use Rattle.ti_report.specs.Accounts.{AccountValue, CallsNow, all_called, UsedUp, new_account}
use Rattle.ti_report.proofs.CheckLaws.{agent_calls, agent_used, all_called_env}
use Rattle.ti_report.proofs.agents.agent_fits.Goals as goal

pub returns-then-not-branch : goal.returns-then-not-branch
returns-then-not-branch c histories are =
    let limits = c.args.limits in
    let e = c.args.env in
    let calls = c.args.calls.now in
    let replies = c.args.replies.now in
    let fits = subst (λ (v : AccountValue). (c.in_ok-calls_fit.field-0 ≡ true) ↔ CallsNow limits (λ t. page_in (slice_get c.args.books.now t) v.env) v calls replies) c.in_ok-account.ensures c.in_ok-calls_fit.ensures.fits in
    let same = agent_calls limits histories e c.args.books.now c.requires are calls replies in
    let no' : c.in_ok-calls_fit.field-0 ≡ false = grind (arith, c.if-not-branch.true) in
    (λ h. cc h, λ f. let yes' = fits.1 (same.1 f.replies_fit) in cc (sym no' ∙ yes'))

pub returns : goal.returns
returns c histories are =
    let limits = c.args.limits in
    let e = c.args.env in
    let calls = c.args.calls.now in
    let replies = c.args.replies.now in
    let fits = subst (λ (v : AccountValue). (c.in_ok-calls_fit.field-0 ≡ true) ↔ CallsNow limits (λ t. page_in (slice_get c.args.books.now t) v.env) v calls replies) c.in_ok-account.ensures c.in_ok-calls_fit.ensures.fits in
    let yes' : c.in_ok-calls_fit.field-0 ≡ true = grind (arith, c.if-not-branch.false) in
    let same = agent_calls limits histories e c.args.books.now c.requires are calls replies in
    let used = agent_used limits histories e c.args.books.now c.requires are calls replies in
    let now : c.calls_fit.new.account ≡ all_called limits (new_account limits e) calls replies =
    c.in_ok-calls_fit.ensures.account yes' ∙ ap (λ (v : AccountValue). all_called limits v calls replies) c.in_ok-account.ensures in
    let env = ap (λ (v : AccountValue). v.env) now ∙ all_called_env limits (new_account limits e) calls replies in
    let up = subst (λ (v : AccountValue). (c.used_up-used.result ≡ true) ↔ UsedUp limits (λ t. page_in (slice_get c.args.books.now t) e) v) now
    (subst (λ f. (c.used_up-used.result ≡ true) ↔ UsedUp limits (λ t. page_in (slice_get c.args.books.now t) f) c.calls_fit.new.account) env c.used_up-used.ensures) in
    let all : c.args.spent ≡ false → length replies ≡ length calls = search rules in
    (λ h. record { all_made = all; replies_fit = same.0 (fits.0 yes'); used_up = used.0 (up.0 h) }, λ f. up.1 (used.1 f.used_up))
