use Rattle.std.proofs.Common.{◌≡◌, ℕ, None, slice_get, refl, List, rules}
use Rattle.ti_report.specs.Doings.{events_of}
use Rattle.ti_report.specs.Books.{Row, page_in}
use Rattle.ti_report.specs.Accounts.{whole_now}
use Rattle.ti_report.proofs.CheckLaws.{call_none}
use Rattle.ti_report.proofs.one_call.call_fits.Goals as goal

pub returns-clause-fits : goal.returns-clause-fits
returns-clause-fits c =
    let limits = c.args.limits in
    let a = c.args.account.now in
    let call = c.args.call.now in
    let pages : ℕ → List Row × ℕ = λ t. page_in (slice_get c.args.books.now t) a.env in
    let w = c.wants-wanting.result in
    let none : whole_now limits a w call ≡ None = search (rules, c.in_ok-error.ensures, c.in_default.is) in
    call_none limits pages a call c.args.reply.now w (events_of limits a.env call) c.reply_fits-fits.result c.wants-wanting.ensures none refl c.reply_fits-fits.ensures.fits
