use Rattle.std.proofs.Common.{◌≡◌, ap, sym, ◌∙◌}
use Rattle.ti_report.specs.Doings.{events_of}
use Rattle.ti_report.specs.Fits.{sort_of}
use Rattle.ti_report.proofs.one_call.reply_fits.Goals as goal

pub returns-in-SuspendList-Codes-clause-fits : goal.returns-in-SuspendList-Codes-clause-fits
returns-in-SuspendList-Codes-clause-fits c =
    let s = c.in-SuspendList-Codes in
    rw (s.is-0, s.is-1, sym c.as_slice.ensures, sym c.as_slice-in-SuspendList-Codes.ensures) c.codes_fit.ensures.fits

pub returns-in-ResumeList-Codes-clause-fits : goal.returns-in-ResumeList-Codes-clause-fits
returns-in-ResumeList-Codes-clause-fits c =
    let s = c.in-ResumeList-Codes in
    rw (s.is-0, s.is-1, sym c.as_slice-in-ResumeList-Codes.ensures, sym c.as_slice-in-ResumeList-Codes-2.ensures) c.codes_fit-in-ResumeList-Codes.ensures.fits

pub returns-in-ListStacks-Stacks-clause-fits : goal.returns-in-ListStacks-Stacks-clause-fits
returns-in-ListStacks-Stacks-clause-fits c =
    let s = c.in-ListStacks-Stacks in
    let events : c.args.events.now ≡ events_of c.args.limits c.args.account.now.env c.args.call.now = c.requires (λ p. cc (sym (ap sort_of s.is-0) ∙ p)) in
    rw (sym events, s.is-0, s.is-1, sym c.as_slice-in-ListStacks-Stacks.ensures) c.stacks_fit-in-ListStacks-Stacks.ensures.fits
