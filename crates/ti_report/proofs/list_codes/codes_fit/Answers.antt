use Rattle.std.proofs.Common.{◌≡◌, ◌<◌, ℕ, Some, List, length, map, slice_get, get_or, ap, sym, ◌∙◌, arith}
use Rattle.std.proofs.lemmas.List.{get_or-map, length-map}
use Rattle.ti_types.specs.declared.numbers.EnvNo.{EnvNo}
use Rattle.ti_types.specs.declared.numbers.ThreadNo.{ThreadNo}
use Rattle.ti_types.specs.declared.event.Event.{Event}
use Rattle.ti_types.specs.declared.event.Event.TheVariants.{Start, Ask}
use Rattle.ti_report.specs.Books.{Row, page_in}
use Rattle.ti_report.specs.Fits.{code_of}
use Rattle.ti_report.specs.Accounts.{told_now, told_with, accounted, accounted_with}
use Rattle.ti_report.proofs.CheckLaws.{other_codes, codes_step, account_step}
use Rattle.ti_report.proofs.list_codes.codes_fit.Goals as goal

pub returns-then-codes-threads-clause-fits : goal.returns-then-codes-threads-clause-fits
returns-then-codes-threads-clause-fits c = (
  λ e. cc e,
  λ h.
      let xs = map (λ t. Ask c.args.account.now.env t c.args.call) c.args.threads.now in
      let q = other_codes c.args.limits (λ t. page_in (slice_get c.args.books.now t) c.args.account.now.env) c.args.account.now c.args.wanting xs c.args.codes.now h in
      absurd (omega (arith, q, length-map c.args.threads.now (λ t. Ask c.args.account.now.env t c.args.call))),
)

pub returns-in_default-clause-fits : goal.returns-in_default-clause-fits
returns-in_default-clause-fits c =
    let limits = c.args.limits in
    let w = c.args.wanting in
    let a = c.loop-i.account in
    let i = c.loop-i.i in
    let mine = c.args.account.now.env in
    let f : ThreadNo → Event = λ t. Ask mine t c.args.call in
    let xs = map f c.args.threads.now in
    let d : Event = Start (record { 0 = 0 }) in
    let at : ThreadNo = get_or c.args.threads.now i (record { 0 = 0 }) in
    let within : i < length xs = omega (arith, length-map c.args.threads.now f, c.loop-i-test.true) in
    let here : get_or xs i d ≡ Ask c.env-env.result at c.args.call = get_or-map f c.args.threads.now i (record { 0 = 0 }) d c.loop-i-test.true ∙ ap (λ e. Ask e at c.args.call) (sym c.env-env.ensures) in
    let pages : EnvNo → ℕ → List Row × ℕ = λ e t. page_in (slice_get c.args.books.now t) e in
    let long : i < length c.args.codes.now = omega arith in (
      λ e. cc e,
      λ h.
          let s = (codes_step limits (pages mine) a w xs c.args.codes.now i d within long).0 (c.loop-i.invariant.fits.1 h) in
          let none = sym c.in_default.is ∙ c.code.ensures.code ∙ ap (λ y. code_of (told_with limits (pages a.env) a y (Ask c.env-env.result at c.args.call))) c.why-why.ensures.why
          ∙ ap (λ e. code_of (told_now limits (pages e) a w (Ask c.env-env.result at c.args.call))) c.loop-i.invariant.env
          ∙ ap (λ x. code_of (told_now limits (pages mine) a w x)) (sym here) in
          cc (s.0 ∙ sym none),
    )

pub returns-then-code-codes-clause-fits : goal.returns-then-code-codes-clause-fits
returns-then-code-codes-clause-fits c =
    let limits = c.args.limits in
    let w = c.args.wanting in
    let a = c.loop-i.account in
    let i = c.loop-i.i in
    let mine = c.args.account.now.env in
    let f : ThreadNo → Event = λ t. Ask mine t c.args.call in
    let xs = map f c.args.threads.now in
    let d : Event = Start (record { 0 = 0 }) in
    let at : ThreadNo = get_or c.args.threads.now i (record { 0 = 0 }) in
    let x : Event = Ask c.env-env.result at c.args.call in
    let within : i < length xs = omega (arith, length-map c.args.threads.now f, c.loop-i-test.true) in
    let here : get_or xs i d ≡ x = get_or-map f c.args.threads.now i (record { 0 = 0 }) d c.loop-i-test.true ∙ ap (λ e. Ask e at c.args.call) (sym c.env-env.ensures) in
    let pages : EnvNo → ℕ → List Row × ℕ = λ e t. page_in (slice_get c.args.books.now t) e in
    let long : i < length c.args.codes.now = omega arith in (
      λ e. cc e,
      λ h.
          let s = (codes_step limits (pages mine) a w xs c.args.codes.now i d within long).0 (c.loop-i.invariant.fits.1 h) in
          let code = sym c.in-Some.is ∙ c.code.ensures.code ∙ ap (λ y. code_of (told_with limits (pages a.env) a y x)) c.why-why.ensures.why
          ∙ ap (λ e. code_of (told_now limits (pages e) a w x)) c.loop-i.invariant.env
          ∙ ap (λ x. code_of (told_now limits (pages mine) a w x)) (sym here) in
          let same : Some (get_or c.args.codes.now i 0) ≡ Some c.in-Some.code = s.0 ∙ sym code in
          absurd (grind (arith, same, c.if-code-codes.true)),
    )

pub loop-i-preserved : goal.loop-i-preserved
loop-i-preserved c =
    let limits = c.args.limits in
    let w = c.args.wanting in
    let a = c.loop-i.account in
    let i = c.loop-i.i in
    let mine = c.args.account.now.env in
    let f : ThreadNo → Event = λ t. Ask mine t c.args.call in
    let xs = map f c.args.threads.now in
    let d : Event = Start (record { 0 = 0 }) in
    let at : ThreadNo = get_or c.args.threads.now i (record { 0 = 0 }) in
    let x : Event = Ask c.env-env.result at c.args.call in
    let within : i < length xs = omega (arith, length-map c.args.threads.now f, c.loop-i-test.true) in
    let here : get_or xs i d ≡ x = get_or-map f c.args.threads.now i (record { 0 = 0 }) d c.loop-i-test.true ∙ ap (λ e. Ask e at c.args.call) (sym c.env-env.ensures) in
    let pages : EnvNo → ℕ → List Row × ℕ = λ e t. page_in (slice_get c.args.books.now t) e in
    let long : i < length c.args.codes.now = omega arith in
    let s = codes_step limits (pages mine) a w xs c.args.codes.now i d within long in
    let code = sym c.in-Some.is ∙ c.code.ensures.code ∙ ap (λ y. code_of (told_with limits (pages a.env) a y x)) c.why-why.ensures.why
    ∙ ap (λ e. code_of (told_now limits (pages e) a w x)) c.loop-i.invariant.env
    ∙ ap (λ x. code_of (told_now limits (pages mine) a w x)) (sym here) in
    let told : Some (get_or c.args.codes.now i 0) ≡ code_of (told_now limits (pages mine) a w (get_or xs i d)) = ap Some (sym (grind (arith, c.if-code-codes.false))) ∙ code in
    let on = c.account.ensures ∙ ap (λ y. accounted_with a y x) c.why-why.ensures.why ∙ ap (accounted limits a w) (sym here) in
    record {
      env = ap (λ v. v.env) on ∙ c.loop-i.invariant.env;
      fits = rw on (λ h. c.loop-i.invariant.fits.0 (s.1 (told, h)), λ h. (s.0 (c.loop-i.invariant.fits.1 h)).1);
      account = rw on (sym (account_step limits a w xs i d within) ∙ c.loop-i.invariant.account);
    }
