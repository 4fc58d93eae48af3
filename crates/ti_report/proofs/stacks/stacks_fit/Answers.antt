use Rattle.std.proofs.Common.{◌≡◌, ◌↔◌, [], refl, nat_le, ◌++◌, ◌+◌, ℕ, List, Option, slice_get, get_or, drop, length, ap, sym, ◌∙◌, subst, drop_of_length-le}
use Rattle.ti_types.specs.declared.event.Event.{Event}
use Rattle.ti_types.specs.declared.event.Event.TheVariants.{Start}
use Rattle.ti_types.specs.declared.numbers.EnvNo.{EnvNo}
use Rattle.ti_types.specs.declared.stack.StackInfo.{StackInfo}
use Rattle.ti_report.specs.Books.{Row, page_in}
use Rattle.ti_report.specs.Fits.{stack_told}
use Rattle.ti_report.specs.Accounts.{told_with, accounted, accounted_with, stacks_now, kept, said_infos}
use Rattle.ti_report.proofs.CheckLaws.{stacks_step, account_step, none_left, kept_none}
use Rattle.ti_report.proofs.stacks.stacks_fit.Goals as goal

pub returns-in_default-clause-fits : goal.returns-in_default-clause-fits
returns-in_default-clause-fits c =
    let limits = c.args.limits in
    let w = c.args.wanting in
    let live = c.args.live in
    let a = c.loop-i.account in
    let i = c.loop-i.i in
    let d : Event = Start (record { 0 = 0 }) in
    let x : Event = get_or c.args.events.now i d in
    let pages : EnvNo → ℕ → List Row × ℕ = λ e t. page_in (slice_get c.args.books.now t) e in
    let mine = pages c.args.account.now.env in
    let none = subst (λ e. (rest : List (Option StackInfo)) → said_infos (drop c.loop-i.next c.args.infos.now) ≡ kept live (stack_told x (told_with limits (pages e) a c.why-why.result x) ++ rest) → ⊥) c.loop-i.invariant.env c.in_default.ensures.none in
    let none' = subst (λ y. (rest : List (Option StackInfo)) → said_infos (drop c.loop-i.next c.args.infos.now) ≡ kept live (stack_told x (told_with limits mine a y x) ++ rest) → ⊥) c.why-why.ensures.why none in (
      λ e. cc e,
      λ h.
          absurd (none' (stacks_now limits mine (accounted limits a w x) w (drop (i + 1) c.args.events.now)) (c.loop-i.invariant.fits.1 h ∙ ap (kept live) (stacks_step limits mine a w c.args.events.now i d c.loop-i-test.true))),
    )

pub loop-i-preserved : goal.loop-i-preserved
loop-i-preserved c =
    let limits = c.args.limits in
    let w = c.args.wanting in
    let live = c.args.live in
    let a = c.loop-i.account in
    let i = c.loop-i.i in
    let d : Event = Start (record { 0 = 0 }) in
    let x : Event = get_or c.args.events.now i d in
    let pages : EnvNo → ℕ → List Row × ℕ = λ e t. page_in (slice_get c.args.books.now t) e in
    let mine = pages c.args.account.now.env in
    let rest = stacks_now limits mine (accounted limits a w x) w (drop (i + 1) c.args.events.now) in
    let some = subst (λ e. (rest : List (Option StackInfo)) → (said_infos (drop c.loop-i.next c.args.infos.now) ≡ kept live (stack_told x (told_with limits (pages e) a c.why-why.result x) ++ rest)) ↔ (said_infos (drop c.in-Some.place c.args.infos.now) ≡ kept live rest)) c.loop-i.invariant.env c.in-Some.ensures.some in
    let some' = subst (λ y. (rest : List (Option StackInfo)) → (said_infos (drop c.loop-i.next c.args.infos.now) ≡ kept live (stack_told x (told_with limits mine a y x) ++ rest)) ↔ (said_infos (drop c.in-Some.place c.args.infos.now) ≡ kept live rest)) c.why-why.ensures.why some in
    let on = c.account.ensures ∙ ap (λ y. accounted_with a y x) c.why-why.ensures.why in
    let step = ap (kept live) (stacks_step limits mine a w c.args.events.now i d c.loop-i-test.true) in
    record {
      env = ap (λ v. v.env) on ∙ c.loop-i.invariant.env;
      fits = rw on (λ h. c.loop-i.invariant.fits.0 ((some' rest).1 h ∙ sym step), λ h. (some' rest).0 (c.loop-i.invariant.fits.1 h ∙ step));
      account = rw on (sym (account_step limits a w c.args.events.now i d c.loop-i-test.true) ∙ c.loop-i.invariant.account);
    }

pub returns-clause-fits : goal.returns-clause-fits
returns-clause-fits c =
    let limits = c.args.limits in
    let w = c.args.wanting in
    let live = c.args.live in
    let a = c.loop-i.account in
    let pages : ℕ → List Row × ℕ = λ t. page_in (slice_get c.args.books.now t) c.args.account.now.env in
    let n = none_left c.args.infos.now c.loop-i.next (nat_le (length c.args.infos.now) c.loop-i.next) refl in
    let q : kept live (stacks_now limits pages a w (drop c.loop-i.i c.args.events.now)) ≡ [] =
    ap (λ l. kept live (stacks_now limits pages a w l)) (drop_of_length-le c.args.events.now c.loop-i-test.false) ∙ kept_none live in
    (λ h. c.loop-i.invariant.fits.0 (n.0 h ∙ sym q), λ h. n.1 (c.loop-i.invariant.fits.1 h ∙ q))
