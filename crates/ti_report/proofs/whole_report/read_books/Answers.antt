use Rattle.std.proofs.Common.{◌≡◌, ◌∷◌, [], length-append, true, false, IfSome, IfNone, length, ap, sym, ◌∙◌, subst, arith}
use Rattle.ti_types.specs.declared.numbers.ThreadNo.{ThreadNo}
use Rattle.ti_replay.specs.Legal.{is_legal}
use Rattle.ti_report.specs.Told.{history_at}
use Rattle.ti_report.specs.Books.{IsBook}
use Rattle.ti_report.proofs.FitLaws.{at_place, all_more, books_more}
use Rattle.ti_report.proofs.whole_report.read_books.Goals as goal

pub returns-in-None-clause-none : goal.returns-in-None-clause-none
returns-in-None-clause-none c =
    let t : ThreadNo = record { 0 = c.loop-i.i } in
    let here : history_at c.args.histories.now t ≡ c.as_slice.result.now = at_place c.args.histories.now c.loop-i.i c.index-histories-i.result _ c.loop-i-test.true c.index-histories-i.is ∙ sym c.as_slice.ensures in
    let bad = subst (λ o. IfNone o (is_legal c.args.limits c.as_slice.result.now ≡ false)) c.in-None.is c.in_ok-book.ensures.illegal in
    (t, omega (arith, c.loop-i-test.true, c.requires), ap (is_legal c.args.limits) here ∙ bad)

pub loop-i-preserved : goal.loop-i-preserved
loop-i-preserved c =
    let limits = c.args.limits in
    let t : ThreadNo = record { 0 = c.loop-i.i } in
    let here : history_at c.args.histories.now t ≡ c.as_slice.result.now = at_place c.args.histories.now c.loop-i.i c.index-histories-i.result _ c.loop-i-test.true c.index-histories-i.is ∙ sym c.as_slice.ensures in
    let legal = subst (λ o. IfSome o (λ b. is_legal limits c.as_slice.result.now ≡ true)) c.in-Some.is c.in_ok-book.ensures.legal in
    let book = subst (λ o. IfSome o (IsBook limits c.as_slice.result.now)) c.in-Some.is c.in_ok-book.ensures.book in
    record {
      count = ap length c.in_ok-push-in-Some.ensures.items ∙ omega (arith, length-append c.loop-i.books.items (c.in-Some.book ∷ []), c.loop-i.invariant.count);
      books = rw c.in_ok-push-in-Some.ensures.items (books_more limits c.args.histories.now c.loop-i.books.items c.in-Some.book c.loop-i.i c.loop-i.invariant.count c.loop-i.invariant.books (subst (λ h. IsBook limits h c.in-Some.book) (sym here) book));
      legal = all_more (λ t. is_legal limits (history_at c.args.histories.now t) ≡ true) c.loop-i.i c.loop-i.invariant.legal (ap (is_legal limits) here ∙ legal);
    }

pub returns-clause-some : goal.returns-clause-some
returns-clause-some c t l = c.loop-i.invariant.books t (omega (arith, l, c.loop-i-test.false, c.requires))
