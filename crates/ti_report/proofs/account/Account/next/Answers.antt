use Rattle.std.proofs.Common.{◌≡◌, Some, slice_get, slice_index, get_or, refl, sym, ap, ◌∙◌, arith, ltb-true}
use Rattle.std.proofs.lemmas.Option.{slice_get_read, slice_get-get_or}
use Rattle.ti_report.specs.declared.packed_reply.Got.TheVariants.{Nothing}
use Rattle.ti_report.specs.declared.packed_entry.Left.TheVariants.{State}
use Rattle.ti_report.specs.declared.book.Note.{Note}
use Rattle.ti_report.specs.Books.{rows_in}
use Rattle.ti_report.proofs.BookLaws.{row_get}
use Rattle.ti_report.proofs.account.Account.next.Goals as goal

pub returns-clause-next : goal.returns-clause-next
returns-clause-next c =
    let l = c.in_ok-book.ensures.lookup in
    let m = c.in_ok-rows.ensures.lookup in
    let book : slice_get c.args.books.now c.args.thread.0 ≡ Some c.in_ok-book.book.now = slice_get_read _ _ _ _ refl (ltb-true _ _ (sym l.0)) l.1 in
    let rows : slice_get c.in_ok-book.book.now.rows.items c.self.inside.env.0 ≡ Some c.in_ok-rows.rows.now =
    ap (λ s. slice_get s c.self.inside.env.0) (sym c.deref.ensures.value) ∙ slice_get_read _ _ _ _ refl (ltb-true _ _ (sym m.0)) m.1 in
    let here : Note = get_or c.as_slice-rows.result.now c.used_at-at.result (record { left = State 0; got = Nothing }) in
    let row : slice_get c.in_ok-rows.rows.now c.used_at-at.result ≡ Some here =
    ap (λ s. slice_get s c.used_at-at.result) (sym c.as_slice-rows.ensures) ∙ slice_get-get_or c.as_slice-rows.result.now c.used_at-at.result (record { left = State 0; got = Nothing }) c.if-at-rows.false in
    let got = row_get c.in_ok-book.book.now.entries.now c.in_ok-book.book.now.frames.items c.in_ok-book.book.now.rows.items c.self.inside.env c.used_at-at.result c.in_ok-rows.rows.now here rows row in
    sym (ap (λ b. slice_get (rows_in b c.args.self.now.env) (slice_index c.args.self.now.used c.args.thread.0)) book
    ∙ grind (arith, got, c.used_at-at.ensures, c.self.view_is, c.deref-2.ensures.value, c.entry-entry.ensures))
