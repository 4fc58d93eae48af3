use Rattle.std.proofs.Common.{◌≡◌, get_or, ◌++◌, map, ap, ◌∙◌, arith, ◌==◌}
use Rattle.ti_types.specs.declared.entry.Entry.TheVariants.{Start}
use Rattle.ti_report.specs.Told.{is_left_by}
use Rattle.ti_report.specs.declared.book.Note.{Note}
use Rattle.ti_report.specs.Books.{said_row, rows_at}
use Rattle.ti_report.proofs.BookLaws.{row_added, still_known}
use Rattle.ti_report.proofs.book.take_row.Goals as goal

pub returns-clause-rows : goal.returns-clause-rows
returns-clause-rows c e within known h more =
    let old = c.args.frames.now.items in
    let new = c.grant.new.frames.items in
    let rows = c.args.rows.now.items in
    let entries = c.args.entries.now in
    let x = get_or entries c.args.at Start in
    let row : Note = record { left = c.of-left.result; got = c.in_ok-got.got } in
    let asked : is_left_by e x ≡ (c.in-Some.env == e.0) = grind (arith, c.maker.ensures e, c.in-Some.is) in
    let g = c.in_ok-got.ensures.grows in
    let before : rows_at entries (new ++ more) rows e ≡ known = ap (λ l. rows_at entries (l ++ more) rows e) g.1 ∙ still_known entries old g.0 more rows e known h in
    let got = c.in_ok-got.ensures.got more in
    ap (λ l. map (said_row e entries (new ++ more)) l) (c.in_ok-add_row.ensures.rows e.0 within) ∙ row_added entries (new ++ more) rows c.in-Some.env row e ∙ grind (arith, asked, before, got)
