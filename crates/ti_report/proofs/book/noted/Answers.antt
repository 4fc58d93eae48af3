use Rattle.std.proofs.Common.{◌≡◌, ap, sym, ◌∙◌, arith, append-nil, take, []}
use Rattle.std.proofs.lemmas.List.{take_all}
use Rattle.std.specs.Option.{option_map}
use Rattle.ti_types.specs.Answer.{said}
use Rattle.ti_replay.specs.Replies.{reply}
use Rattle.ti_report.specs.Books.{rows_at, rows_of}
use Rattle.ti_report.proofs.BookLaws.{told_here, rows_of_take}
use Rattle.ti_report.proofs.book.noted.Goals as goal

pub loop-at-preserved : goal.loop-at-preserved
loop-at-preserved c =
    let i = c.loop-at.at in
    let limits = c.args.limits in
    let whole = c.args.entries.now in
    let told : option_map said c.index-replies-at.result ≡ reply limits whole i =
    grind (arith, told_here c.args.replies.now i c.index-replies-at.result (omega (arith, c.requires.places, c.loop-at-test.true)), c.index-replies-at.is, c.requires.replies i) in
    record {
      rows = λ e within more.
          c.in_ok-take_row.ensures.rows e (omega (arith, within, c.loop-at.invariant.agents)) (rows_of limits whole e (take i whole)) (c.loop-at.invariant.rows e within) more
          ∙ grind (arith, told, rows_of_take limits whole e i c.loop-at-test.true);
      agents = c.in_ok-take_row.ensures.agents ∙ c.loop-at.invariant.agents;
    }

pub returns : goal.returns
returns c e within =
    ap (λ l. rows_at c.args.entries.now l c.loop-at.rows.items e) (sym (append-nil c.loop-at.frames.items))
    ∙ c.loop-at.invariant.rows e within []
    ∙ ap (rows_of c.args.limits c.args.entries.now e) (take_all c.loop-at.at c.args.entries.now c.loop-at-test.false)
