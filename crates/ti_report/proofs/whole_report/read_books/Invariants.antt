use Rattle.std.proofs.Common.{◌≡◌, ◌<◌, true, length, Some, slice_get}
use Rattle.ti_types.specs.declared.numbers.ThreadNo.{ThreadNo}
use Rattle.ti_replay.specs.Legal.{is_legal}
use Rattle.ti_report.specs.declared.book.Book.{Book}
use Rattle.ti_report.specs.Told.{history_at}
use Rattle.ti_report.specs.Books.{IsBook}
use Rattle.ti_report.proofs.whole_report.read_books.Given as goal

abbrev pub invariant-loop-i : goal.invariant-loop-i
invariant-loop-i l = record {
  count : length l.books.items ≡ l.i;
  books : (t : ThreadNo) → t.0 < l.i → (b : Book) × (slice_get l.books.items t.0 ≡ Some b) × IsBook l.fn.limits (history_at l.histories t) b;
  legal : (t : ThreadNo) → t.0 < l.i → is_legal l.fn.limits (history_at l.histories t) ≡ true;
}
