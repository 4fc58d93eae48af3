use Rattle.std.proofs.Common.{◌≡◌, ◌++◌, ◌<◌, List, take, length}
use Rattle.ti_types.specs.declared.numbers.EnvNo.{EnvNo}
use Rattle.ti_types.specs.declared.place.Frame.{Frame}
use Rattle.ti_report.specs.Books.{rows_at, rows_of}
use Rattle.ti_report.proofs.book.noted.Given as goal

-- the rows are those of the first entries, whatever frames come after
abbrev pub invariant-loop-at : goal.invariant-loop-at
invariant-loop-at l = record {
  rows : (e : EnvNo) → e.0 < l.fn.limits.envs → (more : List Frame) → rows_at l.entries (l.frames.items ++ more) l.rows.items e ≡ rows_of l.fn.limits l.entries e (take l.at l.entries);
  agents : length l.rows.items ≡ l.fn.limits.envs;
}
