-- What a chunked list ends as, where a `&mut` to one of its elements is returned.
use Rattle.std.specs.Prelude.{ℕ, List, slice_set}
use Rattle.std.specs.Borrow.{Lends, Fml, RattleType, MutBor}
use Rattle.ti_chunked.specs.contracts.chunked.Chunked.{the_row}

module _ (T : RattleType) (s : MutBor (List T.Denot)) (i : ℕ) where
  -- once the borrow r ends, the element with the index has the last value written through r
  abbrev pub lends_item : MutBor T.Denot → Fml
  lends_item r = Lends (the_row T) T s r (slice_set s.now i)
