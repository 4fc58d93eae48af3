-- The orders of readings.
use Rattle.std.proofs.Common.{◌≡◌, ℕ, zero, suc, List, [], ◌∷◌, refl, ap}
use Rattle.std.specs.Prelude.{slice_index_or, slice_set}
use Rattle.ti_monitor.specs.declared.monitor.ReadingNo.{ReadingNo}
use Rattle.ti_monitor.specs.declared.reading.Order.{Order}
use Rattle.ti_monitor.specs.declared.running.Running.{Running}
use Rattle.ti_monitor.specs.Monitors.{order_of, orders_of}

-- the reading at an index, if there is one, went on
pub orders_item : (l : List Running) (n : ℕ) (r d : Running) → order_of r ≡ order_of (slice_index_or l n d) → orders_of (slice_set l n r) ≡ orders_of l
orders_item [] n r d same = refl
orders_item (y ∷ l) zero r d same = ap (λ (o : ReadingNo × Order). o ∷ orders_of l) same
orders_item (y ∷ l) (suc n) r d same = ap (λ (os : List (ReadingNo × Order)). order_of y ∷ os) (orders_item l n r d same)
