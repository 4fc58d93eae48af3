-- Stops after one more coming or going.
use Rattle.std.proofs.Common.{◌≡◌, List, [], ◌∷◌, ◌++◌, sym, ap, ◌∙◌}
use Rattle.std.proofs.lemmas.List.Sums.{fold-append}
use Rattle.ti_stops.specs.Stops.{StopsNow, no_stops}
use Rattle.ti_roster.specs.declared.coming.Coming.{Coming}
use Rattle.ti_roster.specs.Stops.{stops_after, stops_of}

pub stops_more : (xs : List Coming) (x : Coming) → stops_of (xs ++ x ∷ []) ≡ stops_after (stops_of xs) x
stops_more xs x = fold-append stops_after no_stops xs (x ∷ [])

-- these are still the stops of the list, if they are as one more coming or going leaves them
pub still_stops : (xs ys : List Coming) (x : Coming) (s t : StopsNow) → ys ≡ xs ++ x ∷ [] → s ≡ stops_of xs → t ≡ stops_after s x → t ≡ stops_of ys
still_stops xs ys x s t items is next = next ∙ ap (λ (r : StopsNow). stops_after r x) is ∙ sym (ap stops_of items ∙ stops_more xs x)
