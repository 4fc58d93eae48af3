use Rattle.std.proofs.Common.{◌≡◌, ◌+◌, ◌<◌, length}
use Rattle.std.specs.Prelude.{All}
use Rattle.std.specs.List.{fold}
use Rattle.std.specs.Vec.Iter.{into_iter_items}
use Rattle.ti_roster.specs.Roster.{MayGoBack, and_back, most_items}
use Rattle.ti_roster.proofs.roster.Roster.dispose.Given as goal

-- those that are left go back as all of them do
abbrev pub invariant-loop-desk : goal.invariant-loop-desk
invariant-loop-desk l =
    (fold and_back l.self (into_iter_items l.desk-iterator) ≡ fold and_back l.fn.self l.fn.desks.items)
    × All (λ f. MayGoBack l.self f) (into_iter_items l.desk-iterator)
    × (length l.self.items + length (into_iter_items l.desk-iterator) < most_items)
    × (l.self.limits ≡ l.fn.self.limits)
    × (l.self.user ≡ l.fn.self.user)
