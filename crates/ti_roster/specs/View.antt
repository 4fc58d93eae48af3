-- What a seat knows, and how each step changes it.
use Rattle.std.specs.Prelude.{All, ℕ, ◌+◌, ◌++◌, ◌≤◌, true, false, List, [], ◌∷◌, None}
use Rattle.ti_types.specs.declared.limits.Limits.{Limits}
use Rattle.ti_roster.specs.declared.coming.Coming.{Coming}
use Rattle.ti_roster.specs.declared.view.RosterView.{RosterView}
use Rattle.ti_roster.specs.Log.{Log}

-- the view of the first seat
abbrev pub first_view : Limits → RosterView
first_view limits = record { limits = limits; seen = []; found = []; looked = []; taken = 0; made = 0; holds = false; place = None }

-- the view with the list seen whole, which it holds
abbrev pub holding : RosterView → List Coming → RosterView
holding v log = record { limits = v.limits; seen = log; found = log; looked = v.looked; taken = v.taken + 1; made = v.made; holds = true; place = v.place }

-- the view with the roster that it stored
abbrev pub stored : RosterView → Log → RosterView
stored v r = record { limits = v.limits; seen = r.items; found = v.found; looked = v.looked; taken = v.taken; made = v.made; holds = false; place = r.user }

-- the view with one more look, at which so much had happened
abbrev pub glanced : RosterView → ℕ → RosterView
glanced v count = record { limits = v.limits; seen = v.seen; found = v.found; looked = v.looked ++ count ∷ []; taken = v.taken; made = v.made; holds = v.holds; place = v.place }

-- no look showed more than this
abbrev pub AreWithin : ℕ → List ℕ → Type 0
AreWithin count looked = All (λ n. n ≤ count) looked

-- the view of a seat from which one more was made
abbrev pub splitter : RosterView → RosterView
splitter v = record { limits = v.limits; seen = v.seen; found = v.found; looked = v.looked; taken = v.taken; made = v.made + 1; holds = v.holds; place = v.place }

-- A seat that was made from another knows what that one knew. It has not looked, has made none, and is no environment's
abbrev pub split_off : RosterView → RosterView
split_off v = record { limits = v.limits; seen = v.seen; found = v.found; looked = []; taken = 0; made = 0; holds = false; place = None }
