-- What one environment is told of stops, by the list of what happened: its own items and what stops for it say all of it.
use Rattle.std.specs.Prelude.{◌≡◌, ◌==◌, ◌&&◌, ◌||◌, Bool, true, false, List, [], ◌∷◌, Some, if◌then◌else◌}
use Rattle.ti_types.specs.declared.numbers.EnvNo.{EnvNo}
use Rattle.ti_stops.specs.declared.call.StopCall.{StopCall}
use Rattle.ti_stops.specs.Shares.{call_counts, is_envs, share}
use Rattle.ti_stops.specs.Stops.{StopsNow, has_news, no_stops, outcome}
use Rattle.ti_roster.specs.declared.coming.Coming.{Coming}
use Rattle.ti_roster.specs.declared.coming.Coming.TheVariants.{Left, Disposed, Stop}
use Rattle.ti_roster.specs.Stops.{stops_after, stops_of}

-- Whether an item is about an environment's share of the stops: its own calls, the arrivals of threads that stop for it, its end,
-- and threads that are given back
abbrev pub is_for : EnvNo → StopsNow → Coming → Bool
is_for e mine (Stop o call) = call_counts e o call && (is_envs call || has_news (outcome mine o call))
is_for e mine (Disposed f) = f.0 == e.0
is_for e mine (Left t) = true
is_for e mine _ = false

-- the items that are about it, where it begins with this share
abbrev pub items_for : EnvNo → StopsNow → List Coming → List Coming
items_for e mine [] = []
items_for e mine (x ∷ log) = if is_for e mine x then x ∷ items_for e (stops_after mine x) log else items_for e mine log

-- the same of a whole list
abbrev pub own_items : EnvNo → List Coming → List Coming
own_items e log = items_for e no_stops log

-- The share of an environment is what its own items leave. What others call, and where threads stop for others, is no part of it
abbrev pub StopsFollowItems : Type 0
StopsFollowItems = (e : EnvNo) (log : List Coming) → share e (stops_of log) ≡ stops_of (own_items e log)

-- So two services in whose lists an environment's own items are the same reply the same to each of its calls about stops
abbrev pub StopRepliesAgree : Type 0
StopRepliesAgree =
    (e : EnvNo) (one other : List Coming) (call : StopCall) → is_envs call ≡ true → own_items e one ≡ own_items e other
    → outcome (stops_of one) (Some e) call ≡ outcome (stops_of other) (Some e) call
