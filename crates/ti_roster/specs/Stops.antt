-- What was asked about stops, and who waits.
use Rattle.std.specs.Prelude.{List}
use Rattle.std.specs.List.{fold}
use Rattle.ti_stops.specs.Stops.{StopsNow, after, no_stops, without_env, without_thread}
use Rattle.ti_roster.specs.declared.coming.Coming.{Coming}
use Rattle.ti_roster.specs.declared.coming.Coming.TheVariants.{Left, Disposed, Stop}

-- A call about stops changes them. An environment that is disposed of, and a thread that was given back, are in them no more
abbrev pub stops_after : StopsNow → Coming → StopsNow
stops_after s (Stop o call) = after s o call
stops_after s (Disposed e) = without_env s e
stops_after s (Left t) = without_thread s t
stops_after s _ = s

abbrev pub stops_of : List Coming → StopsNow
stops_of log = fold stops_after no_stops log
