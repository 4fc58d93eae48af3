-- The least limits, for values that nobody sees.
use Rattle.std.proofs.Common.{true, lit≤}
use Rattle.ti_types.specs.declared.limits.Limits.{Limits}

abbrev pub least : Limits
least = record { threads = 1; envs = 1; depth = 1; own = 1; calls = 1; window = 1; kept = true; in_range = ((lit≤ tt, lit≤ tt), (lit≤ tt, lit≤ tt), (lit≤ tt, lit≤ tt), (lit≤ tt, lit≤ tt), (lit≤ tt, lit≤ tt), (lit≤ tt, lit≤ tt)) }
