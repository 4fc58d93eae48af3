-- Counters that stay at their greatest value, and the buckets of a histogram.
use Rattle.std.specs.Prelude.{ℕ, ◌+◌, min, nat_le, if◌then◌else◌}

-- a counter of 64 bits with more added
abbrev pub added : ℕ → ℕ → ℕ
added counter more = min (counter + more) 18446744073709551615

-- a bucket after a time: it has one more if its bound is not below the time
abbrev pub bucket_with : ℕ → ℕ → ℕ → ℕ
bucket_with bound counter nanos = if nat_le nanos bound then added counter 1 else counter
