use Rattle.std.proofs.Common.{arith, ℕ, ◌+◌, ◌*◌, ◌<◌, ◌≤◌, ◌^◌, lt_of_not-le, pow_mono}
use Rattle.boxcar.proofs.Spans.{top_above, span_top}
use Rattle.ti_methods.proofs.slots.locate.Goals as goal

-- the highest bit of an index of 32 bits, with 32 more, is one of bit 5 to 32
below : (index top : ℕ) → index < 4294967296 → 2 ^ top ≤ index + 32 → top < 33
below index top fits low = lt_of_not-le (λ (le : 33 ≤ top). let p : 8589934592 ≤ 2 ^ top = pow_mono le in omega arith)

above : (index top : ℕ) → 2 ^ top ≤ index + 32 → index + 32 < 2 * 2 ^ top → 5 ≤ top
above index top low high = top_above (index + 32) top low high (omega arith)

pub overflow_sub-bucket : goal.overflow_sub-bucket
overflow_sub-bucket c = above c.args.index c.ilog2.result c.ilog2.ensures.power_le c.ilog2.ensures.next_power_gt

pub bucket_len-requires : goal.bucket_len-requires
bucket_len-requires c = let h = below c.args.index c.ilog2.result c.ranges.index.fits c.ilog2.ensures.power_le in omega arith

pub overflow_sub-result : goal.overflow_sub-result
overflow_sub-result c =
    let is = span_top c.ilog2.result (above c.args.index c.ilog2.result c.ilog2.ensures.power_le c.ilog2.ensures.next_power_gt) in
    let len = c.bucket_len.ensures.0 in let low = c.ilog2.ensures.power_le in omega arith

pub returns-clause-at : goal.returns-clause-at
returns-clause-at c = let low = c.ilog2.ensures.power_le in let high = c.ilog2.ensures.next_power_gt in
    let up = above c.args.index c.ilog2.result low high in let down = below c.args.index c.ilog2.result c.ranges.index.fits low in
    let is = span_top c.ilog2.result up in let len = c.bucket_len.ensures.0 in (omega arith, omega arith, omega arith)

pub returns-clause-few : goal.returns-clause-few
returns-clause-few c = let h = below c.args.index c.ilog2.result c.ranges.index.fits c.ilog2.ensures.power_le in omega arith
