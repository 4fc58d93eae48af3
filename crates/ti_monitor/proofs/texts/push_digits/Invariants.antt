use Rattle.std.specs.Prelude.{◌≡◌, ◌++◌, drop, map}
use Rattle.ti_monitor.specs.Texts.{digit_at}
use Rattle.ti_monitor.proofs.texts.push_digits.Given as goal

abbrev pub invariant-loop-place : goal.invariant-loop-place
invariant-loop-place l = l.out.items ++ map (digit_at l.number) (drop l.place-index l.places) ≡ l.fn.out.items ++ map (digit_at l.number) l.places
