use Rattle.std.proofs.Common.{◌≡◌, drop}
use Rattle.tiprof.specs.Asked.{digits_behind}
use Rattle.tiprof.proofs.options.digits_behind.Given as goal

-- what the digits so far and those to come make
abbrev pub invariant-loop-digit : goal.invariant-loop-digit
invariant-loop-digit l = digits_behind l.fn.front l.digits ≡ digits_behind l.number (drop l.digit-index l.digits)
