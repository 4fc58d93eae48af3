use Rattle.std.proofs.Common.{◌≡◌, take}
use Rattle.ti_jdwp.specs.InForce.{greatest}
use Rattle.ti_jdwp.proofs.requests_in_force.greatest.Given as goal

-- the greatest of those so far
abbrev pub invariant-loop-request : goal.invariant-loop-request
invariant-loop-request l = l.bound ≡ greatest l.thread (take l.request-index l.list)
