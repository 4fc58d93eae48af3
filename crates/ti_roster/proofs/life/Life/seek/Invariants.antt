use Rattle.std.proofs.Common.{◌≡◌, drop}
use Rattle.ti_roster.specs.Modes.{seek}
use Rattle.ti_roster.proofs.life.Life.seek.Given as goal

-- the events before the index are not told
abbrev pub invariant-loop-index : goal.invariant-loop-index
invariant-loop-index l = seek l.modes l.from (drop l.from l.self.events) ≡ seek l.modes l.index (drop l.index l.self.events)
