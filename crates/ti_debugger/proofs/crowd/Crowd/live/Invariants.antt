use Rattle.std.specs.Prelude.{◌≡◌, take}
use Rattle.ti_debugger.specs.Crowds.{live_in}
use Rattle.ti_debugger.proofs.crowd.Crowd.live.Given as goal

abbrev pub invariant-loop-one : goal.invariant-loop-one
invariant-loop-one l = l.numbers.items ≡ live_in (take l.one-index l.self.list.items)
