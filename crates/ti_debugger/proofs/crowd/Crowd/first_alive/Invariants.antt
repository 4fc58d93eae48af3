use Rattle.std.specs.Prelude.{◌≡◌, [], take}
use Rattle.ti_debugger.specs.Crowds.{alive_in}
use Rattle.ti_debugger.proofs.crowd.Crowd.first_alive.Given as goal

abbrev pub invariant-loop-watched : goal.invariant-loop-watched
invariant-loop-watched l = alive_in (take l.watched-index l.self.list.items) ≡ []
