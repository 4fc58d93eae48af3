use Rattle.std.specs.Prelude.{◌≡◌, [], take}
use Rattle.ti_debugger.specs.Crowds.{watched_in}
use Rattle.ti_debugger.proofs.crowd.Crowd.look_for.Given as goal

abbrev pub invariant-loop-place : goal.invariant-loop-place
invariant-loop-place l = watched_in l.thread (take l.place l.self.list.items) ≡ []
