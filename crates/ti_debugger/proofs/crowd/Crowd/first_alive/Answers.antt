use Rattle.std.proofs.Common.{◌≡◌, ◌<◌, List, length, get_or, sym, subst}
use Rattle.ti_debugger.proofs.CrowdLaws.{first_there}
use Rattle.ti_debugger.proofs.crowd.Crowd.first_alive.Goals as goal
use Rattle.ti_debugger.specs.declared.watched.Watched.{Watched}

pub returns-then-not-watched : goal.returns-then-not-watched
returns-then-not-watched c =
    let same = c.deref-watched-items.ensures.value in
    let place = c.loop-watched.watched-index in
    let within = subst (λ (xs : List Watched). place < length xs) same c.loop-watched-test.true in
    let is = subst (λ (xs : List Watched). c.watched-item.result ≡ get_or xs place c.watched-item.result) same c.watched-item.is in
    sym (first_there _ place c.watched-item.result within c.loop-watched.invariant is c.if-not-watched.true)
