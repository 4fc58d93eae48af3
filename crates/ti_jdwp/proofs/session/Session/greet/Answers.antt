use Rattle.std.proofs.Common.{◌≤◌, length, subst, sym}
use Rattle.ti_jdwp.specs.Lines.{Bytes}
use Rattle.ti_jdwp.proofs.Shorter.{shorter}
use Rattle.ti_jdwp.proofs.session.Session.greet.Goals as goal

pub invariant_of-self-2 : goal.invariant_of-self-2
invariant_of-self-2 c =
    subst (λ (b : Bytes). length b.input ≤ 65536) (sym c.in_ok-greet.ensures.ok) (shorter 14 c.self.inside.line.input 65536 c.self.invariant)
