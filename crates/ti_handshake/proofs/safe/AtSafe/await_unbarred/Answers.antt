use Rattle.ti_handshake.proofs.Owners.{looks_safe}
use Rattle.ti_handshake.proofs.safe.AtSafe.await_unbarred.Goals as goal

pub invariant_of-self : goal.invariant_of-self
invariant_of-self g c = looks_safe _ _ _ _ c.self.invariant c.await_unbarred.ensures.cell c.await_unbarred.ensures.news
