use Rattle.std.proofs.Common.{rules}
use Rattle.ti_http.proofs.Rests.{rests_dropped}
use Rattle.ti_http.proofs.connection.Connection.written.Goals as goal

pub invariant_of-self-else-self-len : goal.invariant_of-self-else-self-len
invariant_of-self-else-self-len c =
    let old = c.self.invariant in (
      search rules,
      (old.1.0, old.1.1, old.1.2, rests_dropped c.self.inside.phase c.self.inside.input.items c.self.inside.output.items c.self.inside.asked c.self.inside.sent c.min-count.result old.1.3),
      search rules,
    )
