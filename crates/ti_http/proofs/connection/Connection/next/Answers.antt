use Rattle.std.proofs.Common.{◌<◌, length, drop, subst, arith}
use Rattle.std.proofs.lemmas.List.{length-drop}
use Rattle.ti_http.specs.declared.connection.Action.TheVariants.{Write}
use Rattle.ti_http.specs.Talks.{Talk, Goes}
use Rattle.ti_http.proofs.Steps.{writes_first}
use Rattle.ti_http.proofs.connection.Connection.next.Goals as goal

pub returns-then-self-len-clause-action : goal.returns-then-self-len-clause-action
returns-then-self-len-clause-action c =
    let some : 0 < length (drop c.self.inside.sent c.self.inside.output.items) = omega (arith, length-drop c.self.inside.sent c.self.inside.output.items, c.if-self-len.true, c.len.ensures) in
    subst (λ (t : Talk). Goes t c.args.now Write t) c.self.view_is (writes_first _ _ c.args.now some)
