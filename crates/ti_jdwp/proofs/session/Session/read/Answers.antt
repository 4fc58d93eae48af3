use Rattle.std.proofs.Common.{ℕ, List, subst}
use Rattle.ti_jdwp.specs.declared.front.Front.{Front}
use Rattle.ti_jdwp.specs.declared.front.Front.TheVariants as front
use Rattle.ti_jdwp.specs.Talks.{Talk, IsFront}
use Rattle.ti_jdwp.proofs.Fronts.{reads_request}
use Rattle.ti_jdwp.proofs.session.Session.read.Goals as goal

pub returns-in-Request-clause-ok : goal.returns-in-Request-clause-ok
returns-in-Request-clause-ok c =
    let f = front.Request c.in-Request.first in
    let seen : IsFront c.input.result.now f = subst (λ (g : Front). IsFront c.input.result.now g) c.in-Request.is c.front_of.ensures in
    let here : IsFront c.self.inside.line.input f = subst (λ (i : List ℕ). IsFront i f) c.input.ensures seen in
    reads_request c.args.self.now c.serve.new.self c.in-Request.first c.serve.result
    (subst (λ (t : Talk). IsFront t.bytes.input f) c.self.view_is here) c.serve.ensures.ok
