use Rattle.std.proofs.Common.{ℕ, List, subst}
use Rattle.ti_http.specs.declared.head.Seen.{Seen}
use Rattle.ti_http.specs.declared.head.Seen.TheVariants as seen
use Rattle.ti_http.specs.Heads.{Sees}
use Rattle.ti_http.specs.Talks.{Talk}
use Rattle.ti_http.proofs.Steps.{reads_broken, takes_broken}
use Rattle.ti_http.proofs.connection.Connection.read.Goals as goal
use Rattle.ti_http.proofs.connection.Connection.read.Goals.{After-refuse}

-- the input is no head
sees : (c : After-refuse) → Sees c.args.self.now.hosts c.args.self.now.input (seen.Broken c.in-Broken.refusal)
sees c =
    let hosts = c.self.inside.hosts in
    let looked : Sees hosts c.as_slice.result.now (seen.Broken c.in-Broken.refusal) = subst (λ (s : Seen). Sees hosts c.as_slice.result.now s) c.in-Broken.is c.look.ensures in
    let here : Sees hosts c.self.inside.input.items (seen.Broken c.in-Broken.refusal) = subst (λ (input : List ℕ). Sees hosts input (seen.Broken c.in-Broken.refusal)) c.as_slice.ensures.value looked in
    subst (λ (t : Talk). Sees t.hosts t.input (seen.Broken c.in-Broken.refusal)) c.self.view_is here

pub returns-in-Broken-clause-action : goal.returns-in-Broken-clause-action
returns-in-Broken-clause-action c =
    reads_broken c.args.self.now c.refuse.new.self c.args.now c.in-Broken.refusal c.refuse.result (sees (goal.at.returns-in-Broken-clause-action c).After-refuse) c.refuse.ensures.action

pub returns-in-Broken-clause-free : goal.returns-in-Broken-clause-free
returns-in-Broken-clause-free c = takes_broken c.args.self.now c.in-Broken.refusal c.refuse.result (sees (goal.at.returns-in-Broken-clause-free c).After-refuse)
