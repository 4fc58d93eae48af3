use Rattle.std.proofs.Common.{◌++◌, ◌∷◌, ◌||◌, [], ap, sym, subst, ◌∙◌}
use Rattle.ti_replay.specs.Outcomes.{told_now, happening, was_for_memory}
use Rattle.ti_core.specs.Core.{CoreState, is_uncollected}
use Rattle.ti_core.specs.Refines.{Refines}
use Rattle.ti_core.proofs.ToldLaws.{steps}
use Rattle.ti_core.proofs.KeptLaws.{kept_goes, posted_is, ticket_fresh, ticket_as}
use Rattle.ti_replay.specs.Refused.{is_refusal}
use Rattle.ti_replay.proofs.RefusedLaws.{refusals_keep}
use Rattle.ti_core.proofs.engine.Core.step.Goals as goal

pub returns-clause-refines : goal.returns-clause-refines
returns-clause-refines c = λ events k.
    let h = happening c.args.event (told_now c.follow.result) in
    subst (Refines (events ++ h ∷ [])) (sym c.follow.ensures.next) (steps events c.args.self.now h k).refines

pub returns-clause-outcome : goal.returns-clause-outcome
returns-clause-outcome c = λ events k.
    let h = happening c.args.event (told_now c.follow.result) in
    c.follow.ensures.told ∙ (steps events c.args.self.now h k).told

pub returns-clause-ticket : goal.returns-clause-ticket
returns-clause-ticket c = λ events k. ticket_as events c.args.self.now c.args.event c.follow.result k c.follow.ensures.ticket

pub returns-clause-fresh : goal.returns-clause-fresh
returns-clause-fresh c = ticket_fresh c.follow.ensures.reached.0 c.args.self.now c.args.event c.follow.result c.follow.ensures.reached.1 c.follow.ensures.ticket

pub returns-clause-kept : goal.returns-clause-kept
returns-clause-kept c = λ k.
    let s = c.args.self.now in
    let w = was_for_memory (told_now c.follow.result) in
    let h = happening c.args.event (told_now c.follow.result) in
    let r = c.follow.ensures.reached in
    ap (λ (z : CoreState). is_uncollected z k) c.follow.ensures.next ∙ kept_goes r.0 s w c.args.event k r.1
    ∙ ap (λ b. is_uncollected s k || b) (posted_is s h c.args.event c.follow.result k c.follow.ensures.told c.follow.ensures.ticket)

pub returns-clause-refused : goal.returns-clause-refused
returns-clause-refused c = λ events k r.
    let h = happening c.args.event (told_now c.follow.result) in
    let told = c.follow.ensures.told ∙ (steps events c.args.self.now h k).told in
    refusals_keep c.args.self.now.limits events h (ap is_refusal (sym told) ∙ r)
