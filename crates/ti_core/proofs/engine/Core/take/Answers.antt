use Rattle.std.proofs.Common.{ap, sym, subst, ◌∙◌, is_some}
use Rattle.ti_core.specs.Core.{CoreState, is_uncollected}
use Rattle.ti_core.specs.Refines.{Refines}
use Rattle.ti_core.proofs.ToldLaws.{take_stands}
use Rattle.ti_core.proofs.KeptLaws.{taken_is, taken_kept}
use Rattle.ti_core.proofs.engine.Core.take.Goals as goal

pub returns-clause-refines : goal.returns-clause-refines
returns-clause-refines c = λ events k. subst (Refines events) (sym c.take_out.ensures.next) (take_stands events c.args.self.now c.args.ticket (is_some c.take_out.result) k)

pub returns-clause-answer : goal.returns-clause-answer
returns-clause-answer c = λ events k. c.take_out.ensures.answer ∙ taken_is events c.args.self.now c.args.ticket k

pub returns-clause-kept : goal.returns-clause-kept
returns-clause-kept c = λ k.
    let r = c.take_out.ensures.reached in
    ap (λ (z : CoreState). is_uncollected z k) c.take_out.ensures.next ∙ taken_kept r.0 c.args.self.now c.args.ticket k (is_some c.take_out.result) r.1 c.take_out.ensures.there
