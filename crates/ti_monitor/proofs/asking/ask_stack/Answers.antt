use Rattle.std.proofs.Common.{◌≡◌, subst, true}
use Rattle.ti_types.specs.declared.error.TiError.TheVariants.{ThreadNotAlive}
use Rattle.ti_slot.specs.declared.asked.Asked.{Asked as AskedOf}
use Rattle.ti_slot.specs.declared.asked.Asked.TheVariants.{Answered}
use Rattle.ti_monitor.specs.Asking.{Asks, IsNotAlive, newest}
use Rattle.ti_monitor.proofs.ProbeLaws.{asked_told, refused_not_alive, refused_told}
use Rattle.ti_monitor.proofs.asking.ask_stack.Goals as goal

pub returns-in-Ok-Answered-clause-asks : goal.returns-in-Ok-Answered-clause-asks
returns-in-Ok-Answered-clause-asks c =
    let a = c.args.agent.now in
    let b = c.post_now.new.self in
    let w = c.args.watched.now in
    let asked : Asks a b w.thread newest (Answered c.in-Ok-Answered.answer) =
    subst (λ (r : AskedOf). Asks a b w.thread newest r) c.in-Ok-Answered.field-0-is (c.in-Ok-Answered.ensures.posts, c.in-Ok-Answered.ensures.home) in
    asked_told a b w c.in-Ok-Answered.answer c.told_by.result asked c.told_by.ensures

pub returns-in-Err-clause-asks : goal.returns-in-Err-clause-asks
returns-in-Err-clause-asks c =
    let a = c.args.agent.now in
    let b = c.post_now.new.self in
    let w = c.args.watched.now in
    let error = c.in-Err.error in
    let not_alive : error ≡ ThreadNotAlive → IsNotAlive a b w.thread newest =
    λ dead. refused_not_alive a b w.thread newest true error c.in-Err.ensures.refused c.in-Err.ensures.unchanged dead in
    refused_told a b w error c.refused_by.result c.refused_by.ensures not_alive
