use Rattle.std.proofs.Common.{◌≡◌, ap, rules, ◌∙◌}
use Rattle.ti_service.specs.Classes.{classes_of}
use Rattle.ti_debugger.specs.declared.desk.Desk.{Desk}
use Rattle.ti_debugger.specs.Debuggers.{DebuggerValue}
use Rattle.ti_debugger.proofs.TellLaws.{told_on, told_at}
use Rattle.ti_debugger.proofs.debugger.Debugger.tick.Goals as goal

pub returns-clause-told : goal.returns-clause-told
returns-clause-told c =
    let log = classes_of c.tell_classes.new.desk.agent in
    let n = c.tend_stops.new.desk.next_class in
    let first = c.tend_stops.ensures.rest.classes ∙ (c.tell_lives.ensures.rest.classes ∙ (c.meet_if_due.ensures.classes ∙ ap (λ (d : DebuggerValue). d.next_class) c.self.view_is)) in
    let known : classes_of c.settle_all.new.self.agent ≡ log = search rules in
    told_at log _ n _ _ _ _ _ _ known first (ap (λ (d : Desk). d.next_class) c.settle_all.ensures.rest) (ap (λ (d : DebuggerValue). d.session) c.self.view_is)
    (told_on log n n _ _ _ _ (told_on log n n n _ _ _ (c.tell_lives.ensures.told log n) (c.tend_stops.ensures.told log n)) c.tell_classes.ensures.told)
