use Rattle.std.proofs.Common.{refl, rules}
use Rattle.ti_debugger.specs.Placing.{NoMethod, OfAnother}
use Rattle.ti_debugger.proofs.desk.Desk.check_class.Goals as goal

pub returns-else-class-spot-clause-refused : goal.returns-else-class-spot-clause-refused
returns-else-class-spot-clause-refused c = OfAnother c.in-Ok.class c.get_method_declaring_class.ensures.rest c.in-Ok.ensures.told (λ same. search rules) refl

pub returns-in-Err-clause-refused : goal.returns-in-Err-clause-refused
returns-in-Err-clause-refused c = NoMethod c.in-Err.error c.get_method_declaring_class.ensures.rest c.in-Err.ensures.refused c.refusal_of_class.ensures
