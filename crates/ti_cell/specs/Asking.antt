-- What a call leaves that is asked and answered in one hold.
use Rattle.std.specs.Prelude.{◌≡◌}
use Rattle.ti_types.specs.declared.answer.Answer.{Answer}
use Rattle.ti_types.specs.declared.call.Call.{Call}
use Rattle.ti_types.specs.declared.numbers.EnvNo.{EnvNo}
use Rattle.ti_slot.specs.declared.asked.Asked.TheVariants.{Answered}
use Rattle.ti_slot.specs.Thread.{Thread, IsAsked}
use Rattle.ti_cell.specs.declared.view.View.{View}
use Rattle.ti_cell.specs.View.{holding, stored}
use Rattle.ti_cell.specs.Rule.{IsTaken}

-- the seat took a slot, asked it the call, which was answered so, and stored it as the call left it
pub record AsksAtOnce (old new : View) (env : EnvNo) (call : Call) (answer : Answer) : Type 0 where
  pub slot : Thread
  pub left : Thread
  pub taken : IsTaken old slot
  pub asked : IsAsked slot left env call (Answered answer)
  pub store : new ≡ stored (holding old slot.history slot.uncollected) left.history left.uncollected
