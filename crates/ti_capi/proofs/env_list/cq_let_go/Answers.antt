use Rattle.std.proofs.Common.{refl, sym}
use Rattle.ti_capi.specs.Calls.{LetGo}
use Rattle.ti_capi.proofs.Calling.{called}
use Rattle.ti_capi.proofs.env_list.cq_let_go.Goals as goal

pub returns-in-Ok : goal.returns-in-Ok
returns-in-Ok c = called _ _ _ _ _ _ _ (sym c.in-Some.ensures.value) c.in-Some-agent.is (LetGo refl c.in-Ok.ensures.steps)
