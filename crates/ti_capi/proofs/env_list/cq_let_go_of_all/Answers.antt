use Rattle.std.proofs.Common.{refl, sym}
use Rattle.ti_capi.specs.Calls.{AllGone}
use Rattle.ti_capi.proofs.Calling.{called}
use Rattle.ti_capi.proofs.env_list.cq_let_go_of_all.Goals as goal

pub returns-in-Ok : goal.returns-in-Ok
returns-in-Ok c = called _ _ _ _ _ _ _ (sym c.in-Some.ensures.value) c.in-Some-agent.is (AllGone refl c.in-Ok.ensures.steps)
