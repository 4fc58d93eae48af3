use Rattle.std.proofs.Common.{refl, sym}
use Rattle.ti_capi.specs.Calls.{Met, NotMet}
use Rattle.ti_capi.proofs.Calling.{called}
use Rattle.ti_capi.proofs.env_list.cq_meet.Goals as goal

pub returns-in-Ok : goal.returns-in-Ok
returns-in-Ok c = called _ _ _ _ _ _ _ (sym c.in-Some.ensures.value) c.in-Some-agent.is (Met refl c.in-Ok.ensures.met)

pub returns-in-Err : goal.returns-in-Err
returns-in-Err c = called _ _ _ _ _ _ _ (sym c.in-Some.ensures.value) c.in-Some-agent.is (NotMet c.in-Err.error c.number.ensures c.in-Err.ensures.kept)
