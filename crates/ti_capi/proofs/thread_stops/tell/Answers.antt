use Rattle.std.proofs.Common.{inl, inr, refl, sym}
use Rattle.ti_capi.specs.Stops.{ReachTold, ReachUntold}
use Rattle.ti_capi.proofs.Stopping.{reached}
use Rattle.ti_capi.proofs.thread_stops.tell.Goals as goal

pub returns-in-Ok-Stops : goal.returns-in-Ok-Stops
returns-in-Ok-Stops c =
    reached _ _ _ _ c.args.what c.thread-number.result c.call.result _ _ _ (sym c.in-Some.ensures.value) c.in-Some-thread.is c.call.ensures c.thread-number.ensures (ReachTold _ refl c.in-Ok-Stops.ensures.cell c.in-Ok-Stops.ensures.took (inl c.in-Ok-Stops.field-0-is))

pub returns-in-Ok-Waits : goal.returns-in-Ok-Waits
returns-in-Ok-Waits c =
    reached _ _ _ _ c.args.what c.thread-number.result c.call.result _ _ _ (sym c.in-Some.ensures.value) c.in-Some-thread.is c.call.ensures c.thread-number.ensures (ReachTold _ refl c.in-Ok-Waits.ensures.cell c.in-Ok-Waits.ensures.took (inr c.in-Ok-Waits.field-0-is))

pub returns-in-Err : goal.returns-in-Err
returns-in-Err c =
    reached _ _ _ _ c.args.what c.thread-number.result c.call.result _ _ _ (sym c.in-Some.ensures.value) c.in-Some-thread.is c.call.ensures c.thread-number.ensures (ReachUntold c.in-Err.error c.number.ensures c.in-Err.ensures.refused refl)
