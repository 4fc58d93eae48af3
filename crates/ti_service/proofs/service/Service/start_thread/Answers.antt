use Rattle.std.proofs.Common.{rules, inl, inr, refl, ◌∙◌}
use Rattle.ti_service.specs.Starting.{DoesNotStart, WaitsToStart}
use Rattle.ti_service.proofs.Starts.{Goes, goes_barred, goes_busy}
use Rattle.ti_service.proofs.service.Service.start_thread.Goals as goal

pub loop-init : goal.loop-init
loop-init g c = (refl, record { looked = (0, refl); cell = refl; stayed = (0, refl) })

pub returns-in-Ok-clause-started : goal.returns-in-Ok-clause-started
returns-in-Ok-clause-started g c =
    let k : Goes c.args.self.now.view c.args.fresh c.loop.self.view c.loop.fresh = c.loop.invariant.1 in record {
      looked = k.looked.0;
      mid = c.loop.self.view;
      looks = k.looked.1;
      barred = k.stayed.0;
      thread = c.loop.fresh;
      stays = k.stayed.1;
      then = c.in-Ok.ensures.started;
    }

pub returns-in-Ok-clause-thread : goal.returns-in-Ok-clause-thread
returns-in-Ok-clause-thread g c = c.in-Ok.ensures.started.started.starts.cell ∙ c.loop.invariant.1.cell

pub loop-preserved-in-Err-Busy-default : goal.loop-preserved-in-Err-Busy-default
loop-preserved-in-Err-Busy-default g c =
    let b = c.in-Err-Busy-default in
    let k : Goes c.args.self.now.view c.args.fresh c.loop.self.view c.loop.fresh = c.loop.invariant.1 in (
      c.start_thread_now-tried.ensures.cell ∙ c.loop.invariant.0,
      goes_busy c.loop.self c.start_thread_now-tried.new.self c.args.self.now.view c.args.fresh c.loop.fresh b.again b.field-0-0 b.field-0-0-is k.looked k.cell k.stayed b.ensures.refused,
    )

pub loop-preserved : goal.loop-preserved
loop-preserved g c =
    let b = c.in-Err-Barred-default in
    let k : Goes c.args.self.now.view c.args.fresh c.loop.self.view c.loop.fresh = c.loop.invariant.1 in (
      c.start_thread_now-tried.ensures.cell ∙ c.loop.invariant.0,
      goes_barred c.loop.self c.start_thread_now-tried.new.self c.args.self.now.view c.args.fresh c.loop.fresh b.again b.field-0-0 b.field-0-0-is k.looked k.cell k.stayed b.ensures.refused,
    )

pub returns-in-Err : goal.returns-in-Err
returns-in-Err g c =
    let new = c.start_thread_now-tried.new.self.view in
    let k : Goes c.args.self.now.view c.args.fresh c.loop.self.view c.loop.fresh = c.loop.invariant.1 in
    let refused : WaitsToStart c.args.self.now.view c.args.fresh (λ v f. DoesNotStart v new f c.in-Err.refused.1 c.in-Err.refused.0) = elim c.in-Err.ensures.refused [
      | inl d ↦ record {
        looked = k.looked.0;
        mid = c.loop.self.view;
        looks = k.looked.1;
        barred = k.stayed.0;
        thread = c.loop.fresh;
        stays = k.stayed.1;
        then = d;
      }
      | inr u ↦ absurd (search rules)
    ] in
    record { cell = c.start_thread_now-tried.ensures.cell ∙ c.loop.invariant.0; started = tt; thread = tt; refused = refused; waited = search rules }
