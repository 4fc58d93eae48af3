use Rattle.std.proofs.Common.{rules, inl, inr, refl, ◌∙◌, subst}
use Rattle.ti_handshake.specs.Thread.{Runner}
use Rattle.ti_service.specs.Starting.{DoesNotEnd, EndsThread, WaitsThen}
use Rattle.ti_service.proofs.Starts.{ends_busy}
use Rattle.ti_service.proofs.service.Service.end_thread.Goals as goal

pub loop-init : goal.loop-init
loop-init g c = (refl, refl, record { looked = (0, refl) })

pub returns-in-Ok-clause-ended : goal.returns-in-Ok-clause-ended
returns-in-Ok-clause-ended g c = record {
  times = c.loop.invariant.2.looked.0;
  mid = c.loop.self.view;
  looks = c.loop.invariant.2.looked.1;
  then = subst (λ (r : Runner). EndsThread c.loop.self.view c.end_thread_now-tried.new.self.view r c.in-Ok.ended) c.loop.invariant.1 c.in-Ok.ensures.ended;
}

pub loop-preserved : goal.loop-preserved
loop-preserved g c = (
  c.end_thread_now-tried.ensures.cell ∙ c.loop.invariant.0,
  c.in-Err-Busy-default.ensures.back ∙ c.loop.invariant.1,
  record { looked = ends_busy c.loop.self c.end_thread_now-tried.new.self c.args.self.now.view c.loop.running.view.subject.thread c.in-Err-Busy-default.field-0-0 c.loop.invariant.2.looked c.in-Err-Busy-default.ensures.refused },
)

pub returns-in-Err : goal.returns-in-Err
returns-in-Err g c =
    let new = c.end_thread_now-tried.new.self.view in
    let e = c.in-Err.refused.0 in
    let refused : WaitsThen c.args.self.now.view (λ v. DoesNotEnd v new c.args.running.view.subject.thread e) = elim c.in-Err.ensures.refused [
      | inl d ↦ record {
        times = c.loop.invariant.2.looked.0;
        mid = c.loop.self.view;
        looks = c.loop.invariant.2.looked.1;
        then = subst (λ (r : Runner). DoesNotEnd c.loop.self.view new r.view.subject.thread e) c.loop.invariant.1 d;
      }
      | inr u ↦ absurd (search rules)
    ] in
    record { cell = c.end_thread_now-tried.ensures.cell ∙ c.loop.invariant.0; ended = tt; refused = refused; waited = search rules; back = c.in-Err.ensures.back ∙ c.loop.invariant.1 }
