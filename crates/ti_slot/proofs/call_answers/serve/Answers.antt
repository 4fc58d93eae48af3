use Rattle.std.proofs.Common.{◌≡◌, ◌∷◌, ap, subst, sym, ◌∙◌, arith}
use Rattle.std.specs.List.{fold}
use Rattle.ti_ops.specs.declared.status.CallStatus.TheVariants.{Answered}
use Rattle.ti_ops.specs.Statuses.{with_status}
use Rattle.ti_ops.specs.Ops.{Ops}
use Rattle.ti_replay.specs.View.{after, called}
use Rattle.ti_slot.specs.Condition.{view_of}
use Rattle.ti_slot.specs.Waiting.{entries_of, AreReady, said_in, answers_of, delivered}
use Rattle.ti_slot.specs.Tickets.{AreAwaited, AreApart}
use Rattle.ti_slot.proofs.CallStatusLaws.{one_served}
use Rattle.ti_slot.proofs.call_answers.serve.Goals as goal

pub loop-p-preserved : goal.loop-p-preserved
loop-p-preserved c =
    let o = c.loop-p.ops in
    let r = c.take_first.new.self in
    let d = c.deliver.new.self in
    let p = c.in-Some.p in
    let k = c.loop-p.invariant in
    let w = view_of c.loop-p.condition c.loop-p.frames.frames in
    let a = c.answer_by_frames-answer.result in
    let ew : o.waiting ≡ p ∷ r.waiting = c.in-Some.ensures.first in
    let fr : r.statuses ≡ o.statuses = ap (λ (z : Ops). z.statuses) c.in-Some.ensures.rest in
    let dw : d.waiting ≡ r.waiting = ap (λ (z : Ops). z.waiting) c.deliver.ensures in
    let df : d.statuses ≡ with_status p.ticket (Answered a) o.statuses = ap (λ (z : Ops). z.statuses) c.deliver.ensures ∙ ap (with_status p.ticket (Answered a)) fr in
    let cv : view_of c.take_call.new.condition c.take_call.new.frames.frames ≡ called w p.ticket.env p.call = c.take_call.ensures.view in
    let apart = subst AreApart ew k.apart in
    let s = one_served w p r.waiting o.statuses a (subst (AreAwaited o.statuses) ew k.awaited) apart (c.answer_by_frames-answer.ensures p.ticket.env) in
    record {
      ready = rw dw (subst (AreReady c.args.limits.now) ew k.ready).1;
      calls = grind (arith, ew, dw, k.calls);
      awaited = rw (dw, df) s.0;
      apart = rw dw apart.1;
      depth = c.take_call.ensures.depth ∙ k.depth;
      view = rw (dw, cv) (ap (λ ws. fold after w (entries_of ws)) (sym ew) ∙ k.view);
      given = rw (dw, df, cv) (s.1 ∙ ap (λ ws. delivered (answers_of w ws) (said_in o.statuses)) (sym ew) ∙ k.given);
      window = ap (λ (z : Ops). z.window) c.deliver.ensures ∙ ap (λ (z : Ops). z.window) c.in-Some.ensures.rest ∙ k.window;
    }
