use Rattle.std.proofs.Common.{◌≡◌, ◌<◌, length, ap, sym, ◌∙◌, arith}
use Rattle.ti_types.specs.declared.numbers.ThreadNo.{ThreadNo}
use Rattle.ti_agent.specs.Env.{Environment, place_in, thread_at}
use Rattle.ti_agent.proofs.Places.{name_of, place_here}
use Rattle.ti_agent.proofs.AtHome.{same_env}
use Rattle.ti_agent.proofs.env.Env.thread_at.Goals as goal

pub returns-then-index-threads-clause-thread : goal.returns-then-index-threads-clause-thread
returns-then-index-threads-clause-thread g c =
    let l = c.self.inside.desks in
    let here : c.args.index < length l = omega (arith, c.if-index-threads.true, c.threads.ensures.counted, c.self.invariant.0.count) in
    sym (name_of l c.args.index c.index.result.now c.thread.result here c.index.ensures c.thread.ensures) ∙ ap (λ (s : Environment). thread_at s.desks c.args.index) (same_env c.self.view_is)

pub returns-then-index-threads-clause-place : goal.returns-then-index-threads-clause-place
returns-then-index-threads-clause-place g c =
    let l = c.self.inside.desks in
    let here : c.args.index < length l = omega (arith, c.if-index-threads.true, c.threads.ensures.counted, c.self.invariant.0.count) in
    let is : (thread_at l c.args.index).0 ≡ c.thread.result.0 = ap (λ (x : ThreadNo). x.0) (name_of l c.args.index c.index.result.now c.thread.result here c.index.ensures c.thread.ensures) in
    sym (place_here l c.thread.result c.args.index c.self.invariant.0.in_order here is) ∙ ap (λ (s : Environment). place_in s.desks c.thread.result) (same_env c.self.view_is)
