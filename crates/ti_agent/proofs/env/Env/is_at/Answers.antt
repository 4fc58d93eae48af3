use Rattle.std.proofs.Common.{◌≡◌, ◌<◌, length, ap, sym, ◌∙◌, arith, rules}
use Rattle.ti_types.specs.declared.numbers.ThreadNo.{ThreadNo}
use Rattle.ti_agent.specs.Env.{Environment, thread_at}
use Rattle.ti_agent.proofs.AtHome.{same_env}
use Rattle.ti_agent.proofs.Places.{name_of}
use Rattle.ti_agent.proofs.env.Env.is_at.Goals as goal

pub returns-then-place-threads-clause-at : goal.returns-then-place-threads-clause-at
returns-then-place-threads-clause-at g c e =
    let l = c.self.inside.desks in
    let here : c.args.place < length l = omega (arith, c.if-place-threads.true, c.threads.ensures.counted, c.self.invariant.0.count) in
    let name = name_of l c.args.place c.index.result.now c.thread.result here c.index.ensures c.thread.ensures in
    let read : (thread_at c.args.self.now.env.desks c.args.place).0 ≡ c.thread.result.0 = ap (λ (x : Environment). (thread_at x.desks c.args.place).0) (sym (same_env c.self.view_is)) ∙ ap (λ (x : ThreadNo). x.0) name in
    search rules

pub returns-then-place-threads-clause-other : goal.returns-then-place-threads-clause-other
returns-then-place-threads-clause-other g c e there same =
    let l = c.self.inside.desks in
    let here : c.args.place < length l = omega (arith, c.if-place-threads.true, c.threads.ensures.counted, c.self.invariant.0.count) in
    let name = name_of l c.args.place c.index.result.now c.thread.result here c.index.ensures c.thread.ensures in
    let read : (thread_at c.args.self.now.env.desks c.args.place).0 ≡ c.thread.result.0 = ap (λ (x : Environment). (thread_at x.desks c.args.place).0) (sym (same_env c.self.view_is)) ∙ ap (λ (x : ThreadNo). x.0) name in
    search rules
