use Rattle.std.proofs.Common.{◌≡◌, ◌<◌, ℕ, ap, sym, subst, ◌∙◌, arith, length, None, false, get_or, slice_set}
use Rattle.std.proofs.lemmas.Bool.Decides.{nat_tests}
use Rattle.std.proofs.lemmas.List.{get_or_default}
use Rattle.ti_replay.specs.Outcomes.{told_now, was_for_memory}
use Rattle.ti_env.specs.Env.{EnvValue, call_refusal, with_spent}
use Rattle.ti_replay.specs.Legal.{calls_spent}
use Rattle.ti_core.specs.Thread.{ThreadState, ask_next}
use Rattle.ti_core.specs.Core.{StepResult, core_of, env_at, no_thread, no_env}
use Rattle.ti_core.proofs.MemoryLaws.{ask_memory}
use Rattle.ti_core.proofs.ReachLaws.{may_ask, ask_goes, thread_there}
use Rattle.ti_core.proofs.events.ask.Goals as goal

pub ask-requires-clause-calls : goal.ask-requires-clause-calls
ask-requires-clause-calls c =
    let s = core_of c.args.limits.now c.args.envs.now c.args.threads.now in
    let le = c.in-Some.ensures.there.1 in
    let ei = ap (λ (i : ℕ). get_or c.args.envs.now i c.index-envs-at.result) c.in-Some.ensures.there.0 ∙ get_or_default c.args.envs.now c.args.e.0 c.index-envs-at.result no_env le in
    let free : call_refusal (env_at c.args.envs.now c.args.e) c.args.t c.args.call ≡ None = subst (λ (v : EnvValue). call_refusal v c.args.t c.args.call ≡ None) ei c.in_default-admit.ensures.admitted in
    let lt : c.args.t.0 < length c.args.threads.now = thread_there s c.args.e c.args.t c.requires.reached le (grind (arith, nat_tests, free)) in
    let ti = get_or_default c.args.threads.now c.args.t.0 c.index-threads-index.result (no_thread c.args.limits.now) lt in
    let k = may_ask s c.args.e c.args.t c.args.call c.requires.reached le lt free in
    subst (λ (z : ThreadState). calls_spent c.args.e z.thread.history < z.thread.limits.calls) (sym ti) k.calls

pub returns-in-Ok-clause-envs : goal.returns-in-Ok-clause-envs
returns-in-Ok-clause-envs c =
    let s = core_of c.args.limits.now c.args.envs.now c.args.threads.now in
    let le = c.in-Some.ensures.there.1 in
    let ei = ap (λ (i : ℕ). get_or c.args.envs.now i c.index-envs-at.result) c.in-Some.ensures.there.0 ∙ get_or_default c.args.envs.now c.args.e.0 c.index-envs-at.result no_env le in
    let free : call_refusal (env_at c.args.envs.now c.args.e) c.args.t c.args.call ≡ None = subst (λ (v : EnvValue). call_refusal v c.args.t c.args.call ≡ None) ei c.in_default-admit.ensures.admitted in
    let lt : c.args.t.0 < length c.args.threads.now = thread_there s c.args.e c.args.t c.requires.reached le (grind (arith, nat_tests, free)) in
    let th : ThreadState = get_or c.args.threads.now c.args.t.0 c.index-threads-index.result in
    let off : was_for_memory (told_now c.ask.result) ≡ false = ap was_for_memory c.ask.ensures.said ∙ ask_memory th.thread.limits th c.args.e c.args.call in
    let goes = ask_goes s (was_for_memory (told_now c.ask.result)) c.args.e c.args.t c.args.call le lt free off in
    ap (λ (i : ℕ). slice_set c.args.envs.now i c.spend.new.self) c.in-Some.ensures.there.0 ∙ ap (λ (v : EnvValue). slice_set c.args.envs.now c.args.e.0 v) (c.spend.ensures ∙ ap (λ (v : EnvValue). with_spent v c.args.t) ei) ∙ ap (λ (z : StepResult). z.envs) (sym goes)

pub returns-in-Ok-clause-threads : goal.returns-in-Ok-clause-threads
returns-in-Ok-clause-threads c =
    let s = core_of c.args.limits.now c.args.envs.now c.args.threads.now in
    let le = c.in-Some.ensures.there.1 in
    let ei = ap (λ (i : ℕ). get_or c.args.envs.now i c.index-envs-at.result) c.in-Some.ensures.there.0 ∙ get_or_default c.args.envs.now c.args.e.0 c.index-envs-at.result no_env le in
    let free : call_refusal (env_at c.args.envs.now c.args.e) c.args.t c.args.call ≡ None = subst (λ (v : EnvValue). call_refusal v c.args.t c.args.call ≡ None) ei c.in_default-admit.ensures.admitted in
    let lt : c.args.t.0 < length c.args.threads.now = thread_there s c.args.e c.args.t c.requires.reached le (grind (arith, nat_tests, free)) in
    let ti = get_or_default c.args.threads.now c.args.t.0 c.index-threads-index.result (no_thread c.args.limits.now) lt in
    let th : ThreadState = get_or c.args.threads.now c.args.t.0 c.index-threads-index.result in
    let off : was_for_memory (told_now c.ask.result) ≡ false = ap was_for_memory c.ask.ensures.said ∙ ask_memory th.thread.limits th c.args.e c.args.call in
    let goes = ask_goes s (was_for_memory (told_now c.ask.result)) c.args.e c.args.t c.args.call le lt free off in
    ap (λ (v : ThreadState). slice_set c.args.threads.now c.args.t.0 v) (c.ask.ensures.next ∙ ap (λ (v : ThreadState). ask_next v.thread.limits v c.args.e c.args.call) ti) ∙ ap (λ (z : StepResult). z.threads) (sym goes)
