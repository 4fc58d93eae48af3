use Rattle.std.proofs.Common.{◌≡◌, ◌<◌, ◌∙◌, ℕ, ap, sym, subst, arith, length, get_or, None}
use Rattle.std.proofs.lemmas.Bool.Decides.{nat_tests}
use Rattle.std.proofs.lemmas.List.{get_or_default}
use Rattle.ti_env.specs.Env.{EnvValue, stop_refusal}
use Rattle.ti_replay.specs.Legal.{calls_spent}
use Rattle.ti_core.specs.Thread.{ThreadState}
use Rattle.ti_core.specs.Core.{core_of, env_at, no_thread, no_env}
use Rattle.ti_core.proofs.ReachLaws.{may_stop, thread_there}
use Rattle.ti_core.proofs.events.stop.Goals as goal

pub stop-requires-clause-calls : goal.stop-requires-clause-calls
stop-requires-clause-calls c =
    let s = core_of c.args.limits.now c.args.envs.now c.args.threads.now in
    let le = c.in-Some.ensures.there.1 in
    let ei = ap (λ (i : ℕ). get_or c.args.envs.now i c.index-envs-at.result) c.in-Some.ensures.there.0 ∙ get_or_default c.args.envs.now c.args.e.0 c.index-envs-at.result no_env le in
    let free : stop_refusal (env_at c.args.envs.now c.args.e) c.args.t ≡ None = subst (λ (v : EnvValue). stop_refusal v c.args.t ≡ None) ei c.in_default-admit_stop.ensures.admitted in
    let lt : c.args.t.0 < length c.args.threads.now = thread_there s c.args.e c.args.t c.requires.reached le (grind (arith, nat_tests, free)) in
    let ti = get_or_default c.args.threads.now c.args.t.0 c.index-threads-index.result (no_thread c.args.limits.now) lt in
    let k = may_stop s c.args.e c.args.t c.requires.reached le lt free in
    subst (λ (z : ThreadState). calls_spent c.args.e z.thread.history < z.thread.limits.calls) (sym ti) k.calls
