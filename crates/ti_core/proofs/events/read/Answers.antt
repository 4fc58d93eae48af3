use Rattle.std.proofs.Common.{◌≡◌, ◌<◌, ℕ, ap, sym, subst, ◌∙◌, arith, length, None, false, get_or, slice_set, to_z, of_z, w32}
use Rattle.std.proofs.lemmas.Bool.Decides.{nat_tests}
use Rattle.std.proofs.lemmas.Int.{to_z-of_z}
use Rattle.std.proofs.lemmas.List.{get_or_default}
use Rattle.ti_replay.specs.Outcomes.{told_now, was_for_memory}
use Rattle.ti_env.specs.Env.{EnvValue, read_refusal, with_spent}
use Rattle.ti_replay.specs.Legal.{calls_spent}
use Rattle.ti_core.specs.Thread.{ThreadState, read_next}
use Rattle.ti_core.specs.Core.{StepResult, core_of, env_at, thread_at, no_thread, no_env}
use Rattle.ti_core.proofs.MemoryLaws.{read_memory}
use Rattle.ti_core.proofs.ReachLaws.{may_read, read_goes, thread_there}
use Rattle.ti_core.proofs.events.read.Goals as goal

pub read-requires-clause-calls : goal.read-requires-clause-calls
read-requires-clause-calls c =
    let s = core_of c.args.limits.now c.args.envs.now c.args.threads.now in
    let m = to_z w32 (of_z w32 c.args.max_count) in
    let zn : m ≡ c.args.max_count = to_z-of_z w32 c.args.max_count c.ranges.max_count in
    let le = c.in-Some.ensures.there.1 in
    let ei = ap (λ (i : ℕ). get_or c.args.envs.now i c.index-envs-at.result) c.in-Some.ensures.there.0 ∙ get_or_default c.args.envs.now c.args.e.0 c.index-envs-at.result no_env le in
    let free : read_refusal (env_at c.args.envs.now c.args.e) c.args.t c.args.max_count ≡ None = subst (λ k. read_refusal (env_at c.args.envs.now c.args.e) c.args.t k ≡ None) zn (subst (λ (v : EnvValue). read_refusal v c.args.t m ≡ None) ei c.in_default-admit_read.ensures.admitted) in
    let lt : c.args.t.0 < length c.args.threads.now = thread_there s c.args.e c.args.t c.requires.reached le (grind (arith, nat_tests, free)) in
    let ti = get_or_default c.args.threads.now c.args.t.0 c.index-threads-index.result (no_thread c.args.limits.now) lt in
    let k = may_read s c.args.e c.args.t c.args.max_count c.requires.reached le lt free in
    subst (λ (z : ThreadState). calls_spent c.args.e z.thread.history < z.thread.limits.calls) (sym ti) k.calls

pub returns-in-Ok-clause-envs : goal.returns-in-Ok-clause-envs
returns-in-Ok-clause-envs c =
    let s = core_of c.args.limits.now c.args.envs.now c.args.threads.now in
    let m = to_z w32 (of_z w32 c.args.max_count) in
    let zn : m ≡ c.args.max_count = to_z-of_z w32 c.args.max_count c.ranges.max_count in
    let le = c.in-Some.ensures.there.1 in
    let ei = ap (λ (i : ℕ). get_or c.args.envs.now i c.index-envs-at.result) c.in-Some.ensures.there.0 ∙ get_or_default c.args.envs.now c.args.e.0 c.index-envs-at.result no_env le in
    let free : read_refusal (env_at c.args.envs.now c.args.e) c.args.t c.args.max_count ≡ None = subst (λ k. read_refusal (env_at c.args.envs.now c.args.e) c.args.t k ≡ None) zn (subst (λ (v : EnvValue). read_refusal v c.args.t m ≡ None) ei c.in_default-admit_read.ensures.admitted) in
    let lt : c.args.t.0 < length c.args.threads.now = thread_there s c.args.e c.args.t c.requires.reached le (grind (arith, nat_tests, free)) in
    let th : ThreadState = get_or c.args.threads.now c.args.t.0 c.index-threads-index.result in
    let off : was_for_memory (told_now c.read.result) ≡ false = ap was_for_memory c.read.ensures.said ∙ read_memory th.thread.limits th c.args.e th.thread.number m in
    let goes = read_goes s (was_for_memory (told_now c.read.result)) c.args.e c.args.t c.args.max_count le lt free off in
    ap (λ (i : ℕ). slice_set c.args.envs.now i c.spend.new.self) c.in-Some.ensures.there.0 ∙ ap (λ (v : EnvValue). slice_set c.args.envs.now c.args.e.0 v) (c.spend.ensures ∙ ap (λ (v : EnvValue). with_spent v c.args.t) ei) ∙ ap (λ (z : StepResult). z.envs) (sym goes)

pub returns-in-Ok-clause-threads : goal.returns-in-Ok-clause-threads
returns-in-Ok-clause-threads c =
    let s = core_of c.args.limits.now c.args.envs.now c.args.threads.now in
    let m = to_z w32 (of_z w32 c.args.max_count) in
    let zn : m ≡ c.args.max_count = to_z-of_z w32 c.args.max_count c.ranges.max_count in
    let le = c.in-Some.ensures.there.1 in
    let ei = ap (λ (i : ℕ). get_or c.args.envs.now i c.index-envs-at.result) c.in-Some.ensures.there.0 ∙ get_or_default c.args.envs.now c.args.e.0 c.index-envs-at.result no_env le in
    let free : read_refusal (env_at c.args.envs.now c.args.e) c.args.t c.args.max_count ≡ None = subst (λ k. read_refusal (env_at c.args.envs.now c.args.e) c.args.t k ≡ None) zn (subst (λ (v : EnvValue). read_refusal v c.args.t m ≡ None) ei c.in_default-admit_read.ensures.admitted) in
    let lt : c.args.t.0 < length c.args.threads.now = thread_there s c.args.e c.args.t c.requires.reached le (grind (arith, nat_tests, free)) in
    let ti = get_or_default c.args.threads.now c.args.t.0 c.index-threads-index.result (no_thread c.args.limits.now) lt in
    let th : ThreadState = get_or c.args.threads.now c.args.t.0 c.index-threads-index.result in
    let off : was_for_memory (told_now c.read.result) ≡ false = ap was_for_memory c.read.ensures.said ∙ read_memory th.thread.limits th c.args.e th.thread.number m in
    let goes = read_goes s (was_for_memory (told_now c.read.result)) c.args.e c.args.t c.args.max_count le lt free off in
    ap (λ (v : ThreadState). slice_set c.args.threads.now c.args.t.0 v) (c.read.ensures.next ∙ ap (λ (v : ThreadState). read_next v.thread.limits v c.args.e v.thread.number m) ti ∙ ap (λ k. read_next (thread_at c.args.limits.now c.args.threads.now c.args.t).thread.limits (thread_at c.args.limits.now c.args.threads.now c.args.t) c.args.e (thread_at c.args.limits.now c.args.threads.now c.args.t).thread.number k) zn) ∙ ap (λ (z : StepResult). z.threads) (sym goes)
