-- What a core that has been reached lets each call rest on.
use Rattle.std.proofs.Common.{◌≡◌, ◌<◌, Bool, false, ◌&&◌, slice_set, length, refl, ap, sym, subst, ◌∙◌, arith, None, is_none, ℤ}
use Rattle.std.proofs.lemmas.Bool.Decides.{nat_tests}
use Rattle.ti_types.specs.declared.limits.Limits.{Limits}
use Rattle.ti_types.specs.declared.numbers.EnvNo.{EnvNo}
use Rattle.ti_types.specs.declared.numbers.ThreadNo.{ThreadNo}
use Rattle.ti_types.specs.declared.call.Call.{Call}
use Rattle.ti_types.specs.declared.event.Event.TheVariants.{Ask, Stop, Read}
use Rattle.ti_replay.specs.Admission.{takes_buffer}
use Rattle.ti_replay.specs.Events.{history_of, given}
use Rattle.ti_replay.specs.Legal.{calls_spent}
use Rattle.ti_env.specs.Env.{call_refusal, stop_refusal, read_refusal}
use Rattle.ti_core.specs.Thread.{ThreadState, reply_now, ask_next, read_next, read_told}
use Rattle.ti_core.specs.Core.{CoreState, thread_at, env_at, why_not, spending, stepped_ask, stepped_read}
use Rattle.ti_core.specs.Refines.{IsReached}
use Rattle.ti_core.proofs.CallLaws.{spent_same}
use Rattle.ti_core.proofs.StepLaws.{whys, whys_is_ask, whys_is_stop, whys_is_read, ask_through, stop_through, read_through, IsLetThrough}

-- a thread takes one more call of an environment
pub record TakesCall (e : EnvNo) (s : ThreadState) (limits : Limits) : Type 0 where
  pub limits_are : s.thread.limits ≡ limits
  pub env : e.0 < s.thread.limits.envs
  pub calls : calls_spent e s.thread.history < s.thread.limits.calls

takes : (s : CoreState) (e : EnvNo) (t : ThreadNo) (k : IsReached s) → IsLetThrough s.limits k.0 e t → TakesCall e (thread_at s.limits s.threads t) s.limits
takes s e t k through =
    let there = k.1.threads t through.thread in
    let n = spent_same s.limits t (history_of s.limits t k.0) (thread_at s.limits s.threads t) e there through.env in
    let q = through.calls in
    record {
      limits_are = there.limits_are;
      env = subst (λ (l : Limits). e.0 < l.envs) (sym there.limits_are) through.env;
      calls = subst (λ (l : Limits). calls_spent e (thread_at s.limits s.threads t).thread.history < l.calls) (sym there.limits_are) (omega (arith, n, q));
    }

pub may_ask : (s : CoreState) (e : EnvNo) (t : ThreadNo) (call : Call) → IsReached s → e.0 < length s.envs → t.0 < length s.threads → call_refusal (env_at s.envs e) t call ≡ None → TakesCall e (thread_at s.limits s.threads t) s.limits
may_ask s e t call k le lt free =
    let w : whys s false (Ask e t call) ≡ None = grind (arith, nat_tests, le, lt, free) in
    takes s e t k (ask_through k.0 s.limits false e t call (ap is_none (sym (whys_is_ask k.0 s false e t call k.1) ∙ w)))

pub may_stop : (s : CoreState) (e : EnvNo) (t : ThreadNo) → IsReached s → e.0 < length s.envs → t.0 < length s.threads → stop_refusal (env_at s.envs e) t ≡ None → TakesCall e (thread_at s.limits s.threads t) s.limits
may_stop s e t k le lt free =
    let w : whys s false (Stop e t) ≡ None = grind (arith, nat_tests, le, lt, free) in
    takes s e t k (stop_through k.0 s.limits false e t (ap is_none (sym (whys_is_stop k.0 s false e t k.1) ∙ w)))

pub may_read : (s : CoreState) (e : EnvNo) (t : ThreadNo) (n : ℤ) → IsReached s → e.0 < length s.envs → t.0 < length s.threads → read_refusal (env_at s.envs e) t n ≡ None → TakesCall e (thread_at s.limits s.threads t) s.limits
may_read s e t n k le lt free =
    let w : whys s false (Read e t n) ≡ None = grind (arith, nat_tests, le, lt, free) in
    takes s e t k (read_through k.0 s.limits false e t n (ap is_none (sym (whys_is_read k.0 s false e t n k.1) ∙ w)))

-- there are as many threads and environments as the limits say
pub thread_there : (s : CoreState) (e : EnvNo) (t : ThreadNo) → IsReached s → e.0 < length s.envs → t.0 < length (env_at s.envs e).spent → t.0 < length s.threads
thread_there s e t k le lt =
    let l : e.0 < s.limits.envs = omega (arith, le, k.1.env_count) in
    omega (arith, lt, (k.1.envs e l).spent_count, k.1.thread_count)

-- what a call that goes through leaves
pub ask_goes : (s : CoreState) (w : Bool) (e : EnvNo) (t : ThreadNo) (call : Call) → e.0 < length s.envs → t.0 < length s.threads → call_refusal (env_at s.envs e) t call ≡ None → w ≡ false
    → stepped_ask s.limits s.envs s.threads w e t call ≡ record {
      envs = spending s.envs e t;
      threads = slice_set s.threads t.0 (ask_next (thread_at s.limits s.threads t).thread.limits (thread_at s.limits s.threads t) e call);
      told = given (reply_now (thread_at s.limits s.threads t).thread.limits (thread_at s.limits s.threads t) e call);
    }
ask_goes s w e t call le lt free off =
    let q : why_not s.envs e (call_refusal (env_at s.envs e) t call) (w && takes_buffer call) ≡ None = grind (arith, nat_tests, le, lt, free, off) in
    rw q refl

pub read_goes : (s : CoreState) (w : Bool) (e : EnvNo) (t : ThreadNo) (n : ℤ) → e.0 < length s.envs → t.0 < length s.threads → read_refusal (env_at s.envs e) t n ≡ None → w ≡ false
    → stepped_read s.limits s.envs s.threads w e t n ≡ record {
      envs = spending s.envs e t;
      threads = slice_set s.threads t.0 (read_next (thread_at s.limits s.threads t).thread.limits (thread_at s.limits s.threads t) e (thread_at s.limits s.threads t).thread.number n);
      told = read_told (thread_at s.limits s.threads t).thread.limits (thread_at s.limits s.threads t) e (thread_at s.limits s.threads t).thread.number n;
    }
read_goes s w e t n le lt free off =
    let q : why_not s.envs e (read_refusal (env_at s.envs e) t n) w ≡ None = grind (arith, nat_tests, le, lt, free, off) in
    rw q refl
