-- Which calls reach a thread of a core, and that one event moves one thread at most.
use Rattle.std.proofs.Common.{◌≡◌, ◌≢◌, ◌<◌, Bool, true, false, ◌&&◌, ◌==◌, nat_lt, cond, List, ◌++◌, length, refl, ap, sym, arith, Option, slice_index, slice_set, get_or-set_same, get_or-set_other, inl, inr, ltb-true}
use Rattle.std.proofs.lemmas.Bool.Decides.{nat_tests}
use Rattle.std.proofs.lemmas.Bool.{cases_eq, cases_Bool}
use Rattle.ti_types.specs.declared.limits.Limits.{Limits}
use Rattle.ti_types.specs.declared.numbers.ThreadNo.{ThreadNo}
use Rattle.ti_types.specs.declared.entry.Entry.{Entry}
use Rattle.ti_types.specs.declared.error.TiError.{TiError}
use Rattle.ti_types.specs.Admitting.{reaching_refusal, admitting_refusal}
use Rattle.ti_replay.specs.Admission.{Dealings}
use Rattle.ti_env.specs.Env.{EnvValue, is_there, spent_at}
use Rattle.ti_core.specs.Thread.{ThreadState}
use Rattle.ti_core.specs.Core.{thread_at}
use Rattle.ti_core.specs.Refines.{ThreadRefines}

-- an environment that keeps these dealings at a thread
pub record Keeps (limits : Limits) (d : Dealings) (t : ThreadNo) (env : EnvValue) : Type 0 where
  pub caps : env.caps ≡ d.caps
  pub spent : t.0 < limits.threads → slice_index env.spent t.0 ≡ d.spent
  pub spent_count : length env.spent ≡ limits.threads
  pub calls : env.limits.calls ≡ limits.calls

-- so what it refuses at the thread by itself is what the definitions say
pub same_reach : (limits : Limits) (d : Dealings) (t : ThreadNo) (env : EnvValue) (well_formed : Bool) → Keeps limits d t env
    → reaching_refusal (is_there env t) well_formed (spent_at env t) env.limits.calls ≡ reaching_refusal (nat_lt t.0 limits.threads) well_formed d.spent limits.calls
same_reach limits d t env well_formed q =
    elim (cases_Bool (nat_lt t.0 limits.threads)) [
      | inl here ↦ let s : spent_at env t ≡ d.spent = q.spent (ltb-true _ _ here) in grind (arith, nat_tests, here, s, q.spent_count, q.calls)
      | inr gone ↦ grind (arith, nat_tests, gone, q.spent_count)
    ]

-- it matters only of an environment that is known
pub where_known : (known : Bool) (one other : Option TiError) (w : Bool) → (known ≡ true → one ≡ other) → admitting_refusal known one w ≡ admitting_refusal known other w
where_known true one other w h = ap (λ r. admitting_refusal true r w) (h refl)
where_known false one other w h = refl

-- one thread moves, or none
pub moves : (limits : Limits) (t u : ThreadNo) (threads threads' : List ThreadState) (history history' left : List Entry) (goes : Bool) (x : ThreadState)
    → (goes ≡ true → u.0 < length threads)
    → threads' ≡ cond goes (slice_set threads u.0 x) threads
    → history' ≡ cond (u.0 == t.0 && goes) (history ++ left) history
    → (u.0 ≡ t.0 → goes ≡ true → ThreadRefines limits t (history ++ left) x)
    → ThreadRefines limits t history (thread_at limits threads t)
    → ThreadRefines limits t history' (thread_at limits threads' t)
moves limits t u threads threads' history history' left goes x there ts ls here k =
    elim (cases_Bool goes) [
      | inl on ↦
          elim (cases_eq u.0 t.0) [
            | inl same ↦
                let q : thread_at limits threads' t ≡ x = rw (ts, on, same) (get_or-set_same threads t.0 x _ (let z : t.0 < length threads = (let y = there on in omega (arith, y, same)) in z)) in
                let l : history' ≡ history ++ left = grind (arith, nat_tests, ls, on, same) in
                rw (q, l) (here same on)
            | inr other ↦
                let o : t.0 ≢ u.0 = λ p. other (sym p) in
                let q : thread_at limits threads' t ≡ thread_at limits threads t = rw (ts, on) (get_or-set_other threads u.0 t.0 x _ o) in
                let l : history' ≡ history = grind (arith, nat_tests, ls, other) in
                rw (q, l) k
          ]
      | inr off ↦
          let q : threads' ≡ threads = rw (ts, off) refl in
          let l : history' ≡ history = grind (arith, nat_tests, ls, off) in
          rw (q, l) k
    ]
