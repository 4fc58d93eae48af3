-- A new core refines for nothing.
use Rattle.std.proofs.Common.{◌≡◌, ℕ, ◌+◌, ◌<◌, ◌≤◌, take, drop, get_or, List, [], ◌∷◌, ◌++◌, length, ap, sym, ◌∙◌, arith, replicate, inl, inr, length-append, subst, false, nat_lt, ltb-true}
use Rattle.std.proofs.lemmas.List.{get_or_past, get_or-replicate, length-replicate, get_or_append_left, take-append-le, take_all}
use Rattle.std.proofs.Math.Seq.{get_or-append_seam}
use Rattle.std.proofs.lemmas.Bool.{cases_eq, cases_Bool}
use Rattle.std.proofs.lemmas.Bool.Decides.{nat_tests}
use Rattle.ti_types.specs.declared.event.Ticket.{Ticket}
use Rattle.ti_slot.specs.Tickets.{has}
use Rattle.ti_types.specs.declared.limits.Limits.{Limits}
use Rattle.ti_types.specs.declared.numbers.ThreadNo.{ThreadNo}
use Rattle.ti_env.specs.Env.{new_env}
use Rattle.ti_core.specs.Thread.{ThreadState, new_state}
use Rattle.ti_core.specs.Core.{core_of, thread_at, no_thread, no_env}
use Rattle.ti_core.specs.Refines.{Refines, ThreadRefines, AreNew}
use Rattle.ti_core.proofs.ToldLaws.{new_thread_stands, new_env_stands}

pub one_more_new : (limits : Limits) (count : ℕ) (threads : List ThreadState) → AreNew limits count threads → AreNew limits (count + 1) (threads ++ new_state limits (record { 0 = count }) ∷ [])
one_more_new limits count threads k = record {
  count_is = length-append threads (new_state limits (record { 0 = count }) ∷ []) ∙ ap (λ n. n + 1) k.count_is;
  each = λ t h.
      elim (cases_eq t.0 count) [
        | inl last ↦
            let z : t ≡ record { 0 = count } = ap (λ (n : ℕ). record { 0 = n }) last in
            let x = new_state limits (record { 0 = count }) in
            let here : thread_at limits (threads ++ x ∷ []) (record { 0 = count }) ≡ x = ap (λ (n : ℕ). get_or (threads ++ x ∷ []) n (no_thread limits)) (sym k.count_is) ∙ get_or-append_seam threads x [] (no_thread limits) in
            subst (λ (u : ThreadNo). thread_at limits (threads ++ x ∷ []) u ≡ new_state limits u) (sym z) here
        | inr earlier ↦
            let lt : t.0 < count = omega (arith, h, earlier) in
            let within : t.0 < length threads = omega (arith, lt, k.count_is) in
            get_or_append_left threads (new_state limits (record { 0 = count }) ∷ []) (no_thread limits) t.0 within ∙ k.each t lt
      ];
}

pub new_stands : (limits : Limits) (threads : List ThreadState) → AreNew limits limits.threads threads → Refines [] (core_of limits (replicate limits.envs (new_env limits)) threads)
new_stands limits threads k = record {
  thread_count = k.count_is;
  env_count = length-replicate limits.envs (new_env limits);
  threads = λ t l. subst (ThreadRefines limits t []) (sym (k.each t l)) (new_thread_stands limits t);
  envs = λ e l. rw (get_or-replicate limits.envs e.0 (new_env limits) no_env l) (new_env_stands limits e);
}

-- no ticket of a new core is out
pub none_out : (limits : Limits) (threads : List ThreadState) (k : Ticket) → AreNew limits limits.threads threads → has k (thread_at limits threads k.thread).thread.uncollected ≡ false
none_out limits threads k new =
    elim (cases_Bool (nat_lt k.thread.0 limits.threads)) [
      | inl there ↦ ap (λ (s : ThreadState). has k s.thread.uncollected) (new.each k.thread (ltb-true _ _ there))
      | inr gone ↦
          let past : length threads ≤ k.thread.0 = grind (arith, nat_tests, gone, new.count_is) in
          ap (λ (s : ThreadState). has k s.thread.uncollected) (get_or_past threads k.thread.0 (no_thread limits) past)
    ]

-- what a call leaves of a whole slice is all of it
pub restored : {X : Type 0} (n : ℕ) (xs new : List X) → length new ≡ length xs → n ≡ length xs → take n (new ++ drop (length new) xs) ≡ new
restored n xs new same is =
    let a : n ≤ length new = omega (arith, same, is) in
    let b : length new ≤ n = omega (arith, same, is) in
    take-append-le n new (drop (length new) xs) a ∙ take_all n new b
