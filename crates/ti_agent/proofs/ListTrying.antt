-- A list of tries goes on by one.
use Rattle.std.proofs.Common.{◌≡◌, Bool, true, false, inl, inr, List, [], ◌∷◌, ◌++◌, refl, subst, sym, Option, Some, None, Result, Ok, Err, if◌then◌else◌}
use Rattle.std.specs.Prelude.{◌⊎◌, IfOk, IfErr}
use Rattle.ti_types.specs.Refusing.{or_else}
use Rattle.ti_types.specs.declared.call.Call.{Call}
use Rattle.ti_types.specs.declared.error.TiError.{TiError}
use Rattle.ti_types.specs.declared.error.TiError.TheVariants.{Busy, OutOfMemory}
use Rattle.ti_types.specs.declared.numbers.ThreadNo.{ThreadNo}
use Rattle.ti_replay.specs.Admission.{takes_buffer}
use Rattle.ti_slot.specs.declared.asked.Asked.{Asked}
use Rattle.ti_agent.specs.Env.{Environment}
use Rattle.ti_agent.specs.Posts.{posting_refusal, Posts, IsOutIfWaiting}
use Rattle.ti_agent.specs.ListTries.{IsTried, TriesEach}

-- without a buffer, an error is the environment's refusal
told_by : (o : Option TiError) (e : TiError) (b : Bool) → b ≡ false → Some e ≡ or_else o (if b then Some OutOfMemory else None) → o ≡ Some e
told_by (Some d) e b none told = sym told
told_by None e false none told = let never : Some e ≡ None = told in cc
told_by None e true none told = cc

pub tried : (s s' : Environment) (c : Call) (t : ThreadNo) (x : Result Asked TiError) → takes_buffer c ≡ false → IfOk x (λ a. posting_refusal s t c ≡ None) → IfOk x (λ a. Posts s s' t c a) → IfOk x (λ a. IsOutIfWaiting s' a)
    → IfErr x (λ e. (Some e ≡ or_else (posting_refusal s t c) (if takes_buffer c then Some OutOfMemory else None)) ⊎ ((e ≡ Busy) × (posting_refusal s t c ≡ None))) → IfErr x (λ e. s' ≡ s) → IsTried s s' c t x
tried s s' c t (Ok a) bare free posts out why same = (free, posts, out)
tried s s' c t (Err e) bare free posts out why same = (same, by_case why)
  where
    by_case : ((Some e ≡ or_else (posting_refusal s t c) (if takes_buffer c then Some OutOfMemory else None)) ⊎ ((e ≡ Busy) × (posting_refusal s t c ≡ None))) → (posting_refusal s t c ≡ Some e) ⊎ ((e ≡ Busy) × (posting_refusal s t c ≡ None))
    by_case (inl told) = inl (told_by (posting_refusal s t c) e (takes_buffer c) bare told)
    by_case (inr busy) = inr busy

pub tries_more : (s m m' : Environment) (c : Call) (ts : List ThreadNo) (xs : List (Result Asked TiError)) (t : ThreadNo) (x : Result Asked TiError) → TriesEach s m c ts xs → IsTried m m' c t x → TriesEach s m' c (ts ++ t ∷ []) (xs ++ x ∷ [])
tries_more s m m' c [] [] t x h k = (m', subst (λ (z : Environment). IsTried z m' c t x) h k, refl)
tries_more s m m' c (u ∷ ts) (y ∷ xs) t x h k = (h.0, h.1, tries_more h.0 m m' c ts xs t x h.2 k)
tries_more s m m' c [] (y ∷ xs) t x h k = absurd h
tries_more s m m' c (u ∷ ts) [] t x h k = absurd h
