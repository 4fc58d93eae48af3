-- Threads that are probed, one after the other.
use Rattle.std.proofs.Common.{◌≡◌, ◌⊎◌, ℕ, zero, suc, Bool, true, false, if◌then◌else◌, inl, inr, List, [], ◌∷◌, refl, ap, sym, ◌∙◌, subst, Option, Some, None, Result, Ok, Err}
use Rattle.std.specs.Prelude.{slice_get, slice_set, OnOk, OnErr}
use Rattle.ti_types.specs.declared.answer.Answer.{Answer}
use Rattle.ti_types.specs.declared.call.Call.{Call}
use Rattle.ti_types.specs.declared.error.TiError.{TiError}
use Rattle.ti_types.specs.declared.error.TiError.TheVariants.{Busy, OutOfMemory, ThreadNotAlive}
use Rattle.ti_types.specs.declared.numbers.ThreadNo.{ThreadNo}
use Rattle.ti_types.specs.Answer.{said}
use Rattle.ti_types.specs.Refusing.{or_else}
use Rattle.ti_slot.specs.declared.asked.Asked.TheVariants.{Answered}
use Rattle.ti_agent.specs.Posts.{posting_refusal}
use Rattle.ti_service.specs.Memberships.{AgentValue}
use Rattle.ti_monitor.specs.declared.asking.Told.{Told}
use Rattle.ti_monitor.specs.declared.asking.Told.TheVariants.{Stack, NotAlive, Unanswered, NotYet}
use Rattle.ti_monitor.specs.declared.watched.Watched.{Watched}
use Rattle.ti_monitor.specs.Asking.{Asks, AsksStack, IsNotAlive, IsRefusedBy, IsToldBy, MayProbe, Probes, ProbesFirst, ProbesNot, newest}

-- one more thread
pub probes_more : (n : ℕ) (a b c : AgentValue) (ws vs : List Watched) (w v : Watched) → ProbesFirst n a b ws vs → slice_get vs n ≡ Some w → MayProbe b c w v → ProbesFirst (suc n) a c ws (slice_set vs n v)
probes_more zero a b c ws [] w v p at q = absurd (never at)
  where
    never : None ≡ Some w → ⊥
    never e = cc
probes_more zero a b c [] (x ∷ vs) w v p at q = absurd (never p.1)
  where
    never : x ∷ vs ≡ [] → ⊥
    never e = cc
probes_more zero a b c (y ∷ ws) (x ∷ vs) w v p at q =
    let here : w ≡ y = cc (at, p.1) in
    let rest : vs ≡ ws = cc p.1 in
    (c, subst (λ (z : AgentValue × Watched). MayProbe z.0 c z.1 v) (λ i. (p.0 i, here i)) q, (refl, rest))
probes_more (suc n) a b c [] vs w v p at q = absurd (never (ap (λ (l : List Watched). slice_get l (suc n)) (sym p.1) ∙ at))
  where
    never : None ≡ Some w → ⊥
    never e = cc
probes_more (suc n) a b c (y ∷ ws) [] w v p at q = absurd p
probes_more (suc n) a b c (y ∷ ws) (x ∷ vs) w v p at q = (p.0, p.1, probes_more n p.0 b c ws vs w v p.2 at q)

-- a thread that is there told its state, or did not
pub probed : (a b : AgentValue) (w v : Watched) (r : Result (Unit {0}) TiError) → w.gone ≡ false → OnOk r (Probes a b w v) → OnErr r (ProbesNot a b w v) → MayProbe a b w v
probed a b w v (Ok u) here told kept = inr (here, inl told)
probed a b w v (Err e) here told kept = inr (here, inr kept)

-- a call was refused since the thread is not alive
pub refused_not_alive : (a b : AgentValue) (t : ThreadNo) (c : Call) (takes : Bool) (e : TiError)
    → ((Some e ≡ or_else (posting_refusal a.env t c) (if takes then Some OutOfMemory else None)) ⊎ ((e ≡ Busy) × (posting_refusal a.env t c ≡ None))) → b ≡ a
    → e ≡ ThreadNotAlive → IsNotAlive a b t c
refused_not_alive a b t c takes e (inl is) same dead = inr (refusal (posting_refusal a.env t c) takes is, same)
  where
    by_memory : Some e ≡ Some OutOfMemory → e ≡ ThreadNotAlive → ⊥
    by_memory x y = cc

    by_nothing : Some e ≡ None → ⊥
    by_nothing x = cc

    refusal : (r : Option TiError) (mem : Bool) → Some e ≡ or_else r (if mem then Some OutOfMemory else None) → r ≡ Some ThreadNotAlive
    refusal (Some x) mem at = sym at ∙ ap (λ (y : TiError). Some y) dead
    refusal None true at = absurd (by_memory at dead)
    refusal None false at = absurd (by_nothing at)
refused_not_alive a b t c takes e (inr busy) same dead = absurd (never busy.0 dead)
  where
    never : e ≡ Busy → e ≡ ThreadNotAlive → ⊥
    never x y = cc

-- a thread that could not be asked
pub refused_told : (a b : AgentValue) (w : Watched) (e : TiError) (t : Told) → IsRefusedBy e t → (e ≡ ThreadNotAlive → IsNotAlive a b w.thread newest) → AsksStack a b w w t
refused_told a b w e (Stack trace) is dead = absurd is
refused_told a b w e NotAlive is dead = (dead is, refl)
refused_told a b w e Unanswered is dead = tt
refused_told a b w e NotYet is dead = tt

-- one that was asked for its stack, and answered
pub asked_told : (a b : AgentValue) (w : Watched) (said : Answer) (t : Told) → Asks a b w.thread newest (Answered said) → IsToldBy said t → AsksStack a b w w t
asked_told a b w said (Stack trace) asks is = (subst (λ (x : Answer). Asks a b w.thread newest (Answered x)) is asks, refl)
asked_told a b w said NotAlive asks is = (inl (subst (λ (x : Answer). Asks a b w.thread newest (Answered x)) is asks), refl)
asked_told a b w said Unanswered asks is = tt
asked_told a b w said NotYet asks is = tt
