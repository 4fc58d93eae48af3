-- Calls that try to hold the roster just once.
use Rattle.std.proofs.Common.{◌≡◌, ◌⊎◌, inl, inr, sym, subst, List, [], Result, Ok, Err}
use Rattle.std.specs.List.{All}
use Rattle.std.specs.Prelude.{IfErr, OnOk}
use Rattle.ti_types.specs.declared.error.TiError.{TiError}
use Rattle.ti_types.specs.declared.error.TiError.TheVariants.{Busy, OutOfMemory}
use Rattle.ti_types.specs.declared.numbers.ThreadNo.{ThreadNo}
use Rattle.ti_agent.specs.Env.{Environment}
use Rattle.ti_agent.specs.FreeDesk.{FreeState}
use Rattle.ti_agent.specs.Spots.{spots_of}
use Rattle.ti_service.specs.Homes.{AreOurs, HasCome, IsHomeOf}
use Rattle.ti_service.specs.Service.{Looks, Member, RefusesInfo}
use Rattle.ti_service.proofs.Homes.{agent_of, holds_ours, home_of_ours, ours_of}

-- an agent keeps its desks if its handle held the roster and added nothing, and if the handle is as it was
pub looked_ours : (s s' : Member) (env : Environment) (waiting : List FreeState) → Looks s.view s'.view ⊎ (s' ≡ s) → AreOurs (agent_of s env waiting) → AreOurs (agent_of s' env waiting)
looked_ours s s' env waiting (inl h) o = holds_ours s s' env waiting s'.view.seen [] h o
looked_ours s s' env waiting (inr is) o = subst (λ (m : Member). AreOurs (agent_of m env waiting)) (sym is) o

pub looked_home : (s s' : Member) (env : Environment) (waits : List FreeState) → Looks s.view s'.view ⊎ (s' ≡ s) → IsHomeOf s waits env.env env.state.limits × All (HasCome s.view.seen) (spots_of env.desks)
    → IsHomeOf s' waits env.env env.state.limits × All (HasCome s'.view.seen) (spots_of env.desks)
looked_home s s' env waits h k = home_of_ours s' env waits (looked_ours s s' env waits h (ours_of s env waits k.0 k.1))

-- the call held the roster, or found it in use
pub held_or_busy : {V : Type 0} (s s' : Member) (r : Result V TiError) → OnOk r (Looks s.view s'.view) → IfErr r (λ e. (e ≡ Busy) × (s' ≡ s)) → Looks s.view s'.view ⊎ (s' ≡ s)
held_or_busy s s' (Ok v) looks busy = inl looks
held_or_busy s s' (Err e) looks busy = inr busy.1

pub held_or_refused : {V : Type 0} (s s' : Member) (r : Result V TiError) → OnOk r (Looks s.view s'.view) → IfErr r (λ e. ((e ≡ OutOfMemory) × Looks s.view s'.view) ⊎ ((e ≡ Busy) × (s' ≡ s))) → Looks s.view s'.view ⊎ (s' ≡ s)
held_or_refused s s' (Ok v) looks refused = inl looks
held_or_refused s s' (Err e) looks (inl it) = inl it.1
held_or_refused s s' (Err e) looks (inr busy) = inr busy.1

pub held_or_not_told : {V : Type 0} (s s' : Member) (t : ThreadNo) (r : Result V TiError) → OnOk r (Looks s.view s'.view) → IfErr r (λ e. RefusesInfo s.view s'.view t e ⊎ ((e ≡ Busy) × (s' ≡ s))) → Looks s.view s'.view ⊎ (s' ≡ s)
held_or_not_told s s' t (Ok v) looks refused = inl looks
held_or_not_told s s' t (Err e) looks (inl it) = inl it.looks
held_or_not_told s s' t (Err e) looks (inr busy) = inr busy.1

pub either_way : {A B L S : Type 0} → (A × L) ⊎ (B × S) → L ⊎ S
either_way (inl it) = inl it.1
either_way (inr busy) = inr busy.1
