-- Why a step of a trace of several threads was barred.
use Rattle.std.proofs.Common.{◌≡◌, ◌⊎◌, ℕ, ◌<◌, inl, inr, List, [], length, refl, ap, sym, ◌∙◌, arith, subst, Some, Result, Err}
use Rattle.std.specs.Prelude.{IfErr, slice_index_or, slice_set}
use Rattle.ti_types.specs.declared.error.TiError.{TiError}
use Rattle.ti_types.specs.declared.error.TiError.TheVariants.{AlreadyStopped, StillRunning}
use Rattle.ti_types.specs.declared.numbers.ThreadNo.{ThreadNo}
use Rattle.ti_handshake.specs.Desk.{DeskState}
use Rattle.ti_vmop.specs.Turns.{HasAdded}
use Rattle.ti_vmop.specs.Tries.{IsBusy}
use Rattle.ti_vmop.proofs.Each.{at_index, there_at}
use Rattle.ti_agent.specs.Gathering.{Gathered, IsAtWork, HasNextAt, IsBarred, IsBarredAt, IsInUse, LooksAt, SawRunning, SawStopped}
use Rattle.ti_agent.specs.declared.gathering.Phase.{Phase}
use Rattle.ti_agent.specs.declared.gathering.Phase.TheVariants as phase
use Rattle.ti_agent.proofs.AtWork.{element, is_seeing, is_stopping}
use Rattle.ti_agent.proofs.StepByStep.{come, none, set_back, there_of}

-- what is said of the error of a result
pub if_err : {A E : Type 0} (P : E → Type 0) (r : Result A E) (e : E) → r ≡ Err e → P e → IfErr r P
if_err P r e is says = subst (λ x. IfErr x P) (sym is) says

-- the desk of the next thread is there
desk_there : (g : Gathered) (w : IsAtWork g) (n : ℕ) (x : ThreadNo × ℕ) → length g.now.desks ≡ length w.start.desks → n < length g.stopping → x ≡ slice_index_or g.stopping n x → x.0.0 < length g.now.desks
desk_there g w n x same within ex =
    let there = there_at (length w.start.desks) g.stopping n none (there_of w.start g w.whole w.asked) within in
    subst (λ (y : ThreadNo × ℕ). y.0.0 < length g.now.desks) (element g.stopping n x within ex) (omega (arith, there, same))

-- it looked at its thread
looks : (Saw : DeskState → DeskState → Type 0) (g : Gathered) (n : ℕ) (x : ThreadNo × ℕ) (p q : DeskState) → n < length g.stopping → x ≡ slice_index_or g.stopping n x → x.0.0 < length g.now.desks → p ≡ slice_index_or g.now.desks x.0.0 p
    → HasAdded p q [] → Saw p q → LooksAt n g (come g g.now.state (slice_set g.now.desks x.0.0 q) g.phase) Saw
looks Saw g n x p q within ex here ep looked saw = record {
  thread = x;
  next = at_index g.stopping n x within ∙ ap (λ (y : ThreadNo × ℕ). Some y) (sym ex);
  before = p;
  there = at_index g.now.desks x.0.0 p here ∙ ap (λ (d : DeskState). Some d) (sym ep);
  after = q;
  looked = looked;
  saw = saw;
  new_is = refl;
}

-- its cell was in use
in_use : (g : Gathered) (t : ℕ) (p q : DeskState) (e : TiError) → HasNextAt g.phase g → p ≡ slice_index_or g.now.desks t p → IsBusy p q e → IsInUse g (come g g.now.state (slice_set g.now.desks t q) g.phase) e
in_use g t p q e next ep busy = (busy.0, next, ap (λ (ds : List DeskState). come g g.now.state ds g.phase) (set_back g.now.desks t p q (busy.1 ∙ ep)))

pub stop_barred : (g : Gathered) (w : IsAtWork g) (n : ℕ) (x : ThreadNo × ℕ) (p q : DeskState) (e : TiError) → g.phase ≡ phase.Stopping n → n < length g.stopping → x ≡ slice_index_or g.stopping n x → p ≡ slice_index_or g.now.desks x.0.0 p
    → IsBusy p q e ⊎ ((e ≡ AlreadyStopped) × HasAdded p q [] × SawStopped p q) → IsBarred g (come g g.now.state (slice_set g.now.desks x.0.0 q) g.phase) e
stop_barred g w n x p q e is within ex ep why = subst (λ (f : Phase). IsBarredAt f g new e) (sym is) (barred why)
  where
    new : Gathered
    new = come g g.now.state (slice_set g.now.desks x.0.0 q) g.phase

    next : HasNextAt g.phase g
    next = subst (λ (f : Phase). HasNextAt f g) (sym is) within

    here : x.0.0 < length g.now.desks
    here = desk_there g w n x (is_stopping g w n is).desks.0 within ex

    barred : IsBusy p q e ⊎ ((e ≡ AlreadyStopped) × HasAdded p q [] × SawStopped p q) → IsInUse g new e ⊎ ((e ≡ AlreadyStopped) × LooksAt n g new SawStopped)
    barred (inl busy) = inl (in_use g x.0.0 p q e next ep busy)
    barred (inr r) = inr (r.0, looks SawStopped g n x p q within ex here ep r.1 r.2)

pub look_barred : (g : Gathered) (w : IsAtWork g) (n : ℕ) (x : ThreadNo × ℕ) (p q : DeskState) (e : TiError) → g.phase ≡ phase.Seeing n → n < length g.stopping → x ≡ slice_index_or g.stopping n x → p ≡ slice_index_or g.now.desks x.0.0 p
    → IsBusy p q e ⊎ ((e ≡ StillRunning) × HasAdded p q [] × SawRunning p q) → IsBarred g (come g g.now.state (slice_set g.now.desks x.0.0 q) g.phase) e
look_barred g w n x p q e is within ex ep why = subst (λ (f : Phase). IsBarredAt f g new e) (sym is) (barred why)
  where
    new : Gathered
    new = come g g.now.state (slice_set g.now.desks x.0.0 q) g.phase

    next : HasNextAt g.phase g
    next = subst (λ (f : Phase). HasNextAt f g) (sym is) within

    here : x.0.0 < length g.now.desks
    here = desk_there g w n x (is_seeing g w n is).stopping.desks.0 within ex

    barred : IsBusy p q e ⊎ ((e ≡ StillRunning) × HasAdded p q [] × SawRunning p q) → IsInUse g new e ⊎ ((e ≡ StillRunning) × LooksAt n g new SawRunning)
    barred (inl busy) = inl (in_use g x.0.0 p q e next ep busy)
    barred (inr r) = inr (r.0, looks SawRunning g n x p q within ex here ep r.1 r.2)
