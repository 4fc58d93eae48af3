-- What one look at a thread tells an environment: how often it has handed over, and whose stop is in force.
use Rattle.std.specs.Prelude.{ℕ, ◌≡◌, [], Option, Some, slice_get, slice_set}
use Rattle.ti_types.specs.Refusing.{unless}
use Rattle.ti_types.specs.declared.error.TiError.{TiError}
use Rattle.ti_types.specs.declared.error.TiError.TheVariants.{InvalidThread}
use Rattle.ti_types.specs.declared.numbers.EnvNo.{EnvNo}
use Rattle.ti_types.specs.declared.numbers.ThreadNo.{ThreadNo}
use Rattle.ti_replay.specs.View.{view}
use Rattle.ti_env.specs.Env.{is_there}
use Rattle.ti_slot.specs.HandOvers.{hand_overs}
use Rattle.ti_handshake.specs.Call.{Holds}
use Rattle.ti_handshake.specs.Desk.{DeskState, IsSame}
use Rattle.ti_agent.specs.Env.{Environment, place_in, place_of, told}

-- why an environment does not reach a thread: it has no desk at a thread of this number. If there was one of this number once, the
-- thread is not alive
abbrev pub absence_refusal : Environment → ThreadNo → Option TiError
absence_refusal s t = told s.state.known t (unless (is_there s.state (place_of s.desks t)) InvalidThread)

-- The desk at a thread looked by one hold, which added nothing. It tells this of the desk as it is then. Nothing else changed
pub record LooksAt {A : Type 0} (tells : DeskState → A) (old new : Environment) (thread : ThreadNo) (told_of : A) : Type 0 where
  pub before : DeskState
  pub after : DeskState
  pub there : slice_get old.desks (place_in old.desks thread) ≡ Some before
  pub about : before.view.subject.thread ≡ thread
  pub same : IsSame before after
  pub hold : Holds before.view after.view []
  pub told_is : told_of ≡ tells after
  pub new_is : new ≡ record { env = old.env; state = old.state; desks = slice_set old.desks (place_in old.desks thread) after }

-- how many of the entries that a desk has seen are hand-overs
abbrev pub hand_overs_at : DeskState → ℕ
hand_overs_at d = hand_overs d.view.seen

abbrev pub CountsHandOvers : Environment → Environment → ThreadNo → ℕ → Type 0
CountsHandOvers = LooksAt hand_overs_at

-- whose stop is in force after the entries that a desk has seen
abbrev pub stopper_at : DeskState → Option EnvNo
stopper_at d = (view d.view.subject.limits d.view.seen).stopper

abbrev pub TellsStopper : Environment → Environment → ThreadNo → Option EnvNo → Type 0
TellsStopper = LooksAt stopper_at
