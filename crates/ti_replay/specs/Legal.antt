-- Which histories a thread can have.
use Rattle.std.specs.Prelude.{ℕ, Bool, true, ◌&&◌, ◌||◌, if◌then◌else◌, ◌==◌, nat_lt, List, [], ◌∷◌, ◌++◌, length, Option, Some, None, is_some, is_none}
use Rattle.std.specs.List.{sum_by}
use Rattle.ti_types.specs.declared.limits.Limits.{Limits}
use Rattle.ti_types.specs.declared.numbers.EnvNo.{EnvNo}
use Rattle.ti_types.specs.declared.place.Frame.{Frame}
use Rattle.ti_types.specs.declared.state.Safe.TheVariants.{Native, Blocked, AtPoll}
use Rattle.ti_types.specs.declared.step.Step.{Step}
use Rattle.ti_types.specs.declared.entry.Entry.{Entry}
use Rattle.ti_types.specs.declared.entry.Entry.TheVariants.{Own, Hand, Asked, Stop, Read, Go}
use Rattle.ti_types.specs.declared.view.ThreadView.{ThreadView}
pub use Rattle.ti_types.specs.Numbers.{is_not_negative}
pub use Rattle.ti_types.specs.Call.{is_well_formed}
use Rattle.ti_types.specs.Steps.{step_refusal}
use Rattle.ti_types.specs.Admitting.{reaching_refusal}
pub use Rattle.ti_types.specs.Steps.{is_native, newest_is_native}
pub use Rattle.ti_replay.specs.Answers.{is_new, is_safe}
pub use Rattle.ti_replay.specs.Refusals.{is_stopper}
use Rattle.ti_replay.specs.Refusals.{own_refusal, held_refusal}
use Rattle.ti_replay.specs.Settling.{unanswered}
use Rattle.ti_replay.specs.View.{view}

-- what an entry costs its thread
abbrev pub own_cost : Entry → ℕ
own_cost (Own step) = 1
own_cost (Hand Native) = 2
own_cost (Hand (Blocked kind)) = 2
own_cost _ = 0

-- what an entry costs an environment
abbrev pub call_cost : EnvNo → Entry → ℕ
call_cost env (Asked other number call) = if other.0 == env.0 then 1 else 0
call_cost env (Stop other) = if other.0 == env.0 then 1 else 0
call_cost env (Read other max_count) = if other.0 == env.0 then 1 else 0
call_cost env _ = 0

-- what an entry costs the environments together
abbrev pub call_cost_of : Entry → ℕ
call_cost_of (Asked env number call) = 1
call_cost_of (Stop env) = 1
call_cost_of (Read env max_count) = 1
call_cost_of _ = 0

-- 1 for a call that the environment asked
abbrev pub ask_count : EnvNo → Entry → ℕ
ask_count env (Asked other number call) = if other.0 == env.0 then 1 else 0
ask_count env _ = 0

abbrev pub own_spent : List Entry → ℕ
own_spent history = sum_by own_cost history

abbrev pub calls_spent : EnvNo → List Entry → ℕ
calls_spent env history = sum_by (call_cost env) history

abbrev pub asked_by : EnvNo → List Entry → ℕ
asked_by env history = sum_by (ask_count env) history

-- a waiting call is unanswered, or a stop is in force
abbrev pub is_armed : Limits → List Entry → Bool
is_armed limits history = nat_lt 0 (length (unanswered history)) || is_some (view limits history).stopper

-- whether frames allow a step: they do not refuse it
abbrev pub step_fits : Limits → List Frame → Step → Bool
step_fits limits frames step = is_none (step_refusal limits.depth frames step)

-- What is known of a history before an entry: the view, whether the thread is called for, and what the thread has spent.
-- Also what the entry's environment has spent and asked
pub record Situation : Type 0 where
  pub view : ThreadView
  pub armed : Bool
  pub own : ℕ
  pub calls : ℕ
  pub asked : ℕ

-- whether an environment is there and lets a call at the thread through. This asks for no capability
abbrev pub lets_through : Limits → Situation → EnvNo → (well_formed : Bool) → Bool
lets_through limits s env well_formed = nat_lt env.0 limits.envs && is_none (reaching_refusal true well_formed s.calls limits.calls)

-- Whether an entry may come. One of the thread's own may if it is not refused, and a poll's hand-over only if the thread is
-- called for. One of an environment's may if that lets it through. A call also needs its number. A stop, a read or a go must
-- not be refused by the thread
abbrev pub fits : Limits → Situation → Entry → Bool
fits limits s (Hand AtPoll) = is_none (own_refusal limits s.view s.own (Hand AtPoll)) && s.armed
fits limits s (Asked env number call) = lets_through limits s env (is_well_formed call) && (number == s.asked)
fits limits s (Stop env) = lets_through limits s env true && is_none (held_refusal s.view (Stop env))
fits limits s (Read env max_count) = lets_through limits s env (is_not_negative max_count) && is_none (held_refusal s.view (Read env max_count))
fits limits s (Go env) = nat_lt env.0 limits.envs && is_none (held_refusal s.view (Go env))
fits limits s x = is_none (own_refusal limits s.view s.own x)

-- the environment of an entry. The thread's own entries have none
abbrev pub env_of : Entry → Option EnvNo
env_of (Asked env number call) = Some env
env_of (Stop env) = Some env
env_of (Read env max_count) = Some env
env_of (Go env) = Some env
env_of _ = None

-- what is counted of an environment, and 0 if there is none
abbrev pub counted : Option EnvNo → (EnvNo → ℕ) → ℕ
counted (Some env) count = count env
counted None count = 0

-- what a history leaves, as the next entry of an environment finds it
abbrev pub situation : Limits → List Entry → Option EnvNo → Situation
situation limits history env =
    record {
      view = view limits history;
      armed = is_armed limits history;
      own = own_spent history;
      calls = counted env (λ e. calls_spent e history);
      asked = counted env (λ e. asked_by e history);
    }

-- whether an entry may come after a history
abbrev pub may_follow : Limits → List Entry → Entry → Bool
may_follow limits history x = fits limits (situation limits history (env_of x)) x

-- the place of the first entry that may not come there, after a prefix of the history
abbrev pub first_illegal : Limits → List Entry → List Entry → Option ℕ
first_illegal limits front [] = None
first_illegal limits front (x ∷ rest) =
    if may_follow limits front x then first_illegal limits (front ++ x ∷ []) rest else Some (length front)

-- each entry of the rest may come at its place
abbrev pub goes_on : Limits → List Entry → List Entry → Bool
goes_on limits front [] = true
goes_on limits front (x ∷ rest) = may_follow limits front x && goes_on limits (front ++ x ∷ []) rest

abbrev pub is_legal : Limits → List Entry → Bool
is_legal limits history = goes_on limits [] history
