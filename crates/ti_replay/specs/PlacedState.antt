-- All that later entries of a history depend on, kept entry by entry.
use Rattle.std.specs.Prelude.{ℕ, ◌+◌, Bool, ◌&&◌, ◌||◌, nat_lt, if◌then◌else◌, List, [], ◌∷◌, ◌++◌, length, is_some, replicate, Option}
use Rattle.std.specs.List.{fold, list_all}
use Rattle.ti_types.specs.declared.limits.Limits.{Limits}
use Rattle.ti_types.specs.declared.numbers.EnvNo.{EnvNo}
use Rattle.ti_types.specs.declared.entry.Entry.{Entry}
use Rattle.ti_types.specs.declared.view.ThreadView.{ThreadView}
use Rattle.ti_replay.specs.declared.costs.Costs.{Costs}
use Rattle.ti_replay.specs.Costs.{no_costs, costs_of, charged}
use Rattle.ti_replay.specs.Answers.{is_running}
use Rattle.ti_replay.specs.Settling.{Placed, is_hand_over, is_waiting_call, unanswered}
use Rattle.ti_replay.specs.View.{view, after, after_all}
use Rattle.ti_replay.specs.Legal.{Situation, own_cost, own_spent, fits, env_of}

pub record PlacedState : Type 0 where
  pub view : ThreadView
  pub waiting : List Placed
  pub next : ℕ
  pub own : ℕ
  pub costs : List Costs

abbrev pub placed_state : Limits → List Entry → PlacedState
placed_state limits history =
    record {
      view = view limits history;
      waiting = unanswered history;
      next = length history;
      own = own_spent history;
      costs = fold charged (replicate limits.envs no_costs) history;
    }

-- the view after an entry: a hand-over lets the waiting calls take place, and a waiting call at a running thread waits
abbrev pub view_behind : ThreadView → List Placed → Entry → ThreadView
view_behind v waiting x =
    if is_hand_over x then after_all (after v x) waiting
    else if is_waiting_call x && is_running v.mode then v else after v x

-- the calls that wait after an entry, which is the next one
abbrev pub waiting_behind : ThreadView → List Placed → ℕ → Entry → List Placed
waiting_behind v waiting next x =
    if is_hand_over x then []
    else if is_waiting_call x && is_running v.mode then waiting ++ (next, x) ∷ [] else waiting

-- the state after an entry
abbrev pub entered : PlacedState → Entry → PlacedState
entered s x =
    record {
      view = view_behind s.view s.waiting x;
      waiting = waiting_behind s.view s.waiting s.next x;
      next = s.next + 1;
      own = s.own + own_cost x;
      costs = charged s.costs x;
    }

abbrev pub situation_in : PlacedState → Option EnvNo → Situation
situation_in s env =
    let costs = costs_of s.costs env in
    record {
      view = s.view;
      armed = nat_lt 0 (length s.waiting) || is_some s.view.stopper;
      own = s.own;
      calls = costs.calls;
      asked = costs.asked;
    }

abbrev pub may_enter : Limits → PlacedState → Entry → Bool
may_enter limits s x = fits limits (situation_in s (env_of x)) x

-- what takes place when an entry comes: with a hand-over the waiting calls too, and nothing if the entry waits
abbrev pub settling_of : ThreadView → List Placed → ℕ → Entry → List Placed
settling_of v waiting next x =
    if is_hand_over x then (next, x) ∷ waiting else if is_waiting_call x && is_running v.mode then [] else (next, x) ∷ []

abbrev pub settled_by : PlacedState → Entry → List Placed
settled_by s x = settling_of s.view s.waiting s.next x

abbrev pub all_calls : List Placed → Bool
all_calls entries = list_all (λ p. is_waiting_call p.1) entries

-- each of these is at a place before this one
abbrev pub are_below : ℕ → List Placed → Bool
are_below place entries = list_all (λ p. nat_lt p.0 place) entries
