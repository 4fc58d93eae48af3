-- How one more entry changes all of a history that later entries depend on, with a list of the calls that wait.
use Rattle.std.specs.Prelude.{◌+◌, Bool, true, ◌&&◌, ◌||◌, nat_lt, if◌then◌else◌, List, [], ◌∷◌, ◌++◌, length, is_some, Option}
use Rattle.std.specs.List.{fold}
use Rattle.ti_types.specs.declared.limits.Limits.{Limits}
use Rattle.ti_types.specs.declared.numbers.EnvNo.{EnvNo}
use Rattle.ti_types.specs.declared.entry.Entry.{Entry}
use Rattle.ti_replay.specs.Answers.{is_running}
use Rattle.ti_replay.specs.Settling.{is_hand_over, is_waiting_call}
use Rattle.ti_replay.specs.View.{after}
use Rattle.ti_replay.specs.Legal.{Situation, own_cost, fits, env_of}
use Rattle.ti_replay.specs.Costs.{costs_of, charged}
use Rattle.ti_replay.specs.HistoryState.{HistoryState}

-- whether an entry waits at this state
abbrev pub is_put_off : HistoryState → Entry → Bool
is_put_off s x = is_waiting_call x && is_running s.view.mode

-- the state after an entry: a hand-over lets the waiting calls take place, and a waiting call at a running thread waits
abbrev pub next_state : HistoryState → Entry → HistoryState
next_state s x =
    record {
      view = if is_hand_over x then fold after (after s.view x) s.waiting else if is_put_off s x then s.view else after s.view x;
      waiting = if is_hand_over x then [] else if is_put_off s x then s.waiting ++ x ∷ [] else s.waiting;
      own = s.own + own_cost x;
      costs = charged s.costs x;
    }

abbrev pub situation_at : HistoryState → Option EnvNo → Situation
situation_at s env =
    let costs = costs_of s.costs env in
    record {
      view = s.view;
      armed = nat_lt 0 (length s.waiting) || is_some s.view.stopper;
      own = s.own;
      calls = costs.calls;
      asked = costs.asked;
    }

-- whether an entry may come at this state
abbrev pub allows : Limits → HistoryState → Entry → Bool
allows limits s x = fits limits (situation_at s (env_of x)) x

abbrev pub allows_all : Limits → HistoryState → List Entry → Bool
allows_all limits s [] = true
allows_all limits s (x ∷ xs) = allows limits s x && allows_all limits (next_state s x) xs
