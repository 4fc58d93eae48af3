-- All of a history that later entries depend on, without the places of entries.
--
-- So it may be the same for two histories, if a step comes earlier in the one than in the other. PlacedState is the same
-- with the places, as `replay` keeps it.
use Rattle.std.specs.Prelude.{ℕ, List, map, replicate}
use Rattle.std.specs.List.{fold}
use Rattle.ti_types.specs.declared.limits.Limits.{Limits}
use Rattle.ti_types.specs.declared.entry.Entry.{Entry}
use Rattle.ti_types.specs.declared.view.ThreadView.{ThreadView}
use Rattle.ti_replay.specs.declared.costs.Costs.{Costs}
use Rattle.ti_replay.specs.Settling.{unanswered}
use Rattle.ti_replay.specs.View.{view}
use Rattle.ti_replay.specs.Legal.{own_spent}
use Rattle.ti_replay.specs.Costs.{no_costs, charged}

-- the view, the calls that are not answered, what the thread has spent, and the costs of each environment
pub record HistoryState : Type 0 where
  pub view : ThreadView
  pub waiting : List Entry
  pub own : ℕ
  pub costs : List Costs

abbrev pub history_state : Limits → List Entry → HistoryState
history_state limits history =
    record {
      view = view limits history;
      waiting = map (λ p. p.1) (unanswered history);
      own = own_spent history;
      costs = fold charged (replicate limits.envs no_costs) history;
    }
