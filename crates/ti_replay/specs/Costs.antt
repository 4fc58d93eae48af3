-- The costs of a history's entries, in a table with a row for each environment.
use Rattle.std.specs.Prelude.{◌≡◌, ◌<◌, ◌≤◌, ◌+◌, length, List, Option, Some, None, slice_set, slice_index_or}
use Rattle.ti_types.specs.declared.numbers.EnvNo.{EnvNo}
use Rattle.ti_types.specs.declared.entry.Entry.{Entry}
use Rattle.ti_types.specs.Limits.{most_calls}
use Rattle.ti_types.specs.declared.entry.Entry.TheVariants.{Asked, Stop, Read}
use Rattle.ti_replay.specs.declared.costs.Costs.{Costs}
use Rattle.ti_replay.specs.Legal.{call_cost, ask_count, env_of}

abbrev pub no_costs : Costs
no_costs = record { asked = 0; calls = 0 }

abbrev pub costs_at : List Costs → EnvNo → Costs
costs_at costs env = slice_index_or costs env.0 no_costs

-- the costs of an entry's environment, or no costs if the entry has none
abbrev pub costs_of : List Costs → Option EnvNo → Costs
costs_of costs (Some env) = costs_at costs env
costs_of costs None = no_costs

-- the costs after an entry of an environment
abbrev pub charged_to : List Costs → EnvNo → Entry → List Costs
charged_to costs env x =
    let old = costs_at costs env in
    slice_set costs env.0 (record { asked = old.asked + ask_count env x; calls = old.calls + call_cost env x })

abbrev pub charged_by : List Costs → Option EnvNo → Entry → List Costs
charged_by costs (Some env) x = charged_to costs env x
charged_by costs None x = costs

-- the costs after an entry
abbrev pub charged : List Costs → Entry → List Costs
charged costs x = charged_by costs (env_of x) x

-- no environment has asked more calls than it has paid for
abbrev pub ArePaid : List Costs → Type 0
ArePaid costs = (env : EnvNo) → env.0 < length costs → (costs_at costs env).asked ≤ (costs_at costs env).calls

-- the entry is numbered as the table says, and its environment has a call left
abbrev pub IsDue : List Costs → Entry → Type 0
IsDue costs (Asked env number call) = (number ≡ (costs_at costs env).asked) × ((costs_at costs env).calls < most_calls)
IsDue costs (Stop env) = (costs_at costs env).calls < most_calls
IsDue costs (Read env max_count) = (costs_at costs env).calls < most_calls
IsDue costs _ = Unit {0}
