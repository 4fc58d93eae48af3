-- An environment and what it belongs to.
use Rattle.std.specs.List.{All}
use Rattle.ti_types.specs.declared.limits.Limits.{Limits}
use Rattle.ti_types.specs.declared.numbers.EnvNo.{EnvNo}
use Rattle.ti_agent.specs.Env.{Environment}
use Rattle.ti_agent.specs.Spots.{Spot, spots_of}

pub record Housed (H : Type 0) : Type 0 where
  pub home : H
  pub env : Environment

-- it may be the home of the environment, and of each of its desks
abbrev pub IsAtHome : {H : Type 0} → (H → EnvNo → Limits → Type 0) → (H → Spot → Type 0) → H → Environment → Type 0
IsAtHome about holds home s = about home s.env s.state.limits × All (holds home) (spots_of s.desks)
