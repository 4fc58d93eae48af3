-- A trace of several threads, and what its environment belongs to.
use Rattle.std.specs.Prelude.{List, map}
use Rattle.ti_agent.specs.Env.{Environment}
use Rattle.ti_agent.specs.Gathering.{Gathered}
use Rattle.ti_agent.specs.Home.{Housed}

pub record HousedTrace (H : Type 0) : Type 0 where
  pub home : H
  pub trace : Gathered

-- the environments, without their homes
abbrev pub envs_of : {H : Type 0} → List (Housed H) → List Environment
envs_of envs = map (λ a. a.env) envs
