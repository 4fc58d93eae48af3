-- What a trace of several threads is made of, before it begins.
use Rattle.std.specs.Prelude.{ℤ, ◌≡◌, ◌≤◌, Bool, List, [], length, vec_capacity}
use Rattle.ti_types.specs.declared.numbers.ThreadNo.{ThreadNo}
use Rattle.ti_vmop.specs.Turns.{Listed}
use Rattle.ti_agent.specs.Buffers.{AreRoomy}
use Rattle.ti_agent.specs.Env.{Environment}
use Rattle.ti_agent.specs.Gathering.{IsAsked}
use Rattle.ti_agent.specs.declared.gathering_begins.Plan.{Plan}

pub record IsPlan (s : Environment) (stopping : Listed) (places : List ThreadNo) (max_count : ℤ) (is_alive_only : Bool) (p : Plan) : Type 0 where
  pub stopping_is : p.stopping.items ≡ stopping
  pub places_are : p.places.items ≡ places
  pub max_count_is : p.max_count ≡ max_count
  pub only : p.is_alive_only ≡ is_alive_only
  pub asked : IsAsked s p.stopping.items p.places.items p.max_count
  pub count : length p.bufs.items ≡ length p.places.items
  pub roomy : AreRoomy s.state.limits p.max_count p.bufs.items
  pub none_read : p.infos.items ≡ []
  pub room : length p.places.items ≤ vec_capacity p.infos
