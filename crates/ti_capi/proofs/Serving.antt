-- A door for HTTP that was just made.
use Rattle.std.proofs.Common.{◌≡◌, ℕ, List, [], refl, sym, subst}
use Rattle.ti_http.specs.declared.hosts.Hosts.{Hosts}
use Rattle.ti_monitor.specs.Doors.{DoorValue, door_with}
use Rattle.ti_monitor.specs.Monitors.{MayEnable}
use Rattle.ti_monitor.specs.Keeping.{Kept}
use Rattle.ti_service.specs.Agent.{IsNewAgent}
use Rattle.ti_service.specs.Memberships.{AgentValue, state_of}
use Rattle.ti_service.specs.Service.{Member}
use Rattle.ti_capi.specs.Doors.{Serves, hosts_at}

pub serves : (name version : List ℕ) (port : ℕ) (m : Member) (a b : AgentValue) (hosts : Hosts) (told tells : List ℕ) (kept : Kept) (d : DoorValue) → d ≡ door_with hosts [] told tells b [] kept
    → hosts ≡ hosts_at port → told ≡ name → tells ≡ version → IsNewAgent m (state_of a) → MayEnable (state_of a) (state_of b) → Serves name version port m d
serves name version port m a b hosts told tells kept d is served named versioned fresh enabled =
    subst (Serves name version port m) (sym is)
    record {
      hosts_are = served;
      talks_are = refl;
      program_is = named;
      version_is = versioned;
      agent_is = (a, fresh, enabled);
    }
