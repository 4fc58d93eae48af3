-- Suspensions that are taken back, as C does it.
use Rattle.std.specs.Prelude.{ℕ, ◌≡◌}
use Rattle.ti_types.specs.TiError.{number_of}
use Rattle.ti_types.specs.declared.error.TiError.{TiError}
use Rattle.ti_types.specs.declared.numbers.ThreadNo.{ThreadNo}
use Rattle.ti_agent.specs.Resumed.{IsResumed, IsYetToCome, IsNotResumed}
use Rattle.ti_service.specs.Memberships.{AgentValue}
use Rattle.ti_capi.specs.Codes.{waiting}

-- the thread is not suspended, a call that was cancelled is still to come, or an error (`ti_agent`, `Env::ensure_resumed_now`)
pub data ResumesBy (t : ThreadNo) (s n : AgentValue) (code : ℕ) : Type 0 where
  Resumed : code ≡ 0 → n.home ≡ s.home → IsResumed s.env n.env t → ResumesBy t s n code
  YetToCome : code ≡ waiting → n.home ≡ s.home → IsYetToCome s.env n.env t → ResumesBy t s n code
  NotResumed : (e : TiError) → code ≡ number_of e → n.home ≡ s.home → IsNotResumed s.env n.env t e → ResumesBy t s n code
