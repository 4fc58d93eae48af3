-- How often threads hand over.
use Rattle.std.specs.Prelude.{ℕ, ◌≡◌, ◌-◌, ◌⊎◌, true, is_some, None}
use Rattle.ti_agent.specs.HandOvers.{CountsHandOvers, absence_refusal}
use Rattle.ti_service.specs.Memberships.{AgentValue}
use Rattle.ti_monitor.specs.declared.watched.Watched.{Watched}

-- A thread told how often it has handed over, so many times more than before. Or the environment has no desk there: then the thread is
-- gone, unless a call is out. Or the cell is in use, and nothing is told
abbrev pub TellsHandOvers : AgentValue → AgentValue → Watched → Watched → ℕ → Type 0
TellsHandOvers a b w v more =
    (CountsHandOvers a.env b.env w.thread v.handed × (v ≡ record w { handed = v.handed }) × (more ≡ v.handed - w.handed))
    ⊎ (((b ≡ a) × (more ≡ 0) × (is_some (absence_refusal a.env w.thread) ≡ true) × (v ≡ record w { gone = v.gone }) × (w.out ≡ None → v.gone ≡ true))
    ⊎ ((b ≡ a) × (more ≡ 0) × (v ≡ w)))
