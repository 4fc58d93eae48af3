-- A thread's own step may come into the history late: after a call, a stop or a go that came after it.
use Rattle.std.specs.Prelude.{ℕ, ◌+◌, ◌≡◌, Bool, true, false, if◌then◌else◌, ◌==◌, List, ◌∷◌, ◌++◌, length}
use Rattle.ti_types.specs.declared.limits.Limits.{Limits}
use Rattle.ti_types.specs.declared.step.Step.{Step}
use Rattle.ti_types.specs.declared.entry.Entry.{Entry}
use Rattle.ti_types.specs.declared.entry.Entry.TheVariants.{Own, Asked, Stop, Go}
use Rattle.ti_replay.specs.View.{view}
use Rattle.ti_replay.specs.Legal.{is_legal}
use Rattle.ti_replay.specs.Replies.{reply}

-- the entries that a step may come after
abbrev pub is_passed : Entry → Bool
is_passed (Asked env number call) = true
is_passed (Stop env) = true
is_passed (Go env) = true
is_passed _ = false

-- the place of an entry after the two at n and n + 1 are exchanged
abbrev pub exchanged : ℕ → ℕ → ℕ
exchanged n place = if place == n then n + 1 else if place == n + 1 then n else place

pub record IsLateStep (limits : Limits) (early late : List Entry) (n : ℕ) : Type 0 where
  pub legal : is_legal limits late ≡ true
  pub view : view limits late ≡ view limits early
  pub replies : (place : ℕ) → reply limits late (exchanged n place) ≡ reply limits early place

-- if a step comes directly before a call, a stop or a go, the two may be exchanged
abbrev pub StepsMayBeLate : Type 0
StepsMayBeLate =
    (limits : Limits) (front rest : List Entry) (step : Step) (x : Entry) →
    is_passed x ≡ true → is_legal limits (front ++ Own step ∷ x ∷ rest) ≡ true →
    IsLateStep limits (front ++ Own step ∷ x ∷ rest) (front ++ x ∷ Own step ∷ rest) (length front)
