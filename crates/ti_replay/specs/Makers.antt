-- Which seat makes an entry, and histories that go on by entries of one seat.
use Rattle.std.specs.Prelude.{ℕ, suc, ◌≡◌, ◌==◌, ◌+◌, List, [], ◌∷◌, ◌++◌}
use Rattle.std.specs.List.{filter}
use Rattle.ti_types.specs.declared.limits.Limits.{Limits}
use Rattle.ti_types.specs.declared.numbers.EnvNo.{EnvNo}
use Rattle.ti_types.specs.declared.state.Mode.{Mode}
use Rattle.ti_types.specs.declared.state.Mode.TheVariants as mode
use Rattle.ti_types.specs.declared.entry.Entry.{Entry}
use Rattle.ti_types.specs.declared.entry.Entry.TheVariants.{Start, Own, Hand, Back, End, Asked, Stop, Read, Go}
use Rattle.ti_replay.specs.View.{view}
use Rattle.ti_replay.specs.Legal.{own_spent, calls_spent, asked_by}

-- the number of the seat that makes an entry: 0 for the thread's own, e + 1 for environment e's
abbrev pub maker : Entry → ℕ
maker Start = 0
maker (Own step) = 0
maker (Hand safe) = 0
maker Back = 0
maker End = 0
maker (Asked env number call) = suc env.0
maker (Stop env) = suc env.0
maker (Read env max_count) = suc env.0
maker (Go env) = suc env.0

-- the entries of a history that the seat n makes
abbrev pub made_by : ℕ → List Entry → List Entry
made_by n history = filter (λ e. maker e == n) history

abbrev pub AllBy : ℕ → List Entry → Type 0
AllBy n [] = Unit {0}
AllBy n (e ∷ es) = (maker e ≡ n) × AllBy n es

abbrev pub StartsWith : List Entry → List Entry → Type 0
StartsWith history seen = (rest : List Entry) × (history ≡ seen ++ rest)

-- the history is what was seen, and then entries of the seat n alone
abbrev pub Adds : ℕ → List Entry → List Entry → Type 0
Adds n seen history = (added : List Entry) × (history ≡ seen ++ added) × AllBy n added

-- the mode after an entry: only the thread's own change it
abbrev pub mode_after : Mode → Entry → Mode
mode_after m Start = mode.Running
mode_after m Back = mode.Running
mode_after m (Hand safe) = mode.AtSafe safe
mode_after m End = mode.Ended
mode_after m _ = m

-- the mode depends on the thread's own entries alone
abbrev pub ModeIsOwn : Type 0
ModeIsOwn = (limits : Limits) (history : List Entry) → (view limits history).mode ≡ (view limits (made_by 0 history)).mode

-- so does what the thread has spent
abbrev pub OwnCostsAreOwn : Type 0
OwnCostsAreOwn = (history : List Entry) → own_spent history ≡ own_spent (made_by 0 history)

-- what an environment has spent depends on its entries alone
abbrev pub CallCostsAreItsOwn : Type 0
CallCostsAreItsOwn = (env : EnvNo) (history : List Entry) → calls_spent env history ≡ calls_spent env (made_by (env.0 + 1) history)

-- so does the number of its next call
abbrev pub NumbersAreItsOwn : Type 0
NumbersAreItsOwn = (env : EnvNo) (history : List Entry) → asked_by env history ≡ asked_by env (made_by (env.0 + 1) history)
