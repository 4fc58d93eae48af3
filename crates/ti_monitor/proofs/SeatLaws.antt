-- What calls at a connection leave as it is.
use Rattle.std.proofs.Common.{◌≡◌, ℕ, true, false, List, [], ◌∷◌, ◌++◌, refl, sym, ap, subst, ◌∙◌}
use Rattle.ti_http.specs.declared.connection.Action.{Action}
use Rattle.ti_http.specs.declared.connection.Action.TheVariants as action
use Rattle.ti_http.specs.declared.connection.Phase.{Phase}
use Rattle.ti_http.specs.declared.connection.Phase.TheVariants as phase
use Rattle.ti_http.specs.declared.head.Request.{Request}
use Rattle.ti_http.specs.Talks.{Talk, Goes}
use Rattle.ti_http.specs.Runs.{Call, Told, Step, Runs, State, idle, waits as waiting, shut, state_of, is_waiting, is_shut, is_same, allows}
use Rattle.ti_http.proofs.Protocol.{FineIn, step_well}
use Rattle.ti_monitor.specs.Seats.{QuietIn, RunsTo, asks_one, waits}

fine_of : (p : Phase) (out : List ℕ) → QuietIn p out → FineIn p out
fine_of phase.Reading out h = tt
fine_of (phase.Waiting manner) out h = h.0 refl
fine_of phase.Closing out h = tt
fine_of phase.Closed out h = h.1 refl

quiet_of : (p : Phase) (out : List ℕ) → FineIn p out → QuietIn p out
quiet_of phase.Reading out h = (λ w. absurd (cc), λ w. absurd (cc))
quiet_of (phase.Waiting manner) out h = (λ w. h, λ w. absurd (cc))
quiet_of phase.Closing out h = (λ w. absurd (cc), λ w. absurd (cc))
quiet_of phase.Closed out h = (λ w. absurd (cc), λ w. h)

-- a call leaves nothing to be written where nothing may be
pub still_quiet : (t m : Talk) (c : Call) → QuietIn t.phase t.output → Step t c m → QuietIn m.phase m.output
still_quiet t m c h step = quiet_of m.phase m.output (step_well t m c (fine_of t.phase t.output h) step).1

pub allowed : (t m : Talk) (c : Call) → QuietIn t.phase t.output → Step t c m → allows c (state_of t.phase) (state_of m.phase) ≡ true
allowed t m c h step = (step_well t m c (fine_of t.phase t.output h) step).0

same_waits : (old new : State) → is_same old new ≡ true → is_waiting new ≡ is_waiting old
same_waits idle idle h = refl
same_waits idle waiting h = absurd (cc)
same_waits idle shut h = absurd (cc)
same_waits waiting idle h = absurd (cc)
same_waits waiting waiting h = refl
same_waits waiting shut h = absurd (cc)
same_waits shut idle h = absurd (cc)
same_waits shut waiting h = absurd (cc)
same_waits shut shut h = refl

-- what the connection says by itself leaves it as it was, unless a request came
told_keeps : (a : Action) (old new : State) → asks_one a ≡ false → allows (Told a 0) old new ≡ true → is_waiting new ≡ is_waiting old
told_keeps (action.Ask request) old new is h = absurd (cc)
told_keeps action.Write idle new is h = same_waits idle new h
told_keeps action.Write waiting new is h = same_waits waiting new h
told_keeps action.Write shut new is h = absurd (cc)
told_keeps action.Wait idle new is h = same_waits idle new h
told_keeps action.Wait waiting new is h = same_waits waiting new h
told_keeps action.Wait shut new is h = absurd (cc)
told_keeps action.Close idle idle is h = refl
told_keeps action.Close idle waiting is h = absurd (cc)
told_keeps action.Close idle shut is h = refl
told_keeps action.Close waiting new is h = absurd (cc)
told_keeps action.Close shut idle is h = refl
told_keeps action.Close shut waiting is h = absurd (cc)
told_keeps action.Close shut shut is h = refl

pub next_keeps : (t m : Talk) (a : Action) (now : ℕ) → QuietIn t.phase t.output → Goes t now a m → asks_one a ≡ false → waits m ≡ waits t
next_keeps t m a now h step is = told_keeps a _ _ is (allowed t m (Told a now) h step)

told_shuts : (old new : State) → allows (Told action.Close 0) old new ≡ true → is_shut new ≡ true
told_shuts idle idle h = absurd (cc)
told_shuts idle waiting h = absurd (cc)
told_shuts idle shut h = refl
told_shuts waiting new h = absurd (cc)
told_shuts shut idle h = absurd (cc)
told_shuts shut waiting h = absurd (cc)
told_shuts shut shut h = refl

pub next_shuts : (t m : Talk) (a : Action) (now : ℕ) → QuietIn t.phase t.output → Goes t now a m → a ≡ action.Close → is_shut (state_of m.phase) ≡ true
next_shuts t m a now h step is =
    told_shuts _ _ (ap (λ (x : Action). allows (Told x 0) (state_of t.phase) (state_of m.phase)) (sym is) ∙ allowed t m (Told a now) h step)

pub not_ask : (a : Action) → ((r : Request) → a ≡ action.Ask r → ⊥) → asks_one a ≡ false
not_ask (action.Ask r) h = absurd (h r refl)
not_ask action.Write h = refl
not_ask action.Close h = refl
not_ask action.Wait h = refl

-- runs
pub runs_none : (t m : Talk) → m ≡ t → RunsTo t m
runs_none t m is = ([], sym is)

pub runs_one : (t m : Talk) (c : Call) → Step t c m → RunsTo t m
runs_one t m c step = (c ∷ [], (m, step, refl))

runs_on : (t m u : Talk) (first more : List Call) → Runs t first m → Runs m more u → Runs t (first ++ more) u
runs_on t m u [] more a b = subst (λ (x : Talk). Runs x more u) (sym a) b
runs_on t m u (c ∷ first) more a b = (a.0, a.1, runs_on a.0 m u first more a.2 b)

pub runs_more : (t m u : Talk) → RunsTo t m → RunsTo m u → RunsTo t u
runs_more t m u a b = (a.0 ++ b.0, runs_on t m u a.0 b.0 a.1 b.1)
