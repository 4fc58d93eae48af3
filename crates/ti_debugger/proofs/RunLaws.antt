-- Runs of a session by its agent's calls: one call, and one run after another.
use Rattle.std.proofs.Common.{◌≡◌, ℕ, Bool, true, false, List, [], ◌∷◌, ◌++◌, Result, Ok, Err, refl, sym, ap, subst, ◌∙◌, append_assoc}
use Rattle.ti_jdwp.specs.declared.session_error.SessionError.{SessionError}
use Rattle.ti_jdwp.specs.declared.session_error.SessionError.TheVariants.{NotAsked}
use Rattle.ti_jdwp.specs.SessionRuns.{Call, Runs, taken}
use Rattle.ti_jdwp.specs.Talks.{Talk}

pub runs_on : (t m u : Talk) (first more : List Call) (s s' : List ℕ) → Runs t first s m → Runs m more s' u → Runs t (first ++ more) (s ++ s') u
runs_on t m u [] more s s' a b = subst (λ (x : Talk). Runs x more (s ++ s') u) (sym a.0) (subst (λ (x : List ℕ). Runs m more (x ++ s') u) (sym a.1) b)
runs_on t m u (c ∷ first) more s s' a b = (a.0, a.1 ++ s', a.2, ap (λ x. x ++ s') a.3 ∙ append_assoc (taken t c) a.1 s', runs_on a.0 m u first more a.1 s' a.4 b)

pub asked_of : (r : Result (Unit {0}) SessionError) (b : Bool) (x : Unit {0}) → r ≡ Ok x → (b ≡ false → r ≡ Err NotAsked) → b ≡ true
asked_of r true x is h = refl
asked_of r false x is h = absurd (cc (is, h refl))
