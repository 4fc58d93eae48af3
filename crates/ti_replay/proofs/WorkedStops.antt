-- A worked list of events about stops, computed.
use Rattle.std.proofs.Common.{◌≡◌, [], ◌∷◌, refl, pos}
use Rattle.ti_types.specs.declared.step.Step.TheVariants.{Enter}
use Rattle.ti_types.specs.declared.event.Event.TheVariants.{Start, Own, Poll, Back, Stop, Read, Go}
use Rattle.ti_types.specs.declared.error.TiError.TheVariants.{Barred, AlreadyStopped, NotStopped, StillRunning}
use Rattle.ti_replay.proofs.WorkedEvents.{t, e, f, a, b, small, java, run, ok, refused, held, done, error, stack}

-- a stop before the start, one at a running thread, and what is read under them
stops_reads_and_gos :
    run small (Stop e t ∷ Start t ∷ Stop f t ∷ Read e t (pos 4) ∷ Go e t ∷ Start t ∷ Own t (Enter a) ∷ Stop e t ∷ Read e t (pos 4)
    ∷ Read f t (pos 4) ∷ Own t (Enter b) ∷ Poll t ∷ Read e t (pos 1) ∷ Back t ∷ Go f t ∷ Go e t ∷ Back t ∷ [])
    ≡ done ∷ refused Barred ∷ error AlreadyStopped ∷ stack 0x0 [] ∷ done ∷ ok ∷ ok ∷ done ∷ error StillRunning
    ∷ error NotStopped ∷ ok ∷ held ∷ stack 0x5 ((java b 0) ∷ []) ∷ refused Barred ∷ error NotStopped ∷ done ∷ ok ∷ []
stops_reads_and_gos = refl
