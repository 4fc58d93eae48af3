-- Worked lists of events about budgets, computed.
use Rattle.std.proofs.Common.{◌≡◌, [], ◌∷◌, refl, pos, negsuc}
use Rattle.ti_types.specs.declared.state.Kind.TheVariants.{Sleep, Park}
use Rattle.ti_types.specs.declared.step.Step.TheVariants.{Enter, At, Leave}
use Rattle.ti_types.specs.declared.call.Call.TheVariants as call
use Rattle.ti_types.specs.declared.event.Event.TheVariants.{Start, Own, Poll, ToBlocked, Back, End, Ask, Stop, Read, Go}
use Rattle.ti_types.specs.declared.answer.Answer.TheVariants as answer
use Rattle.ti_types.specs.declared.error.TiError.TheVariants.{IllegalArgument, Overflow, NotRunning, OwnSpent, CallsSpent}
use Rattle.ti_replay.proofs.WorkedEvents.{t, e, f, a, b, c, tiny, least, run, ok, refused, went, held, gave, done, error}

-- what is refused where a budget is spent, and what still costs nothing
budgets_are_spent :
    run tiny (Start t ∷ Own t (Enter a) ∷ Own t (Enter b) ∷ Own t (Enter c) ∷ Own t Leave ∷ ToBlocked t Sleep ∷ Own t (At 9)
    ∷ Own t (At 9) ∷ Ask e t call.FrameCount ∷ Ask e t call.FrameCount ∷ Ask e t call.FrameCount
    ∷ Ask e t (call.Trace (pos 0) (negsuc 0)) ∷ Ask f t call.FrameCount ∷ Poll t ∷ End t ∷ [])
    ≡ ok ∷ ok ∷ ok ∷ refused Overflow ∷ ok ∷ refused OwnSpent ∷ ok ∷ refused OwnSpent ∷ gave (answer.Count 1)
    ∷ gave (answer.Count 1) ∷ error CallsSpent ∷ error IllegalArgument ∷ gave (answer.Count 1) ∷ went ∷ ok ∷ []
budgets_are_spent = refl

-- the least limits
least_limits :
    run least (Start t ∷ ToBlocked t Park ∷ Back t ∷ ToBlocked t Park ∷ Stop e t ∷ Read e t (pos 1) ∷ Poll t ∷ Go e t
    ∷ Ask f t call.FrameCount ∷ Ask f t call.FrameCount ∷ End t ∷ Back t ∷ End t ∷ [])
    ≡ ok ∷ ok ∷ ok ∷ refused OwnSpent ∷ done ∷ error CallsSpent ∷ held ∷ done ∷ gave (answer.Count 0) ∷ error CallsSpent
    ∷ refused NotRunning ∷ ok ∷ ok ∷ []
least_limits = refl
