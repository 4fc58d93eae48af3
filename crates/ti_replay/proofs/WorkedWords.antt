-- A worked list of events about words, computed.
use Rattle.std.proofs.Common.{◌≡◌, [], ◌∷◌, refl}
use Rattle.ti_types.specs.declared.call.Call.TheVariants as call
use Rattle.ti_types.specs.declared.event.Event.TheVariants.{Start, Ask, SetEnvWord, GetEnvWord}
use Rattle.ti_types.specs.declared.answer.Answer.TheVariants as answer
use Rattle.ti_types.specs.declared.error.TiError.TheVariants.{ThreadNotAlive}
use Rattle.ti_replay.proofs.WorkedEvents.{t, e, f, small, run, ok, gave, done, error}

-- each environment has a word of its own at a thread, and one of its own
words_of_two_environments :
    run small (Ask e t (call.SetWord 7) ∷ Start t ∷ Ask e t (call.SetWord 7) ∷ Ask f t call.GetWord ∷ Ask f t (call.SetWord 9)
    ∷ Ask e t call.GetWord ∷ Ask f t call.GetWord ∷ SetEnvWord e 18446744073709551615 ∷ GetEnvWord e ∷ GetEnvWord f ∷ [])
    ≡ error ThreadNotAlive ∷ ok ∷ done ∷ gave (answer.Word 0) ∷ done ∷ gave (answer.Word 7) ∷ gave (answer.Word 9) ∷ done
    ∷ gave (answer.Word 18446744073709551615) ∷ gave (answer.Word 0) ∷ []
words_of_two_environments = refl
