-- What a slot's answer to a call says of the slot.
use Rattle.std.proofs.Common.{◌≡◌, true, ap, refl, Option}
use Rattle.ti_types.specs.declared.numbers.EnvNo.{EnvNo}
use Rattle.ti_types.specs.declared.call.Call.{Call}
use Rattle.ti_replay.specs.Legal.{is_legal}
use Rattle.ti_frames.specs.Frames.{Stack}
use Rattle.ti_frames.specs.Log.{Steps}
use Rattle.ti_slot.specs.Thread.{Thread, IsAsked, next_asked}
use Rattle.ti_slot.specs.declared.asked.Asked.{Asked}
use Rattle.ti_slot.specs.declared.asked.Asked.TheVariants.{Answered, Waiting}
use Rattle.ti_core.specs.Inside.{IsWhole}
use Rattle.ti_core.proofs.WholeLaws.{whole_passed}

pub asked_whole : (t u : Thread) (f : Option Stack) (l : Option Steps) (env : EnvNo) (call : Call) (a : Asked) → IsWhole t f l → IsAsked t u env call a → is_legal u.limits u.history ≡ true → IsWhole u f l
asked_whole t u f l env call (Answered answer) k e legal =
    whole_passed t u f l (next_asked t env call) refl k (ap (λ (z : Thread). z.limits) e.0) (ap (λ (z : Thread). z.history) e.0) legal
asked_whole t u f l env call (Waiting ticket) k e legal =
    whole_passed t u f l (next_asked t env call) refl k (ap (λ (z : Thread). z.limits) e.0) (ap (λ (z : Thread). z.history) e.0) legal
