-- Calls of an environment of the same number that has left: their answers are dropped before an own answer is told.
use Rattle.std.proofs.Common.{◌≡◌, suc, ◌<◌, ◌≤◌, Bool, false, inl, inr, length, refl, sym, ap, subst, arith, Option, Some, None, Result, Ok, Err}
use Rattle.std.specs.Prelude.{is_some, IfOk, IfSome}
use Rattle.std.proofs.lemmas.Bool.{cases_lt}
use Rattle.std.proofs.lemmas.Option.{slice_get_past}
use Rattle.ti_types.specs.Answer.{said}
use Rattle.ti_types.specs.declared.error.TiError.{TiError}
use Rattle.ti_types.specs.declared.numbers.ThreadNo.{ThreadNo}
use Rattle.ti_handshake.specs.declared.discarded.Discarded.{Discarded}
use Rattle.ti_agent.specs.Deadlines.{DiscardsAt, DiscardsOwn, DropsAt, Looked, TellsDiscardedAt, TellsOwn, former_at, former_of}
use Rattle.ti_agent.specs.Env.{Environment, place_in}

-- one more was looked for, while a former environment's call was out
pub drops_more : (a b c : Environment) (t : ThreadNo) (was_there : Bool) → DropsAt a b t → 0 < former_at b t → (place_in b.desks t < length b.desks → DiscardsAt b c t was_there) → (length b.desks ≤ place_in b.desks t → c ≡ b) → DropsAt a c t
drops_more a b c t was_there before former there nobody =
    elim (cases_lt (place_in b.desks t) (length b.desks)) [
      | inl here ↦ (suc before.0, (b, before.1, former, (was_there, there here)))
      | inr past ↦ subst (λ (x : Environment). DropsAt a x t) (sym (nobody past)) before
    ]

-- with no desk there nothing was discarded
pub nobody_there : (a : Environment) (t : ThreadNo) → length a.desks ≤ place_in a.desks t → DiscardsOwn a a t false
nobody_there a t past = Looked a (0, refl) (ap former_of (slice_get_past a.desks (place_in a.desks t) past)) (λ here. absurd (omega (arith, here, past))) (λ _. (refl, refl))

-- once none is out, an own answer is looked for
pub looks_own : (a b c : Environment) (t : ThreadNo) (r : Result (Option Discarded) TiError) → DropsAt a b t → former_at b t ≡ 0 → IfOk r (λ d. place_in b.desks t < length b.desks → DiscardsAt b c t (is_some d))
    → (length b.desks ≤ place_in b.desks t → (c ≡ b) × (r ≡ Ok None)) → IfOk r (λ d. DiscardsOwn a c t (is_some d))
looks_own a b c t (Ok d) drops none there nobody = Looked b drops none there (λ past. ((nobody past).0, untold d (nobody past).1))
  where
    result : Option Discarded → Result (Option Discarded) TiError
    result x = Ok x

    untold : (x : Option Discarded) → result x ≡ result None → is_some x ≡ false
    untold None e = refl
    untold (Some y) e = cc
looks_own a b c t (Err e) drops none there nobody = tt

-- and told
pub tells_own : (a b c : Environment) (t : ThreadNo) (r : Result (Option Discarded) TiError) → DropsAt a b t → former_at b t ≡ 0 → IfOk r (λ d. IfSome d (λ x. TellsDiscardedAt b c t x.ticket (said x.answer)))
    → IfOk r (λ d. IfSome d (λ x. TellsOwn a c t x.ticket (said x.answer)))
tells_own a b c t (Ok (Some x)) drops none tells = record { mid = b; drops = drops; none = none; tells = tells }
tells_own a b c t (Ok None) drops none tells = tt
tells_own a b c t (Err e) drops none tells = tt
