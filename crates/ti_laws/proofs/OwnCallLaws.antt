-- An environment's calls about stops are among what is noted of it.
use Rattle.std.proofs.Common.{◌≡◌, Bool, true, false, List, [], ◌∷◌, Some, None, refl, sym, ap, ◌∙◌, arith, inl, inr}
use Rattle.std.specs.List.{filter}
use Rattle.std.proofs.lemmas.Bool.{cases_Bool}
use Rattle.ti_types.specs.declared.numbers.EnvNo.{EnvNo}
use Rattle.ti_roster.specs.declared.coming.Coming.{Coming}
use Rattle.ti_roster.specs.declared.coming.Coming.TheVariants.{Came, Started, Ended, Left, Attached, Met, GaveBack, Disposed, Stop}
use Rattle.ti_roster.specs.Log.{is_about, noted}
use Rattle.ti_laws.specs.OwnCalls.{calls_of, is_call_of, OwnCallsAreSeen}

-- what is not about an environment is no call of it
no_call : (e : EnvNo) (x : Coming) → is_about e x ≡ false → is_call_of e x ≡ false
no_call e (Stop (Some f) call) off = off
no_call e (Stop None call) off = refl
no_call e (Came n) off = refl
no_call e (Started t) off = refl
no_call e (Ended t) off = refl
no_call e (Left t) off = refl
no_call e (Attached f) off = refl
no_call e (Met f m) off = refl
no_call e (GaveBack f t) off = refl
no_call e (Disposed f) off = refl

-- one item more, before lists that have the same calls
same_more : (e : EnvNo) (x : Coming) (xs ys : List Coming) → calls_of e xs ≡ calls_of e ys → calls_of e (x ∷ xs) ≡ calls_of e (x ∷ ys)
same_more e x xs ys same =
    elim (cases_Bool (is_call_of e x)) [
      | inl is ↦
          let one : calls_of e (x ∷ xs) ≡ x ∷ calls_of e xs = grind (arith, is) in
          let two : calls_of e (x ∷ ys) ≡ x ∷ calls_of e ys = grind (arith, is) in
          one ∙ ap (λ (l : List Coming). x ∷ l) same ∙ sym two
      | inr not_one ↦
          let one : calls_of e (x ∷ xs) ≡ calls_of e xs = grind (arith, not_one) in
          let two : calls_of e (x ∷ ys) ≡ calls_of e ys = grind (arith, not_one) in
          one ∙ same ∙ sym two
    ]

noted_calls : (e : EnvNo) (log : List Coming) → calls_of e (noted e log) ≡ calls_of e log
noted_calls e [] = refl
noted_calls e (x ∷ log) =
    let rest = noted_calls e log in
    elim (cases_Bool (is_about e x)) [
      | inl on ↦
          let all : noted e (x ∷ log) ≡ x ∷ noted e log = grind (arith, on) in
          ap (calls_of e) all ∙ same_more e x (noted e log) log rest
      | inr off ↦
          let less : noted e (x ∷ log) ≡ noted e log = grind (arith, off) in
          let none : is_call_of e x ≡ false = no_call e x off in
          let skip : calls_of e (x ∷ log) ≡ calls_of e log = grind (arith, none) in
          ap (calls_of e) less ∙ rest ∙ sym skip
    ]

pub own_calls_are_seen : OwnCallsAreSeen
own_calls_are_seen e log seen claims = sym (noted_calls e log) ∙ ap (calls_of e) claims.0 ∙ noted_calls e seen
