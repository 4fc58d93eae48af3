-- Where a pop is due, its environment is told.
use Rattle.std.proofs.Common.{◌≡◌, ℕ, Bool, true, false, ◌&&◌, ◌||◌, ◌==◌, List, [], ◌∷◌, refl, sym, ap, ◌∙◌, arith, inl, inr, eqb-true}
use Rattle.std.specs.List.{list_any}
use Rattle.std.proofs.lemmas.Bool.{cases_Bool}
use Rattle.std.proofs.lemmas.Bool.Decides.{nat_tests}
use Rattle.ti_types.specs.declared.numbers.EnvNo.{EnvNo}
use Rattle.ti_types.specs.declared.numbers.ThreadNo.{ThreadNo}
use Rattle.ti_types.specs.declared.place.Frame.{Frame}
use Rattle.ti_stops.specs.declared.lists.Pop.{Pop}
use Rattle.ti_stops.specs.Lists.{is_env, is_popped, is_left}
use Rattle.ti_stops.specs.Stops.{StopsNow, is_due, is_stop, stops_for, left_by, hears}
use Rattle.ti_stops.specs.declared.kind.StopKind.TheVariants as kind
use Rattle.ti_stops.proofs.Filters.{any_more}

pub and_both : (a b : Bool) → (a && b) ≡ true → (a ≡ true) × (b ≡ true)
and_both true true h = (refl, refl)
and_both true false h = cc h
and_both false b h = cc h

-- whether an environment asked for one of these pops, and hears of them
abbrev told_of : StopsNow → ThreadNo → ℕ → List Pop → EnvNo → Bool
told_of s t n ps x = list_any (is_popped x t n) ps && hears s x kind.FramePop t

pub same_env_no : (x y : EnvNo) → (x.0 == y.0) ≡ true → x ≡ y
same_env_no x y h = ap (λ (n : ℕ). record { 0 = n }) (eqb-true _ _ h)

due_told : (s : StopsNow) (t : ThreadNo) (n : ℕ) (p : Pop) (ps : List Pop) (x : EnvNo) → is_left t n p ≡ true → hears s p.env kind.FramePop t ≡ true → is_env p.env x ≡ true → told_of s t n (p ∷ ps) x ≡ true
due_told s t n p ps x left heard here =
    let is : x ≡ p.env = same_env_no x p.env here in
    let hx : hears s x kind.FramePop t ≡ true = ap (λ (y : EnvNo). hears s y kind.FramePop t) is ∙ heard in
    let px : (p.env.0 == x.0) ≡ true = grind (arith, nat_tests, here) in
    grind (arith, left, hx, px)

more_told : (s : StopsNow) (t : ThreadNo) (n : ℕ) (p : Pop) (ps : List Pop) (x : EnvNo) → told_of s t n ps x ≡ true → told_of s t n (p ∷ ps) x ≡ true
more_told s t n p ps x h = grind (arith, h)

-- an environment is told where a pop is due
due_stops : (s : StopsNow) (t : ThreadNo) (n : ℕ) (ps : List Pop) → list_any (is_due s t n) ps ≡ true → list_any (told_of s t n ps) s.envs ≡ true
due_stops s t n [] h = cc h
due_stops s t n (p ∷ ps) h =
    elim (cases_Bool (is_due s t n p)) [
      | inl due ↦
          let a = and_both (is_left t n p) (hears s p.env kind.FramePop t && list_any (is_env p.env) s.envs) due in
          let b = and_both (hears s p.env kind.FramePop t) (list_any (is_env p.env) s.envs) a.1 in
          any_more (is_env p.env) (told_of s t n (p ∷ ps)) (λ x here. due_told s t n p ps x a.0 b.0 here) s.envs b.1
      | inr not_due ↦
          let rest : list_any (is_due s t n) ps ≡ true = ap (λ c. c || list_any (is_due s t n) ps) (sym not_due) ∙ h in
          any_more (told_of s t n ps) (told_of s t n (p ∷ ps)) (λ x k. more_told s t n p ps x k) s.envs (due_stops s t n ps rest)
    ]

told_stop : (s : StopsNow) (t : ThreadNo) (at : Frame) (n : ℕ) (x : EnvNo) → told_of s t n s.pops x ≡ true → is_stop (left_by s t at n x) ≡ true
told_stop s t at n x h = grind (arith, h)

is_so : (b : Bool) → (b ≡ true → ⊥) → b ≡ false
is_so true h = absurd (h refl)
is_so false h = refl

pub none_due : (s : StopsNow) (t : ThreadNo) (at : Frame) (n : ℕ) → stops_for (left_by s t at n) s.envs ≡ false → list_any (is_due s t n) s.pops ≡ false
none_due s t at n h =
    is_so (list_any (is_due s t n) s.pops) (λ k. let stops : stops_for (left_by s t at n) s.envs ≡ true = any_more (told_of s t n s.pops) (λ x. is_stop (left_by s t at n x)) (λ x z. told_stop s t at n x z) s.envs (due_stops s t n s.pops k) in
    let bad : true ≡ false = sym stops ∙ h in cc bad)
