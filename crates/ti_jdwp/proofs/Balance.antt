-- The counts of a run, and what the service suspended and resumed in it.
use Rattle.std.proofs.Common.{◌≡◌, ℕ, ◌+◌, ◌-◌, ◌<◌, ◌&&◌, Bool, true, false, cond, List, [], ◌∷◌, nat_lt, fold, count_by, refl, sym, ap, subst, ◌∙◌, inl, inr, arith, true≢false, eqb}
use Rattle.std.specs.Prelude.{if◌then◌else◌}
use Rattle.std.proofs.lemmas.Bool.{cases_eq, eq-eqb, ne_eqb}
use Rattle.std.proofs.lemmas.List.Sums.{sum_by-cons}
use Rattle.std.proofs.lemmas.Bool.Decides.{nat_tests}
use Rattle.ti_jdwp.specs.declared.suspensions.Holder.{Holder}
use Rattle.ti_jdwp.specs.Holds.{Holds, count_of, is_own, is_debugger, IsKeptAt}
use Rattle.ti_jdwp.specs.HoldRuns.{Call, Suspended, Resumed, LetGo, Step, Runs, counted, resumes, suspends, suspensions_from, AreBalanced}

-- an own suspension has a count
abbrev pub Owns : Holds → ℕ → Type 0
Owns s t = is_own s t ≡ true → 0 < count_of s t

abbrev pub one : Bool → ℕ
one b = if b then 1 else 0

-- what one call does at one thread
pub record Goes (old new : Holds) (c : Call) (t : ℕ) : Type 0 where
  pub count : count_of new t ≡ counted t (count_of old t) c
  pub balance : one (suspends t (count_of old t) c) + one (is_own old t) ≡ one (resumes t c) + one (is_own new t)
  pub owns : Owns new t

suspended_here : (n m : ℕ) (own after mine : Bool) → (own ≡ true → 0 < n) → m ≡ n + 1 → after ≡ cond (eqb n 0) mine own → (one (eqb n 0 && mine) + one own ≡ one after) × (after ≡ true → 0 < m)
suspended_here n m own after mine owns count is = (grind (arith, nat_tests), λ h. omega (arith, count))

resumed_here : (n m : ℕ) (own after told : Bool) → (own ≡ true → 0 < n) → told ≡ (own && eqb n 1) → m ≡ n - 1 → after ≡ (own && nat_lt 1 n) → (one own ≡ one told + one after) × (after ≡ true → 0 < m)
resumed_here n m own after told owns says count is = (grind (arith, nat_tests), grind (arith, nat_tests))

let_go_here : (own after told : Bool) → told ≡ own → after ≡ false → one own ≡ one told + one after
let_go_here own after told says is = grind arith

-- a call at the thread itself
suspends_it : (old new : Holds) (t : ℕ) (holder : Holder) → Owns old t → Step old (Suspended t holder) new → Goes old new (Suspended t holder) t
suspends_it old new t holder owns step =
    let is : eqb t t ≡ true = eq-eqb t t refl in
    let n = count_of old t in
    let here = suspended_here n (count_of new t) (is_own old t) (is_own new t) (is_debugger holder) owns step.count step.own in
    record {
      count = step.count ∙ ap (λ b. cond b (n + 1) n) (sym is);
      balance = ap (λ b. one (b && (eqb n 0 && is_debugger holder)) + one (is_own old t)) is ∙ here.0 ∙ omega arith;
      owns = here.1;
    }

resumes_it : (old new : Holds) (t : ℕ) (told : Bool) → Owns old t → Step old (Resumed t told) new → Goes old new (Resumed t told) t
resumes_it old new t told owns step =
    let is : eqb t t ≡ true = eq-eqb t t refl in
    let n = count_of old t in
    let here = resumed_here n (count_of new t) (is_own old t) (is_own new t) told owns step.resumes step.count step.own in
    record {
      count = step.count ∙ ap (λ b. cond b (n - 1) n) (sym is);
      balance = let h : one (eqb t t && told) ≡ one told = ap (λ b. one (b && told)) is in omega (arith, h, here.0);
      owns = here.1;
    }

lets_it_go : (old new : Holds) (t : ℕ) (told : Bool) → Step old (LetGo t told) new → Goes old new (LetGo t told) t
lets_it_go old new t told step =
    let is : eqb t t ≡ true = eq-eqb t t refl in
    let here = let_go_here (is_own old t) (is_own new t) told step.resumes step.own in
    record {
      count = step.count ∙ ap (λ b. cond b 0 (count_of old t)) (sym is);
      balance = let h : one (eqb t t && told) ≡ one told = ap (λ b. one (b && told)) is in omega (arith, h, here);
      owns = λ h. absurd (true≢false (sym h ∙ step.own));
    }

-- a call at another thread
passes : (old new : Holds) (c : Call) (t : ℕ) → Owns old t → IsKeptAt old new t → counted t (count_of old t) c ≡ count_of old t → suspends t (count_of old t) c ≡ false → resumes t c ≡ false → Goes old new c t
passes old new c t owns kept same never none = record {
  count = kept.count ∙ sym same;
  balance = let h = ap one never in let k = ap one none in let o = ap one kept.own in omega (arith, h, k, o);
  owns = λ h. subst (λ n. 0 < n) (sym kept.count) (owns (sym kept.own ∙ h));
}

pub goes : (old new : Holds) (c : Call) (t : ℕ) → Owns old t → Step old c new → Goes old new c t
goes old new (Suspended u holder) t owns step = elim (cases_eq u t) [
  | inl same ↦ subst (λ v. Goes old new (Suspended v holder) t) (sym same) (suspends_it old new t holder owns (subst (λ v. Step old (Suspended v holder) new) same step))
  | inr other ↦
      let no : eqb u t ≡ false = ne_eqb u t other in
      passes old new (Suspended u holder) t owns (step.others t (λ e. other (sym e))) (ap (λ b. cond b (count_of old t + 1) (count_of old t)) no) (ap (λ b. b && (eqb (count_of old t) 0 && is_debugger holder)) no) refl
]
goes old new (Resumed u told) t owns step = elim (cases_eq u t) [
  | inl same ↦ subst (λ v. Goes old new (Resumed v told) t) (sym same) (resumes_it old new t told owns (subst (λ v. Step old (Resumed v told) new) same step))
  | inr other ↦
      let no : eqb u t ≡ false = ne_eqb u t other in
      passes old new (Resumed u told) t owns (step.others t (λ e. other (sym e))) (ap (λ b. cond b (count_of old t - 1) (count_of old t)) no) refl (ap (λ b. b && told) no)
]
goes old new (LetGo u told) t owns step = elim (cases_eq u t) [
  | inl same ↦ subst (λ v. Goes old new (LetGo v told) t) (sym same) (lets_it_go old new t told (subst (λ v. Step old (LetGo v told) new) same step))
  | inr other ↦
      let no : eqb u t ≡ false = ne_eqb u t other in
      passes old new (LetGo u told) t owns (step.others t (λ e. other (sym e))) (ap (λ b. cond b 0 (count_of old t)) no) refl (ap (λ b. b && told) no)
]

-- what a run does at one thread
pub record Went (old new : Holds) (calls : List Call) (t : ℕ) : Type 0 where
  pub count : count_of new t ≡ fold (counted t) (count_of old t) calls
  pub balance : suspensions_from t (count_of old t) calls + one (is_own old t) ≡ count_by (resumes t) calls + one (is_own new t)
  pub owns : Owns new t

went : (old new : Holds) (calls : List Call) (t : ℕ) → Owns old t → Runs old calls new → Went old new calls t
went old new [] t owns run = record {
  count = ap (λ s. count_of s t) (sym run);
  balance = ap (λ s. 0 + one (is_own s t)) run;
  owns = subst (λ s. Owns s t) run owns;
}
went old new (c ∷ calls) t owns run =
    let next = run.0 in
    let now = goes old next c t owns run.1 in
    let later = went next new calls t now.owns run.2 in
    let from : suspensions_from t (count_of next t) calls ≡ suspensions_from t (counted t (count_of old t) c) calls = ap (λ n. suspensions_from t n calls) now.count in
    record {
      count = later.count ∙ ap (λ n. fold (counted t) n calls) now.count;
      balance =
          let more : count_by (resumes t) (c ∷ calls) ≡ one (resumes t c) + count_by (resumes t) calls = sum_by-cons (λ x. one (resumes t x)) c calls in
          omega (arith, now.balance, later.balance, from, more);
      owns = later.owns;
    }

pub free_own : (n : ℕ) (own : Bool) → (own ≡ true → 0 < n) → n ≡ 0 → one own ≡ 0
free_own n true owns none = absurd (omega (arith, owns refl))
free_own n false owns none = refl

pub balanced : AreBalanced
balanced calls end t run =
    let all = went [] end calls t (λ h. absurd (true≢false (sym h))) run in
    record {
      count = all.count;
      balance = omega (arith, all.balance);
      free = λ free. omega (arith, all.balance, free_own (count_of end t) (is_own end t) all.owns (free t));
    }
