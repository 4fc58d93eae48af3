-- Limits with the same numbers are the same.
use Rattle.std.proofs.Common.{◌≡◌, ◌&&◌, ℕ, Bool, true, false, not, if◌then◌else◌, eq-eqb, refl, ap, subst}
use Rattle.std.proofs.Math.Bridge.{le_prop}
use Rattle.std.proofs.lemmas.Bool.{and_parts, eqb-true}
use Rattle.ti_types.specs.Limits.{AreLimits}
use Rattle.ti_types.specs.declared.limits.Limits.{Limits}
use Rattle.ti_agent.specs.Desks.{are_same}

-- limits without the fact that they are in their ranges
record Numbers : Type 0 where
  threads : ℕ
  envs : ℕ
  depth : ℕ
  own : ℕ
  calls : ℕ
  window : ℕ
  kept : Bool

abbrev IsInRange : Numbers → Type 0
IsInRange n = AreLimits n.threads n.envs n.depth n.own n.calls n.window

abbrev numbers_of : Limits → Numbers
numbers_of l = record { threads = l.threads; envs = l.envs; depth = l.depth; own = l.own; calls = l.calls; window = l.window; kept = l.kept }

abbrev limits_of : (n : Numbers) → IsInRange n → Limits
limits_of n r = record { threads = n.threads; envs = n.envs; depth = n.depth; own = n.own; calls = n.calls; window = n.window; kept = n.kept; in_range = r }

-- there is one proof that numbers are in their ranges
once_in_range : (n : Numbers) (r s : IsInRange n) → r ≡ s
once_in_range n r s = λ i. (
  (le_prop r.0.0 s.0.0 i, le_prop r.0.1 s.0.1 i),
  (le_prop r.1.0 s.1.0 i, le_prop r.1.1 s.1.1 i),
  (le_prop r.2.0 s.2.0 i, le_prop r.2.1 s.2.1 i),
  (le_prop r.3.0 s.3.0 i, le_prop r.3.1 s.3.1 i),
  (le_prop r.4.0 s.4.0 i, le_prop r.4.1 s.4.1 i),
  (le_prop r.5.0 s.5.0 i, le_prop r.5.1 s.5.1 i),
)

same_numbers : (a : Limits) (n : Numbers) → numbers_of a ≡ n → (r : IsInRange n) → a ≡ limits_of n r
same_numbers a n same = subst (λ (x : Numbers). (r : IsInRange x) → a ≡ limits_of x r) same (λ r. ap (limits_of (numbers_of a)) (once_in_range (numbers_of a) a.in_range r))

same_kept : (a b : Bool) → (if a then b else not b) ≡ true → a ≡ b
same_kept true true h = refl
same_kept true false h = cc
same_kept false true h = cc
same_kept false false h = refl

pub same_limits : (a b : Limits) → are_same a b ≡ true → a ≡ b
same_limits a b h =
    let p = and_parts _ _ h in
    let q = and_parts _ _ p.0 in
    let r = and_parts _ _ q.0 in
    let s = and_parts _ _ r.0 in
    let t = and_parts _ _ s.0 in
    let u = and_parts _ _ t.0 in
    let threads = eqb-true a.threads b.threads u.0 in
    let envs = eqb-true a.envs b.envs u.1 in
    let depth = eqb-true a.depth b.depth t.1 in
    let own = eqb-true a.own b.own s.1 in
    let calls = eqb-true a.calls b.calls r.1 in
    let window = eqb-true a.window b.window q.1 in
    let kept = same_kept a.kept b.kept p.1 in
    same_numbers a (numbers_of b) (λ i. record { threads = threads i; envs = envs i; depth = depth i; own = own i; calls = calls i; window = window i; kept = kept i }) b.in_range

kept_itself : (b : Bool) → (if b then b else not b) ≡ true
kept_itself true = refl
kept_itself false = refl

same_itself : (a : Limits) → are_same a a ≡ true
same_itself a =
    let threads = eq-eqb a.threads a.threads refl in
    let envs = eq-eqb a.envs a.envs refl in
    let depth = eq-eqb a.depth a.depth refl in
    let own = eq-eqb a.own a.own refl in
    let calls = eq-eqb a.calls a.calls refl in
    let window = eq-eqb a.window a.window refl in
    let kept = kept_itself a.kept in
    λ i. threads i && envs i && depth i && own i && calls i && window i && kept i

-- limits are the same as themselves
pub limits_same : (a b : Limits) → a ≡ b → are_same a b ≡ true
limits_same a b same = subst (λ (x : Limits). are_same a x ≡ true) same (same_itself a)
