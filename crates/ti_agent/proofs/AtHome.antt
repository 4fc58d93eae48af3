-- An environment stays at home.
use Rattle.std.proofs.Common.{Bool, ◌≡◌, ℕ, zero, suc, List, [], ◌∷◌, ◌++◌, refl, ap, sym, ◌∙◌, subst, remove, Result, Ok, Err, Option, Some, None}
use Rattle.std.specs.Prelude.{IfNone, IfOk, IfErr, OnOk, OnErr, is_some, slice_get, slice_set}
use Rattle.std.specs.List.{All}
use Rattle.std.proofs.lemmas.List.{map-append}
use Rattle.std.proofs.lemmas.List.Elements.{All-cons, All-head, All-push, All-tail}
use Rattle.ti_types.specs.declared.answer.Answer.{Answer}
use Rattle.ti_types.specs.declared.call.Call.{Call}
use Rattle.ti_types.specs.declared.error.TiError.{TiError}
use Rattle.ti_types.specs.declared.error.TiError.TheVariants.{Busy}
use Rattle.ti_types.specs.declared.event.Ticket.{Ticket}
use Rattle.ti_types.specs.declared.limits.Limits.{Limits}
use Rattle.ti_types.specs.declared.numbers.EnvNo.{EnvNo}
use Rattle.ti_env.specs.Env.{EnvValue}
use Rattle.ti_handshake.specs.Call.{Holds, HoldsWith}
use Rattle.ti_handshake.specs.Desk.{DeskState, Discards, DiscardsOf, IsInTime, IsSame}
use Rattle.ti_handshake.specs.declared.discarded.Discarded.{Discarded}
use Rattle.ti_agent.specs.Env.{Environment}
use Rattle.ti_agent.specs.Home.{Housed, IsAtHome}
use Rattle.ti_agent.specs.HousedTrace.{HousedTrace}
use Rattle.ti_agent.specs.Spots.{Spot, spot_of, spots_of}

pub same_env : {H : Type 0} {a b : Housed H} → a ≡ b → a.env ≡ b.env
same_env e = ap (λ (x : Housed _). x.env) e

pub same_trace : {H : Type 0} {a b : HousedTrace H} → a ≡ b → a.trace ≡ b.trace
same_trace e = ap (λ (x : HousedTrace _). x.trace) e

pub same_if_refused : {H V E : Type 0} (a b : Housed H) (r : Result V E) → IfErr r (λ e. a ≡ b) → IfErr r (λ e. a.env ≡ b.env)
same_if_refused a b (Ok v) e = tt
same_if_refused a b (Err x) e = same_env e

pub same_if_none : {H V : Type 0} (a b : Housed H) (o : Option V) → IfNone o (a ≡ b) → IfNone o (a.env ≡ b.env)
same_if_none a b None e = same_env e
same_if_none a b (Some v) e = tt

pub same_on_err : {H V E : Type 0} (a b : Housed H) (r : Result V E) → OnErr r (a ≡ b) → OnErr r (a.env ≡ b.env)
same_on_err a b (Ok v) e = tt
same_on_err a b (Err x) e = same_env e

some_same : (x y : DeskState) → Some x ≡ Some y → x ≡ y
some_same x y e = cc

pub same_spot : (p q : DeskState) → q.cell ≡ p.cell → q.view.subject ≡ p.view.subject → spot_of q ≡ spot_of p
same_spot p q cell subject = λ j. record { thread = (subject j).thread; cell = cell j }

pub spots_set : (l : List DeskState) (i : ℕ) (p q : DeskState) → slice_get l i ≡ Some p → spot_of q ≡ spot_of p → spots_of (slice_set l i q) ≡ spots_of l
spots_set [] i p q at e = refl
spots_set (x ∷ l) zero p q at e = ap (λ (h : Spot). h ∷ spots_of l) (e ∙ ap spot_of (sym (some_same x p at)))
spots_set (x ∷ l) (suc i) p q at e = ap (λ (t : List Spot). spot_of x ∷ t) (spots_set l i p q at e)

-- what it keeps for itself changed, but not the limits
pub home_with : {H : Type 0} (about : H → EnvNo → Limits → Type 0) (holds : H → Spot → Type 0) (h : H) (s : Environment) (state : EnvValue) → state.limits ≡ s.state.limits → IsAtHome about holds h s
    → IsAtHome about holds h (record { env = s.env; state = state; desks = s.desks })
home_with about holds h s state limits k = (subst (λ (l : Limits). about h s.env l) (sym limits) k.0, k.1)

-- the same, if it went through
pub home_or : {H V E : Type 0} (about : H → EnvNo → Limits → Type 0) (holds : H → Spot → Type 0) (h : H) (s : Environment) (state other : EnvValue) (r : Result V E) → other.limits ≡ s.state.limits → OnOk r (state ≡ other) → OnErr r (state ≡ s.state)
    → IsAtHome about holds h s → IsAtHome about holds h (record { env = s.env; state = state; desks = s.desks })
home_or about holds h s state other (Ok v) limits is same k = home_with about holds h s state (ap (λ (x : EnvValue). x.limits) is ∙ limits) k
home_or about holds h s state other (Err e) limits is same k = home_with about holds h s state (ap (λ (x : EnvValue). x.limits) same) k

-- one of its desks changed, and is where it was
pub home_set : {H : Type 0} (about : H → EnvNo → Limits → Type 0) (holds : H → Spot → Type 0) (h : H) (s : Environment) (state : EnvValue) (i : ℕ) (p q : DeskState) → slice_get s.desks i ≡ Some p → q.cell ≡ p.cell → q.view.subject ≡ p.view.subject → state.limits ≡ s.state.limits
    → IsAtHome about holds h s → IsAtHome about holds h (record { env = s.env; state = state; desks = slice_set s.desks i q })
home_set about holds h s state i p q at cell subject limits k = (
  subst (λ (l : Limits). about h s.env l) (sym limits) k.0,
  subst (λ (l : List Spot). All (holds h) l) (sym (spots_set s.desks i p q at (same_spot p q cell subject))) k.1,
)

-- one desk more
pub home_more : {H : Type 0} (about : H → EnvNo → Limits → Type 0) (holds : H → Spot → Type 0) (h : H) (s : Environment) (state : EnvValue) (desks : List DeskState) (q : DeskState) → desks ≡ s.desks ++ q ∷ [] → state.limits ≡ s.state.limits → holds h (spot_of q)
    → IsAtHome about holds h s → IsAtHome about holds h (record { env = s.env; state = state; desks = desks })
home_more about holds h s state desks q is limits there k = (
  subst (λ (l : Limits). about h s.env l) (sym limits) k.0,
  subst (λ (l : List Spot). All (holds h) l) (sym (ap spots_of is ∙ map-append spot_of s.desks (q ∷ []))) (All-push (holds h) (spots_of s.desks) (spot_of q) k.1 there),
)

-- one desk less
pub spots_less : (l : List DeskState) (i : ℕ) → spots_of (remove l i) ≡ remove (spots_of l) i
spots_less [] zero = refl
spots_less [] (suc i) = refl
spots_less (x ∷ l) zero = refl
spots_less (x ∷ l) (suc i) = ap (λ (t : List Spot). spot_of x ∷ t) (spots_less l i)

pub all_less : (P : Spot → Type 0) (l : List Spot) (i : ℕ) → All P l → All P (remove l i)
all_less P [] zero a = a
all_less P [] (suc i) a = a
all_less P (x ∷ l) zero a = All-tail P x l a
all_less P (x ∷ l) (suc i) a = All-cons P x (remove l i) (All-head P x l a) (all_less P l i (All-tail P x l a))

pub home_less : {H : Type 0} (about : H → EnvNo → Limits → Type 0) (holds : H → Spot → Type 0) (h : H) (s : Environment) (state : EnvValue) (desks : List DeskState) (i : ℕ) → desks ≡ remove s.desks i → state.limits ≡ s.state.limits
    → IsAtHome about holds h s → IsAtHome about holds h (record { env = s.env; state = state; desks = desks })
home_less about holds h s state desks i is limits k = (
  subst (λ (l : Limits). about h s.env l) (sym limits) k.0,
  subst (λ (l : List Spot). All (holds h) l) (sym (ap spots_of is ∙ spots_less s.desks i)) (all_less (holds h) (spots_of s.desks) i k.1),
)

-- the desk at a place is at home
pub one_there : (P : Spot → Type 0) (l : List DeskState) (i : ℕ) (p : DeskState) → slice_get l i ≡ Some p → All P (spots_of l) → P (spot_of p)
one_there P [] i p at a = absurd (none at)
  where
    none : slice_get [] i ≡ Some p → ⊥
    none e = cc
one_there P (x ∷ l) zero p at a = subst (λ (q : DeskState). P (spot_of q)) (some_same x p at) (All-head P (spot_of x) (spots_of l) a)
one_there P (x ∷ l) (suc i) p at a = one_there P l i p at (All-tail P (spot_of x) (spots_of l) a)

-- a desk that is as it was
same_desk : {H : Type 0} (about : H → EnvNo → Limits → Type 0) (holds : H → Spot → Type 0) (h : H) (s : Environment) (i : ℕ) (p q : DeskState) → slice_get s.desks i ≡ Some p → q ≡ p → IsAtHome about holds h s → IsAtHome about holds h (record { env = s.env; state = s.state; desks = slice_set s.desks i q })
same_desk about holds h s i p q at same k = home_set about holds h s s.state i p q at (ap (λ (x : DeskState). x.cell) same) (ap (λ (x : DeskState). x.view.subject) same) refl k

-- a call that was cancelled changed nothing of where the desk is
pub cancel_home : {H : Type 0} (about : H → EnvNo → Limits → Type 0) (holds : H → Spot → Type 0) (h : H) (s : Environment) (i : ℕ) (p q : DeskState) (r : Result (Unit {0}) TiError) → slice_get s.desks i ≡ Some p → q.cell ≡ p.cell → OnOk r (Holds p.view q.view []) → OnErr r (q ≡ p)
    → IsAtHome about holds h s → IsAtHome about holds h (record { env = s.env; state = s.state; desks = slice_set s.desks i q })
cancel_home about holds h s i p q (Ok u) at cell hold same k = home_set about holds h s s.state i p q at cell hold.waits.goes.subject refl k
cancel_home about holds h s i p q (Err e) at cell hold same k = same_desk about holds h s i p q at same k

-- nor did one that was discarded
discarded_of : {H : Type 0} (about : H → EnvNo → Limits → Type 0) (holds : H → Spot → Type 0) (h : H) (s : Environment) (i : ℕ) (l : List Ticket) (p q : DeskState) (b : Bool) → slice_get s.desks i ≡ Some p → DiscardsOf l p q b
    → IsAtHome about holds h s → IsAtHome about holds h (record { env = s.env; state = s.state; desks = slice_set s.desks i q })
discarded_of about holds h s i [] p q b at d k = home_set about holds h s s.state i p q at (ap (λ (x : DeskState). x.cell) d.0) (ap (λ (x : DeskState). x.view.subject) d.0) refl k
discarded_of about holds h s i (t ∷ l) p q b at d k = home_set about holds h s s.state i p q at d.cell d.hold.waits.goes.subject refl k

pub discard_home : {H : Type 0} (about : H → EnvNo → Limits → Type 0) (holds : H → Spot → Type 0) (h : H) (s : Environment) (i : ℕ) (p q : DeskState) (b : Bool) → slice_get s.desks i ≡ Some p → Discards p q b
    → IsAtHome about holds h s → IsAtHome about holds h (record { env = s.env; state = s.state; desks = slice_set s.desks i q })
discard_home about holds h s i p q b at d k = discarded_of about holds h s i p.cancelled p q b at d k

-- one try of that
pub tried_discard_home : {H : Type 0} (about : H → EnvNo → Limits → Type 0) (holds : H → Spot → Type 0) (h : H) (s : Environment) (i : ℕ) (p q : DeskState) (r : Result (Option Discarded) TiError) → slice_get s.desks i ≡ Some p → IfOk r (λ d. Discards p q (is_some d)) → IfErr r (λ e. (e ≡ Busy) × (q ≡ p))
    → IsAtHome about holds h s → IsAtHome about holds h (record { env = s.env; state = s.state; desks = slice_set s.desks i q })
tried_discard_home about holds h s i p q (Ok r) at d busy k = discard_home about holds h s i p q (is_some r) at d k
tried_discard_home about holds h s i p q (Err e) at d busy k = same_desk about holds h s i p q at busy.1 k

-- or of a look for an answer
pub tried_look_home : {H A : Type 0} (about : H → EnvNo → Limits → Type 0) (holds : H → Spot → Type 0) (h : H) (s : Environment) (i : ℕ) (p q : DeskState) (r : Result A TiError) (posted : A → List Ticket) → slice_get s.desks i ≡ Some p → IsSame p q → IfOk r (λ o. HoldsWith p.view q.view [] (posted o)) → IfErr r (λ e. (e ≡ Busy) × (q ≡ p))
    → IsAtHome about holds h s → IsAtHome about holds h (record { env = s.env; state = s.state; desks = slice_set s.desks i q })
tried_look_home about holds h s i p q (Ok o) posted at same hold busy k = home_set about holds h s s.state i p q at same.cell hold.waits.goes.subject refl k
tried_look_home about holds h s i p q (Err e) posted at same hold busy k = same_desk about holds h s i p q at busy.1 k

pub in_time_cell : (c : Call) (p q : DeskState) (r : Option Answer) → IsInTime p q c r → q.cell ≡ p.cell
in_time_cell c p q (Some a) t = t.0.cell
in_time_cell c p q None t = t.cell
