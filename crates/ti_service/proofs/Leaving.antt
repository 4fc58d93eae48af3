-- An agent that clears its desks.
use Rattle.std.proofs.Common.{◌≡◌, ℕ, zero, suc, ◌+◌, ◌⊎◌, ◌<◌, ◌≤◌, inl, inr, Bool, false, List, [], ◌∷◌, ◌++◌, length, refl, ap, sym, ◌∙◌, arith, subst, append_assoc, length-set, Option, Some, None}
use Rattle.std.specs.Prelude.{All, IfNone, IfSome, is_some, slice_get}
use Rattle.std.proofs.lemmas.Bool.{cases_eq}
use Rattle.std.proofs.lemmas.List.Edits.{length-remove}
use Rattle.std.proofs.lemmas.List.Elements.{All-push}
use Rattle.atomic_table.specs.Seated.{TableId}
use Rattle.ti_types.specs.declared.error.TiError.{TiError}
use Rattle.ti_types.specs.declared.error.TiError.TheVariants.{Busy, Full}
use Rattle.ti_types.specs.declared.numbers.EnvNo.{EnvNo}
use Rattle.ti_types.specs.declared.numbers.ThreadNo.{ThreadNo}
use Rattle.ti_handshake.specs.Desk.{DeskState}
use Rattle.ti_agent.specs.Desks.{IsCleared, IsTaken, Retires}
use Rattle.ti_agent.specs.Env.{Environment, outstanding, place_in, thread_at}
use Rattle.ti_agent.specs.FreeDesk.{FreeState}
use Rattle.ti_agent.specs.Quiesced.{MayQuiesce}
use Rattle.ti_agent.proofs.AtHome.{all_less, one_there, same_spot, spots_less, spots_set}
use Rattle.ti_agent.proofs.Places.{first_place, later_place}
use Rattle.ti_roster.specs.Log.{is_live}
use Rattle.ti_roster.specs.Roster.{IsOwn, most_items}
use Rattle.ti_roster.specs.Rows.{IsAt}
use Rattle.ti_service.specs.Agent.{AgentState}
use Rattle.ti_agent.specs.Spots.{Spot, spots_of}
use Rattle.ti_service.specs.Homes.{AreOurs, HasCome}
use Rattle.ti_service.specs.Leaving.{Clears, ClearsEach, Quiets, QuiescesEach, StaysOn, NotCleared, NotLeft}
use Rattle.ti_service.specs.LettingGo.{LetsGo, LetsGoBelow, CallsOut, StillThere, NoDesk, Gone}
use Rattle.ti_service.specs.Service.{Looks, Member}
use Rattle.ti_service.proofs.Homes.{agent_of, agent_with}

-- the place of a desk's thread is not behind the desk
pub place_before : (l : List DeskState) (i : ℕ) → i < length l → place_in l (thread_at l i) ≤ i
place_before [] i h = absurd (omega (arith, h))
place_before (x ∷ l) zero h = let e = first_place x l x.view.subject.thread refl in omega (arith, e)
place_before (x ∷ l) (suc i) h =
    elim (cases_eq x.view.subject.thread.0 (thread_at l i).0) [
      | inl same ↦ let e = first_place x l (thread_at l i) same in omega (arith, e)
      | inr other ↦ let e = later_place x l (thread_at l i) other in let z = place_before l i (omega (arith, h)) in omega (arith, e, z)
    ]

-- a desk that is there is at a place
within : (l : List DeskState) (i : ℕ) (p : DeskState) → slice_get l i ≡ Some p → i < length l
within [] i p at = absurd (nothing at)
  where
    nothing : slice_get [] i ≡ Some p → ⊥
    nothing h = cc
within (x ∷ l) zero p at = omega arith
within (x ∷ l) (suc i) p at = let z = within l i p at in omega (arith, z)

-- threads at which none of the environment's calls is out any more, one after another
quiesces_then : (threads more : List ThreadNo) (a b c : Environment) → QuiescesEach threads a b → QuiescesEach more b c → QuiescesEach (threads ++ more) a c
quiesces_then [] more a b c same k = subst (λ (x : Environment). QuiescesEach more x c) same k
quiesces_then (t ∷ threads) more a b c all k = (all.0, all.1, quiesces_then threads more all.0 b c all.2 k)

pub quiets_then : (a b c : Environment) → Quiets a b → Quiets b c → Quiets a c
quiets_then a b c k m = (k.0 ++ m.0, quiesces_then k.0 m.0 a b c k.1 m.1)

pub quiets_one : (a b : Environment) (t : ThreadNo) → MayQuiesce a b t → Quiets a b
quiets_one a b t k = (t ∷ [], (b, k, refl))

pub quiets_more : (a b c : Environment) (t : ThreadNo) → Quiets a b → MayQuiesce b c t → Quiets a c
quiets_more a b c t k m = quiets_then a b c k (quiets_one b c t m)

-- one desk more was cleared
each_more : (s m n : Environment) (desks : List FreeState) (t : ThreadNo) (f : FreeState) → ClearsEach s m desks → Retires m n t f → ClearsEach s n (desks ++ f ∷ [])
each_more s m n [] t f quiets k = (k.0, quiets_more s m k.0 t quiets k.1, t, n, k.2, ([], refl))
each_more s m n (g ∷ desks) t f all k = (all.0, all.1, all.2, all.3, all.4, each_more all.3 m n desks t f all.5 k)

pub clears_more : (old at new : AgentState) (t : ThreadNo) (f : FreeState) → Clears old at → Retires at.env new.env t f → new.waiting ≡ at.waiting ++ f ∷ [] → Clears old new
clears_more old at new t f c k waits = record {
  cleared = c.cleared ++ f ∷ [];
  each = each_more old.env at.env new.env c.cleared t f c.each k;
  waiting = waits ∙ (ap (λ (l : List FreeState). l ++ f ∷ []) c.waiting ∙ append_assoc old.waiting c.cleared (f ∷ []));
}

-- and one that is not cleared yet
each_quiet : (s m n : Environment) (desks : List FreeState) (t : ThreadNo) → ClearsEach s m desks → MayQuiesce m n t → ClearsEach s n desks
each_quiet s m n [] t quiets k = quiets_more s m n t quiets k
each_quiet s m n (g ∷ desks) t all k = (all.0, all.1, all.2, all.3, all.4, each_quiet all.3 m n desks t all.5 k)

pub clears_quiet : (old at new : AgentState) (t : ThreadNo) → Clears old at → MayQuiesce at.env new.env t → new.waiting ≡ at.waiting → Clears old new
clears_quiet old at new t c k waits = record { cleared = c.cleared; each = each_quiet old.env at.env new.env c.cleared t c.each k; waiting = waits ∙ c.waiting }

-- first none of its calls was out
each_first : (a b c : Environment) (desks : List FreeState) → Quiets a b → ClearsEach b c desks → ClearsEach a c desks
each_first a b c [] k quiets = quiets_then a b c k quiets
each_first a b c (f ∷ desks) k all = (all.0, quiets_then a b all.0 k all.1, all.2, all.3, all.4, all.5)

pub clears_first : (old at new : AgentState) → Quiets old.env at.env → at.waiting ≡ old.waiting → Clears at new → Clears old new
clears_first old at new k waits c = record { cleared = c.cleared; each = each_first old.env at.env new.env c.cleared k c.each; waiting = c.waiting ∙ ap (λ (l : List FreeState). l ++ c.cleared) waits }

-- its desks are cleared, and it does not leave
pub not_left : (old cleared new : AgentState) (e : TiError) → Clears old cleared → cleared.service ≡ old.service → new.env ≡ cleared.env → new.waiting ≡ cleared.waiting → new.service.cell ≡ cleared.service.cell
    → (((e ≡ Full) × (most_items ≤ length new.service.view.seen + length cleared.waiting)) × Looks cleared.service.view new.service.view) ⊎ ((e ≡ Busy) × (new.service ≡ cleared.service)) → StaysOn old new e
not_left old cleared new e k service env waits cell why = by why
  where
    clears : Clears old new
    clears = record { cleared = k.cleared; each = subst (λ (x : Environment). ClearsEach old.env x k.cleared) (sym env) k.each; waiting = waits ∙ k.waiting }

    by : (((e ≡ Full) × (most_items ≤ length new.service.view.seen + length cleared.waiting)) × Looks cleared.service.view new.service.view) ⊎ ((e ≡ Busy) × (new.service ≡ cleared.service)) → StaysOn old new e
    by (inl full) =
        NotLeft full.0.0 (subst (λ (l : List FreeState). most_items ≤ length new.service.view.seen + length l) (sym waits) full.0.1) (cell ∙ ap (λ (m : Member). m.cell) service)
        (subst (λ (m : Member). Looks m.view new.service.view) service full.1) clears
    by (inr busy) = NotCleared (inr busy.0) (busy.1 ∙ service) clears

-- it keeps its home
pub ours_quiet : (service : Member) (env new : Environment) (waiting : List FreeState) (t : ThreadNo) → MayQuiesce env new t → AreOurs (agent_of service env waiting) → AreOurs (agent_of service new waiting)
ours_quiet service env new waiting t (inl same) o = subst (λ (x : Environment). AreOurs (agent_of service x waiting)) (sym same) o
ours_quiet service env new waiting t (inr k) o = record {
  place = o.place ∙ ap (λ (e : EnvNo). Some e) (sym same);
  there = subst (λ (e : EnvNo). e.0 < service.view.limits.envs) (sym same) o.there;
  limits = ap (λ (s : Environment). s.state.limits) k.new_is ∙ o.limits;
  homes = subst (λ (l : List Spot). All (HasCome service.view.seen) l)
      (sym (ap (λ (s : Environment). spots_of s.desks) k.new_is ∙ spots_set env.desks (place_in env.desks t) k.before k.after k.there (same_spot k.before k.after k.cell k.goes.subject))) o.homes;
  waiting = subst (λ (e : EnvNo). All (IsOwn service.view.seen service.view.limits e) waiting) (sym same) o.waiting;
}
  where
    same : new.env ≡ env.env
    same = ap (λ (s : Environment). s.env) k.new_is

-- a desk leaves its home
ours_cleared : (service : Member) (env new : Environment) (waiting now : List FreeState) (t : ThreadNo) (f : FreeState) → IsCleared env new t f → now ≡ waiting ++ f ∷ [] → AreOurs (agent_of service env waiting) → AreOurs (agent_of service new now)
ours_cleared service env new waiting now t f k is o = record {
  place = o.place ∙ ap (λ (e : EnvNo). Some e) (sym same);
  there = subst (λ (e : EnvNo). e.0 < service.view.limits.envs) (sym same) o.there;
  limits = ap (λ (s : Environment). s.state.limits) k.new_is ∙ o.limits;
  homes = subst (λ (l : List DeskState). All (HasCome service.view.seen) (spots_of l)) (sym (ap (λ (s : Environment). s.desks) k.new_is))
      (subst (λ (l : List Spot). All (HasCome service.view.seen) l) (sym (spots_less env.desks (place_in env.desks t))) (all_less (HasCome service.view.seen) (spots_of env.desks) (place_in env.desks t) o.homes));
  waiting = subst (λ (x : EnvNo × List FreeState). All (IsOwn service.view.seen service.view.limits x.0) x.1) (λ j. (sym same j, sym is j)) (All-push (IsOwn service.view.seen service.view.limits env.env) waiting f o.waiting own);
}
  where
    same : new.env ≡ env.env
    same = ap (λ (s : Environment). s.env) k.new_is

    home : IsAt k.before.view.subject.thread k.before.cell service.view.seen
    home = one_there (HasCome service.view.seen) env.desks (place_in env.desks t) k.before k.there o.homes

    own : IsOwn service.view.seen service.view.limits env.env f
    own = record {
      at = subst (λ (x : ThreadNo × TableId). IsAt x.0 x.1 service.view.seen) (λ j. ((k.about ∙ sym k.thread) j, sym k.cell j)) home;
      env = k.env;
      limits_are = k.limits ∙ o.limits;
      clean = k.clean;
    }

pub ours_retired : (service : Member) (env new : Environment) (waiting now : List FreeState) (t : ThreadNo) (f : FreeState) → Retires env new t f → now ≡ waiting ++ f ∷ [] → AreOurs (agent_of service env waiting) → AreOurs (agent_of service new now)
ours_retired service env new waiting now t f k is o = ours_cleared service k.0 new waiting now t f k.2 is (ours_quiet service env k.0 waiting t k.1 o)

-- as many desks are there
pub as_many_desks : (env new : Environment) (t : ThreadNo) → MayQuiesce env new t → length new.desks ≡ length env.desks
as_many_desks env new t (inl same) = ap (λ (s : Environment). length s.desks) same
as_many_desks env new t (inr m) = ap (λ (s : Environment). length s.desks) m.new_is ∙ length-set env.desks (place_in env.desks t) m.after

-- one desk less is there
pub fewer_desks : (env new : Environment) (t : ThreadNo) (f : FreeState) → Retires env new t f → length env.desks ≡ suc (length new.desks)
fewer_desks env new t f k =
    let there = within k.0.desks (place_in k.0.desks t) k.2.before k.2.there in
    let less = length-remove k.0.desks (place_in k.0.desks t) there in
    let now = ap (λ (s : Environment). length s.desks) k.2.new_is in
    omega (arith, there, less, now, as_many_desks env k.0 t k.1)

-- so a desk's thread has a place
pub last_there : (l : List DeskState) (i : ℕ) (r : Option ThreadNo) → IfSome r (λ t. t ≡ thread_at l i) → IfSome r (λ t. i < length l) → IfSome r (λ t. place_in l t < length l)
last_there l i None is there = tt
last_there l i (Some t) is there = let z = place_before l i there in let e = ap (place_in l) is in omega (arith, z, e, there)

-- Threads that an agent lets go of

pub goes : (old : AgentState) (service : Member) (env : Environment) (t : ThreadNo) (i : ℕ) (r : Option FreeState) (gone : Bool) → i ≡ place_in old.env.desks t → gone ≡ is_some r → outstanding old.env t ≡ 0 → Looks old.service.view service.view
    → service.cell ≡ old.service.cell → is_live t service.view.seen ≡ false → IfSome r (λ f. (u : ThreadNo) → i ≡ place_in old.env.desks u → IsTaken old.env env u f) → IfNone r (length old.env.desks ≤ i) → IfNone r (env ≡ old.env)
    → LetsGo old (agent_with service env old.waiting old.events old.unmet) t gone
goes old service env t i None gone place is none looks cell live taken nobody same = NoDesk is looks (cell, same, refl, refl, refl) (subst (λ (j : ℕ). length old.env.desks ≤ j) place nobody)
goes old service env t i (Some f) gone place is none looks cell live taken nobody same = Gone is none looks cell refl refl refl live f (taken t place)

-- at most one desk leaves
pub one_goes : (old new : AgentState) (t : ThreadNo) (gone : Bool) → LetsGo old new t gone → length old.env.desks ≤ suc (length new.env.desks)
one_goes old new t gone (CallsOut off out same) = let e = ap (λ (a : AgentState). length a.env.desks) same in omega (arith, e)
one_goes old new t gone (StillThere off looks same live) = let e = ap (λ (s : Environment). length s.desks) same.1 in omega (arith, e)
one_goes old new t gone (NoDesk off looks same nobody) = let e = ap (λ (s : Environment). length s.desks) same.1 in omega (arith, e)
one_goes old new t gone (Gone is none looks cell waits kept still live f k) =
    let e = ap (λ (s : Environment). length s.desks) k.new_is in
    let h = within old.env.desks (place_in old.env.desks t) f.desk k.there in
    let l = length-remove old.env.desks (place_in old.env.desks t) h in
    omega (arith, e, l)

-- one index less
pub goes_on : (n index : ℕ) (at mid : AgentState) (t : ThreadNo) (gone : Bool) → index ≡ suc n → t ≡ thread_at at.env.desks n → LetsGo at mid t gone → (new : AgentState) → LetsGoBelow n mid new → LetsGoBelow index at new
goes_on n index at mid t gone is thread k new below = subst (λ (i : ℕ). LetsGoBelow i at new) (sym is) (mid, gone, subst (λ (x : ThreadNo). LetsGo at mid x gone) thread k, below)
