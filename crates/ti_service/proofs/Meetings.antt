-- An agent that adds desks and makes room for them.
use Rattle.std.proofs.Common.{◌≡◌, ◌⊎◌, inl, inr, ℕ, zero, suc, ◌+◌, ◌<◌, Bool, List, [], ◌∷◌, ◌++◌, length, length-append, append_assoc, ap, sym, ◌∙◌, arith, subst}
use Rattle.std.specs.Prelude.{reverse}
use Rattle.std.specs.List.{fold}
use Rattle.std.proofs.lemmas.List.{length-reverse}
use Rattle.std.proofs.lemmas.List.Sums.{fold-append}
use Rattle.ti_types.specs.declared.error.TiError.{TiError}
use Rattle.ti_types.specs.declared.error.TiError.TheVariants.{Busy}
use Rattle.ti_types.specs.declared.numbers.ThreadNo.{ThreadNo}
use Rattle.ti_agent.specs.Desks.{with_desk}
use Rattle.ti_agent.specs.Env.{Environment, thread_at}
use Rattle.ti_agent.specs.FreeDesk.{FreeState}
use Rattle.ti_service.specs.Agent.{AgentState}
use Rattle.ti_service.specs.LettingGo.{LetsGo, LetsGoBelow, LetsGoOfSome, CallsOut, StillThere, NoDesk, Gone}
use Rattle.ti_service.specs.Meeting.{Adds, AddsAll, AddsNot, KeepsNow, StopsAmid, Takes, TakesNone, at_meeting}
use Rattle.ti_service.specs.Meeting.Keeps.{NotAdded, TookNone, TookSome}
use Rattle.ti_service.specs.Meeting.KeepsNow.{Failed, BusyAtFirst, BusyThen, BusyAtLast}

-- one desk more was added
pub adds_one : (old at now : AgentState) (f : FreeState) → Adds old at → reverse at.waiting ≡ f ∷ reverse now.waiting → now.env ≡ with_desk at.env f → now.service ≡ at.service → now.events ≡ at.events → now.unmet ≡ at.unmet → Adds old now
adds_one old at now f m back is service events unmet = record {
  added = m.added ++ f ∷ [];
  all = m.all ∙ (ap (λ l. m.added ++ l) back ∙ sym (append_assoc m.added (f ∷ []) (reverse now.waiting)));
  env = is ∙ (ap (λ (s : Environment). with_desk s f) m.env ∙ sym (fold-append with_desk old.env m.added (f ∷ [])));
  service = service ∙ m.service;
  events = events ∙ m.events;
  unmet = unmet ∙ m.unmet;
}

-- How many desks there are

with_desks : (s : Environment) (added : List FreeState) → length (fold with_desk s added).desks ≡ length s.desks + length added
with_desks s [] = omega arith
with_desks s (f ∷ added) = let e = with_desks (with_desk s f) added in let l = length-append s.desks (f.desk ∷ []) in omega (arith, e, l)

-- to add desks changes nothing of their number
pub adds_as_many : (old new : AgentState) → Adds old new → length new.env.desks + length new.waiting ≡ length old.env.desks + length old.waiting
adds_as_many old new k =
    let e = ap (λ (s : Environment). length s.desks) k.env in
    let w = ap (λ (l : List FreeState). length l) k.all in
    omega (arith, e, w, with_desks old.env k.added, length-append k.added (reverse new.waiting), length-reverse old.waiting, length-reverse new.waiting)

-- to let go leaves those that wait
waits_goes : (old new : AgentState) (t : ThreadNo) (gone : Bool) → LetsGo old new t gone → new.waiting ≡ old.waiting
waits_goes old new t gone (CallsOut off out same) = ap (λ (a : AgentState). a.waiting) same
waits_goes old new t gone (StillThere off looks same live) = same.2
waits_goes old new t gone (NoDesk off looks same nobody) = same.2
waits_goes old new t gone (Gone is none looks cell waits kept still live f k) = waits

pub waits_below : (n : ℕ) (old new : AgentState) → LetsGoBelow n old new → new.waiting ≡ old.waiting
waits_below zero old new k = ap (λ (a : AgentState). a.waiting) k
waits_below (suc n) old new k = waits_below n k.0 new k.3 ∙ waits_goes old k.0 (thread_at old.env.desks n) k.1 k.2

-- a round that let go of one left fewer
pub fewer_left : (old full new : AgentState) → Adds old full → LetsGoBelow (length full.env.desks) full new → length new.env.desks < length full.env.desks → length new.env.desks + length new.waiting < length old.env.desks + length old.waiting
fewer_left old full new k below fewer =
    let w = ap (λ (l : List FreeState). length l) (waits_below (length full.env.desks) full new below) in
    omega (arith, adds_as_many old full k, w, fewer)

-- one thread of some
pub some_more : (at mid new : AgentState) (t : ThreadNo) (gone : Bool) → LetsGo at mid t gone → LetsGoOfSome mid new → LetsGoOfSome at new
some_more at mid new t gone k rest = (t ∷ rest.0, (mid, gone, k, rest.1))

-- Why a meeting that does not wait failed

pub first_kept : (old new : AgentState) (e : TiError) → AddsNot (at_meeting old) new e ⊎ ((e ≡ Busy) × StopsAmid (at_meeting old) new) → KeepsNow old new e
first_kept old new e (inl not) = Failed (NotAdded not)
first_kept old new e (inr busy) = BusyAtFirst busy.0 busy.1

pub took_none : (old first new : AgentState) (e : TiError) → AddsAll (at_meeting old) first → TakesNone first new e ⊎ ((e ≡ Busy) × (new ≡ first)) → KeepsNow old new e
took_none old first new e adds (inl none) = Failed (TookNone first adds none)
took_none old first new e adds (inr busy) = BusyThen busy.0 (subst (λ (a : AgentState). AddsAll (at_meeting old) a) (sym busy.1) adds)

pub last_kept : (old first taken new : AgentState) (next : ℕ) (e : TiError) → AddsAll (at_meeting old) first → Takes first taken next → AddsNot taken new e ⊎ ((e ≡ Busy) × StopsAmid taken new) → KeepsNow old new e
last_kept old first taken new next e adds takes (inl not) = Failed (TookSome first taken next adds takes not)
last_kept old first taken new next e adds takes (inr busy) = BusyAtLast busy.0 first taken next adds takes busy.1
