-- Threads of a service that start and end.
use Rattle.std.proofs.Common.{◌≡◌, ◌⊎◌, inl, inr, ℕ, suc, List, [], ◌∷◌, ◌++◌, length, refl, sym, ap, ◌∙◌, subst, Result, Ok, Err}
use Rattle.std.specs.Prelude.{IfOk, OnOk, ◌+◌, true, false}
use Rattle.ti_types.specs.declared.error.TiError.{TiError}
use Rattle.ti_types.specs.declared.error.TiError.TheVariants.{Barred, Busy}
use Rattle.ti_types.specs.declared.numbers.ThreadNo.{ThreadNo}
use Rattle.ti_types.specs.declared.entry.Entry.TheVariants as entry
use Rattle.ti_cell.specs.Seats.{Sitting}
use Rattle.ti_handshake.specs.Tries.{StaysBarred}
use Rattle.ti_handshake.specs.Thread.{Runner}
use Rattle.ti_roster.specs.declared.coming.Coming.{Coming}
use Rattle.ti_roster.specs.declared.coming.Coming.TheVariants.{Started, Ended}
use Rattle.ti_roster.specs.declared.view.RosterView.{RosterView}
use Rattle.ti_roster.specs.Log.{Log, is_live, with_items}
use Rattle.ti_roster.specs.Roster.{IsListed}
use Rattle.ti_roster.specs.Rule.{Begins, Claims}
use Rattle.ti_roster.specs.Starting.{HasEnded, HasStarted, InUse, IsBarred, NotHere, RefusesStart, leaving, number_of}
use Rattle.ti_roster.specs.View.{AreWithin, holding, stored}
use Rattle.ti_service.specs.Service.{Holds, Looks, Member, roster_of}
use Rattle.ti_service.specs.Starting.{Detaches, DoesNotEnd, DoesNotStart, EndsThread, LooksTimes, StartsThread, StaysTimes}

-- one hold, in which these were noted
held_items : (v h n : RosterView) (r r' : Log) (more : List Coming) → r.user ≡ v.place → Begins r.items v.seen → Claims r.items v.place v.seen → AreWithin (length r.items) v.looked → h ≡ holding v r.items → n ≡ stored h r' → r' ≡ with_items r more → Holds v n r.items more
held_items v h n r r' more placed b c l held put is = record {
  begins = b;
  claims = c;
  looked = l;
  new_is = put ∙ ((λ j. stored (held j) (is j)) ∙ ap (λ p. record { limits = v.limits; seen = r.items ++ more; found = r.items; looked = v.looked; taken = v.taken + 1; made = v.made; holds = false; place = p }) placed);
}

listed_in : (r : Log) (v : RosterView) (t : ThreadNo) → IsListed r t → IsListed (roster_of v r.items) t
listed_in r v t l = record { who = l.who; index = l.index; at = l.at; came_as = l.came_as }

pub starts_by : {E : Type 0} (v h n : RosterView) (r r' : Log) (f : Sitting) (res : Result Runner E) → r.user ≡ v.place → Begins r.items v.seen → Claims r.items v.place v.seen → AreWithin (length r.items) v.looked → h ≡ holding v r.items → n ≡ stored h r'
    → IfOk res (λ x. HasStarted r r' f x) → IfOk res (λ x. StartsThread v n f x)
starts_by v h n r r' f (Ok x) placed b c l held put s = record {
  found = r.items;
  hold = held_items v h n r r' (Started (number_of f) ∷ []) placed b c l held put s.new_is;
  started = record { there = listed_in r v (number_of f) s.there; was_new = s.was_new; starts = s.starts; new_is = refl };
}
starts_by v h n r r' f (Err e) placed b c l held put s = s

pub ends_by : {E : Type 0} (v h n : RosterView) (r r' : Log) (f : Runner) (res : Result Sitting E) → r.user ≡ v.place → Begins r.items v.seen → Claims r.items v.place v.seen → AreWithin (length r.items) v.looked → h ≡ holding v r.items → n ≡ stored h r'
    → IfOk res (λ x. HasEnded r r' f x) → IfOk res (λ x. EndsThread v n f x)
ends_by v h n r r' f (Ok x) placed b c l held put s = record {
  found = r.items;
  hold = held_items v h n r r' (Ended f.view.subject.thread ∷ []) placed b c l held put s.new_is;
  ended = record { there = listed_in r v f.view.subject.thread s.there; was_alive = s.was_alive; cell = s.cell; hold = s.hold; new_is = refl };
}
ends_by v h n r r' f (Err e) placed b c l held put s = s

pub detaches_by : {V E : Type 0} (v h n : RosterView) (r r' : Log) (t : ThreadNo) (res : Result V E) → r.user ≡ v.place → Begins r.items v.seen → Claims r.items v.place v.seen → AreWithin (length r.items) v.looked → h ≡ holding v r.items → n ≡ stored h r'
    → OnOk res (is_live t r.items ≡ true) → OnOk res (IsListed r t) → OnOk res (r' ≡ with_items r (leaving t r.items)) → OnOk res (Detaches v n t)
detaches_by v h n r r' t (Ok x) placed b c l held put there who left = record {
  found = r.items;
  hold = held_items v h n r r' (leaving t r.items) placed b c l held put left;
  there = there;
  listed = listed_in r v t who;
}
detaches_by v h n r r' t (Err e) placed b c l held put there who left = tt

-- Loops: holds that added nothing

abbrev pub Looked : RosterView → RosterView → Type 0
Looked a b = (n : ℕ) × LooksTimes n a b

abbrev pub Stayed : Sitting → Sitting → Type 0
Stayed f g = (k : ℕ) × StaysTimes k f g

looked_more : (a b d : RosterView) → Looked a b → Looks b d → Looked a d
looked_more a b d p l = (suc p.0, (b, p.1, l))

not_barred : Busy ≡ Barred → ⊥
not_barred h = cc

not_busy : Barred ≡ Busy → ⊥
not_busy h = cc

-- the roster or the cell was in use: the thread is as it was
busy_same : (r : Log) (f g : Sitting) (e : TiError) → e ≡ Busy → RefusesStart r f g e → g ≡ f
busy_same r f g e is (NotHere why limit back) = back
busy_same r f g e is (InUse may busy back) = back
busy_same r f g e is (IsBarred may cell stays) = absurd (not_barred (sym is ∙ stays.error_is))

pub record Goes (a : RosterView) (f0 : Sitting) (new : RosterView) (g : Sitting) : Type 0 where
  pub looked : Looked a new
  pub cell : g.cell ≡ f0.cell
  pub stayed : Stayed f0 g

pub goes_busy : (old new : Member) (a : RosterView) (f0 f g : Sitting) (e : TiError) → e ≡ Busy → Looked a old.view → f.cell ≡ f0.cell → Stayed f0 f → DoesNotStart old.view new.view f g e ⊎ ((◌≡◌ {A = TiError × Sitting} (e, g) (Busy, f)) × (new ≡ old)) → Goes a f0 new.view g
goes_busy old new a f0 f g e is looked cell stayed (inl d) =
    let same : g ≡ f = busy_same _ f g e is d.why in record {
      looked = looked_more a old.view new.view looked d.looks;
      cell = ap (λ (s : Sitting). s.cell) same ∙ cell;
      stayed = subst (λ (s : Sitting). Stayed f0 s) (sym same) stayed;
    }
goes_busy old new a f0 f g e is looked cell stayed (inr u) =
    let same : g ≡ f = ap (λ (x : TiError × Sitting). x.1) u.0 in record {
      looked = subst (λ (m : Member). Looked a m.view) (sym u.1) looked;
      cell = ap (λ (s : Sitting). s.cell) same ∙ cell;
      stayed = subst (λ (s : Sitting). Stayed f0 s) (sym same) stayed;
    }

stay_barred : (r : Log) (f0 f g : Sitting) (e : TiError) → e ≡ Barred → f.cell ≡ f0.cell → Stayed f0 f → RefusesStart r f g e → (g.cell ≡ f0.cell) × Stayed f0 g
stay_barred r f0 f g e is cell stayed (NotHere why limit back) = (ap (λ (s : Sitting). s.cell) back ∙ cell, subst (λ (s : Sitting). Stayed f0 s) (sym back) stayed)
stay_barred r f0 f g e is cell stayed (InUse may busy back) = absurd (not_busy (sym is ∙ busy))
stay_barred r f0 f g e is cell stayed (IsBarred may same stays) = (same ∙ cell, (suc stayed.0, (f, stayed.1, same, subst (λ (x : TiError). StaysBarred entry.Start f g x) is stays)))

-- the thread was barred
pub goes_barred : (old new : Member) (a : RosterView) (f0 f g : Sitting) (e : TiError) → e ≡ Barred → Looked a old.view → f.cell ≡ f0.cell → Stayed f0 f → DoesNotStart old.view new.view f g e ⊎ ((◌≡◌ {A = TiError × Sitting} (e, g) (Busy, f)) × (new ≡ old)) → Goes a f0 new.view g
goes_barred old new a f0 f g e is looked cell stayed (inl d) =
    let s = stay_barred _ f0 f g e is cell stayed d.why in record { looked = looked_more a old.view new.view looked d.looks; cell = s.0; stayed = s.1 }
goes_barred old new a f0 f g e is looked cell stayed (inr u) = absurd (not_busy (sym is ∙ ap (λ (x : TiError × Sitting). x.0) u.0))

-- a running thread
pub record GoesOn (a new : RosterView) : Type 0 where
  pub looked : Looked a new

pub ends_busy : (old new : Member) (a : RosterView) (t : ThreadNo) (e : TiError) → Looked a old.view → DoesNotEnd old.view new.view t e ⊎ ((e ≡ Busy) × (new ≡ old)) → Looked a new.view
ends_busy old new a t e looked (inl d) = looked_more a old.view new.view looked d.looks
ends_busy old new a t e looked (inr u) = subst (λ (m : Member). Looked a m.view) (sym u.1) looked
