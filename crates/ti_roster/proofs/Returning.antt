-- Desks that go back into the rows of their threads.
use Rattle.std.proofs.Common.{◌≡◌, ℕ, ◌+◌, ◌<◌, ◌==◌, ◌≢◌, ne_eqb, Bool, true, false, if◌then◌else◌, inl, inr, List, [], ◌∷◌, ◌++◌, length, length-append, Option, Some, None, refl, sym, ap, ◌∙◌, subst, arith, true≢false, append-nil, append_assoc}
use Rattle.std.specs.Prelude.{All, slice_get, slice_index_or}
use Rattle.std.specs.List.{fold}
use Rattle.std.proofs.lemmas.Bool.{cases_Bool}
use Rattle.std.proofs.lemmas.List.Elements.{All-cons, All-nil, All-head, All-tail}
use Rattle.ti_types.specs.declared.limits.Limits.{Limits}
use Rattle.ti_types.specs.declared.numbers.EnvNo.{EnvNo}
use Rattle.ti_types.specs.declared.numbers.ThreadNo.{ThreadNo}
use Rattle.ti_agent.specs.FreeDesk.{FreeState}
use Rattle.ti_roster.specs.declared.coming.Coming.{Coming}
use Rattle.ti_roster.specs.declared.coming.Coming.TheVariants.{GaveBack}
use Rattle.ti_roster.specs.declared.newcomer.Newcomer.{Newcomer}
use Rattle.ti_roster.specs.declared.row.Row.{Row}
use Rattle.ti_roster.specs.Log.{Lies, Unused, Out, Returned, Log, came, is_live, lies, live, with_item}
use Rattle.ti_roster.specs.Roster.{MayGoBack, and_back, is_missed, is_out}
use Rattle.ti_roster.specs.Rows.{AreRows, IsIndex, IsReturned, IsRow, LiesAs, new_desk}
use Rattle.ti_roster.proofs.Logs.{came_more}
use Rattle.ti_roster.proofs.Moving.{AllOwn}
use Rattle.ti_roster.proofs.Places.{get_map, get_within, is_same, read_at}
use Rattle.ti_roster.proofs.Rows.{rows_count, there_live}

-- a row misses the desk of a place just if the desk is out
pub missing_out : (l : Lies) (limits : Limits) (e : EnvNo) (n : Newcomer) (d : Option FreeState) → LiesAs l limits e n d → d ≡ None → is_out l ≡ true
missing_out Unused limits e n d is none = absurd (never d (new_desk limits e n) is none)
  where
    never : (d : Option FreeState) (f : FreeState) → d ≡ Some f → d ≡ None → ⊥
    never d f a b = cc
missing_out Out limits e n d is none = refl
missing_out Returned limits e n None is none = absurd is
missing_out Returned limits e n (Some f) is none = refl' none
  where
    refl' : Some f ≡ None → is_out Returned ≡ true
    refl' h = cc

there_in : (l : Lies) (limits : Limits) (e : EnvNo) (n : Newcomer) (d : Option FreeState) → LiesAs l limits e n d → (d ≡ None → ⊥) → is_out l ≡ false
there_in Unused limits e n d is some' = refl
there_in Out limits e n d is some' = absurd (some' is)
there_in Returned limits e n d is some' = refl

-- whether the row of a thread that is there misses a desk
pub missed_by_row : (r : Log) (row : Row) (f : FreeState) (place : ℕ) (missing : Bool) → place ≡ f.desk.env.0 → IsRow r.items r.limits row → f.desk.env.0 < r.limits.envs → row.newcomer.thread.0 ≡ f.desk.view.subject.thread.0 → is_live f.desk.view.subject.thread r.items ≡ true
    → ((slice_get row.desks.items place ≡ Some None → missing ≡ false) × (missing ≡ false → slice_get row.desks.items place ≡ Some None)) → (missing ≡ false → is_missed r f ≡ true) × (missing ≡ true → is_missed r f ≡ false)
missed_by_row r row f place missing at_env k there same live_is given = (
  λ h. (let none : d.0 ≡ None = is_same d.0 None (sym d.1 ∙ found.1 h) in let o = at (missing_out _ r.limits f.desk.env row.newcomer d.0 d.2 none) in grind (arith, o, live_is)),
  λ h. (let some' : d.0 ≡ None → ⊥ = λ none. true≢false (sym h ∙ found.0 (d.1 ∙ ap (λ (x : Option FreeState). Some x) none)) in let o = off (there_in _ r.limits f.desk.env row.newcomer d.0 d.2 some') in grind (arith, o)),
)
  where
    found : (slice_get row.desks.items f.desk.env.0 ≡ Some None → missing ≡ false) × (missing ≡ false → slice_get row.desks.items f.desk.env.0 ≡ Some None)
    found = subst (λ (p : ℕ). (slice_get row.desks.items p ≡ Some None → missing ≡ false) × (missing ≡ false → slice_get row.desks.items p ≡ Some None)) at_env given

    d : (x : Option FreeState) × (slice_get row.desks.items f.desk.env.0 ≡ Some x) × LiesAs (lies f.desk.env row.newcomer.thread r.items) r.limits f.desk.env row.newcomer x
    d = k.each f.desk.env.0 there

    at : is_out (lies f.desk.env row.newcomer.thread r.items) ≡ true → is_out (lies f.desk.env f.desk.view.subject.thread r.items) ≡ true
    at h = ap (λ (n : ℕ). is_out (lies f.desk.env (record { 0 = n }) r.items)) (sym same) ∙ h

    off : is_out (lies f.desk.env row.newcomer.thread r.items) ≡ false → is_out (lies f.desk.env f.desk.view.subject.thread r.items) ≡ false
    off h = ap (λ (n : ℕ). is_out (lies f.desk.env (record { 0 = n }) r.items)) (sym same) ∙ h

-- the desk is at the cell of the thread whose row it goes into
pub returned : (r : Log) (f : FreeState) (n : Newcomer) → MayGoBack r f → slice_get (came r.items) n.thread.0 ≡ Some n → n.thread.0 ≡ f.desk.view.subject.thread.0 → IsReturned r.limits f.desk.env n f
returned r f n may listed same = record {
  cell = sym may.own.at.2 ∙ ap (λ (x : Newcomer). x.cell) it;
  env = refl;
  subject = λ j. record { limits = may.own.limits_are j; thread = record { 0 = sym same j } };
  clean = may.own.clean;
}
  where
    it : may.own.at.0 ≡ n
    it = is_same may.own.at.0 n (sym may.own.at.1 ∙ (ap (slice_get (came r.items)) (sym same) ∙ listed))

-- the row of a desk's thread, as it is found by the thread's number
pub record Found (r : Log) (rows : List Row) (f : FreeState) (i : ℕ) (row : Row) : Type 0 where
  pub within : i < length rows
  pub here : slice_get rows i ≡ Some row
  pub number : row.newcomer.thread.0 ≡ f.desk.view.subject.thread.0
  pub alive : is_live f.desk.view.subject.thread r.items ≡ true
  pub is_row : IsRow r.items r.limits row
  pub listed : slice_get (came r.items) row.newcomer.thread.0 ≡ Some row.newcomer

pub found_row : (r : Log) (rows : List Row) (marks : List (Option ℕ)) (f : FreeState) (t : ThreadNo) (i : ℕ) (row : Row) → AreRows r.items r.limits rows marks → IsIndex (live r.items) t i → t ≡ f.desk.view.subject.thread → row ≡ slice_index_or rows i row
    → Found r rows f i row
found_row r rows marks f t i row k at about read = record {
  within = within;
  here = here;
  number = number;
  alive = there_live (live r.items) f.desk.view.subject.thread i row.newcomer live_at number;
  is_row = k.each i row here;
  listed = k.listed i row.newcomer live_at;
}
  where
    within : i < length rows
    within = omega (arith, get_within (live r.items) i at.one at.at, rows_count rows (live r.items) k.live_are)

    here : slice_get rows i ≡ Some row
    here = read_at rows i row within read

    live_at : slice_get (live r.items) i ≡ Some row.newcomer
    live_at = ap (λ (l : List Newcomer). slice_get l i) (sym k.live_are) ∙ get_map (λ (x : Row). x.newcomer) rows i row here

    number : row.newcomer.thread.0 ≡ f.desk.view.subject.thread.0
    number = ap (λ (n : Newcomer). n.thread.0) (is_same row.newcomer at.one (sym live_at ∙ at.at)) ∙ at.is ∙ ap (λ (x : ThreadNo). x.0) about

-- what went back changes nothing else
pub back_user : (r : Log) (f : FreeState) → (and_back r f).user ≡ r.user
back_user r f = elim (cases_Bool (is_missed r f)) [
  | inl it ↦ ap (λ (b : Bool). (if b then with_item r (GaveBack f.desk.env f.desk.view.subject.thread) else r).user) it
  | inr other ↦ ap (λ (b : Bool). (if b then with_item r (GaveBack f.desk.env f.desk.view.subject.thread) else r).user) other
]

pub back_limits : (r : Log) (f : FreeState) → (and_back r f).limits ≡ r.limits
back_limits r f = elim (cases_Bool (is_missed r f)) [
  | inl it ↦ ap (λ (b : Bool). (if b then with_item r (GaveBack f.desk.env f.desk.view.subject.thread) else r).limits) it
  | inr other ↦ ap (λ (b : Bool). (if b then with_item r (GaveBack f.desk.env f.desk.view.subject.thread) else r).limits) other
]

-- by at most one coming or going
pub back_length : (r : Log) (f : FreeState) → length (and_back r f).items < length r.items + 2
back_length r f = elim (cases_Bool (is_missed r f)) [
  | inl it ↦ (let e = ap (λ (b : Bool). length (if b then with_item r (GaveBack f.desk.env f.desk.view.subject.thread) else r).items) it in let l = length-append r.items (GaveBack f.desk.env f.desk.view.subject.thread ∷ []) in omega (arith, e, l))
  | inr other ↦ (let e = ap (λ (b : Bool). length (if b then with_item r (GaveBack f.desk.env f.desk.view.subject.thread) else r).items) other in omega (arith, e))
]

back_came : (r : Log) (f : FreeState) → came (and_back r f).items ≡ came r.items
back_came r f = elim (cases_Bool (is_missed r f)) [
  | inl it ↦ ap (λ (b : Bool). came (if b then with_item r (GaveBack f.desk.env f.desk.view.subject.thread) else r).items) it ∙ came_more r.items (GaveBack f.desk.env f.desk.view.subject.thread)
  | inr other ↦ ap (λ (b : Bool). came (if b then with_item r (GaveBack f.desk.env f.desk.view.subject.thread) else r).items) other
]

-- the others may still go back
pub may_still : (r : Log) (f g : FreeState) → MayGoBack r g → MayGoBack (and_back r f) g
may_still r f g may = record {
  served = back_user r f ∙ may.served;
  own = record {
    at = (may.own.at.0, ap (λ (l : List Newcomer). slice_get l g.desk.view.subject.thread.0) (back_came r f) ∙ may.own.at.1, may.own.at.2);
    env = refl;
    limits_are = may.own.limits_are ∙ sym (back_limits r f);
    clean = may.own.clean;
  };
}

pub all_still : (r : Log) (f : FreeState) (desks : List FreeState) → All (λ g. MayGoBack r g) desks → All (λ g. MayGoBack (and_back r f) g) desks
all_still r f [] all = All-nil (λ g. MayGoBack (and_back r f) g)
all_still r f (g ∷ desks) all =
    All-cons (λ h. MayGoBack (and_back r f) h) g desks (may_still r f g (All-head (λ h. MayGoBack r h) g desks all)) (all_still r f desks (All-tail (λ h. MayGoBack r h) g desks all))

-- all that went back is the environment's own
pub backs_own : (e : EnvNo) (r : Log) (desks : List FreeState) → r.user ≡ Some e → All (λ g. MayGoBack r g) desks → (more : List Coming) × ((fold and_back r desks).items ≡ r.items ++ more) × AllOwn e more
backs_own e r [] user all = ([], sym (append-nil r.items), tt)
backs_own e r (f ∷ desks) user all =
    let rest = backs_own e (and_back r f) desks (back_user r f ∙ user) (all_still r f desks (All-tail (λ g. MayGoBack r g) f desks all)) in
    let may = All-head (λ g. MayGoBack r g) f desks all in
    elim (cases_Bool (is_missed r f)) [
      | inl it ↦
          let one : (and_back r f).items ≡ r.items ++ GaveBack f.desk.env f.desk.view.subject.thread ∷ [] = ap (λ (b : Bool). (if b then with_item r (GaveBack f.desk.env f.desk.view.subject.thread) else r).items) it in (
            GaveBack f.desk.env f.desk.view.subject.thread ∷ rest.0,
            rest.1 ∙ (ap (λ (l : List Coming). l ++ rest.0) one ∙ append_assoc r.items (GaveBack f.desk.env f.desk.view.subject.thread ∷ []) rest.0),
            (own_only may.served, rest.2),
          )
      | inr other ↦
          let none : (and_back r f).items ≡ r.items = ap (λ (b : Bool). (if b then with_item r (GaveBack f.desk.env f.desk.view.subject.thread) else r).items) other in (rest.0, rest.1 ∙ ap (λ (l : List Coming). l ++ rest.0) none, rest.2)
    ]
  where
    own_only : r.user ≡ Some f.desk.env → (g : EnvNo) → Some e ≢ Some g → (f.desk.env.0 == g.0) ≡ false
    own_only served g other = ne_eqb f.desk.env.0 g.0 (λ same. other (sym user ∙ (served ∙ ap (λ (k : ℕ). Some (record { 0 = k })) same)))
