-- How a desk is emptied by one hold, and then leaves.
use Rattle.std.proofs.Common.{length-set, true, ◌≡◌, ◌≢◌, ℕ, ◌+◌, ◌<◌, ◌≤◌, List, [], ◌∷◌, ◌++◌, length, remove, refl, ap, sym, ◌∙◌, arith, subst, Some, None, Result, Ok, Err}
use Rattle.std.specs.Prelude.{slice_get, slice_set, OnOk}
use Rattle.std.specs.Int.Bits.{and_zero_r, bit_and}
use Rattle.std.proofs.lemmas.Bool.Decides.{nat_tests}
use Rattle.ti_types.specs.declared.call.Call.TheVariants.{SetWord}
use Rattle.ti_types.specs.declared.entry.Entry.{Entry}
use Rattle.ti_types.specs.declared.error.TiError.{TiError}
use Rattle.ti_types.specs.declared.event.Ticket.{Ticket}
use Rattle.ti_types.specs.declared.numbers.ThreadNo.{ThreadNo}
use Rattle.ti_replay.specs.Legal.{calls_spent}
use Rattle.ti_cell.specs.declared.view.Subject.{Subject}
use Rattle.ti_env.specs.Env.{EnvValue, call_refusal, left_at, spent_at, with_known, with_spent, without_place}
use Rattle.ti_handshake.specs.Call.{Holds, next_call}
use Rattle.ti_handshake.specs.Desk.{CancelsAll, DeskState, is_out}
use Rattle.ti_agent.specs.Desks.{IsCleared, IsTaken}
use Rattle.ti_agent.specs.Emptied.{IsEmptied}
use Rattle.ti_agent.specs.Env.{Environment, IsDesk, may_change, out_of, outstanding, place_in, place_of}
use Rattle.ti_agent.specs.FreeDesk.{FreeState, clearing, has_left, word_asked, left}
use Rattle.ti_agent.proofs.Clearing.{cleared_word, remove_set}
use Rattle.ti_agent.proofs.Places.{about_at, place_set}
use Rattle.ti_agent.proofs.Whole.{after_call, seen_call, set_same}
use Rattle.ti_vmop.proofs.Each.{set_here}

-- a call was left, and set the word to 0
pub emptied : (s : Environment) (t place : ThreadNo) (p q : DeskState) (state : EnvValue) → IsDesk s place.0 p → place ≡ place_of s.desks t → slice_get s.desks place.0 ≡ Some p → place.0 < length s.state.spent
    → spent_at s.state place < s.state.limits.calls → (q.cell ≡ p.cell) × (q.env ≡ p.env) → Holds p.view q.view (next_call p.view p.env (SetWord 0) ∷ []) → CancelsAll p q → state ≡ with_spent s.state place
    → IsEmptied s (after_call s place state q) t
emptied s t place p q state desk found at inside less here hold all spend = record {
  before = p;
  after = q;
  there = ap (λ (y : ThreadNo). slice_get s.desks y.0) (sym found) ∙ at;
  cell = here.0;
  env = here.1 ∙ desk.env_is;
  limits = ap (λ (y : Subject). y.limits) hold.waits.goes.subject ∙ desk.about;
  subject = hold.waits.goes.subject;
  mine = hold.waits.mine ∙ ap (λ (l : List Entry). p.view.mine ++ l) (sym one);
  cancelled = all;
  posted = hold.waits.posted;
  spent = (let e = ap (λ (l : List Entry). length l) one in omega (arith, e, more));
  others = ap (λ (z : EnvValue). without_place z x) spend_x ∙ (λ j. record s.state { spent = remove_set s.state.spent x.0 (spent_at s.state x + 1) j });
  no_word = λ left. (λ j. word_asked (here.1 j) (hold.waits.mine j)) ∙ cleared_word p.env p.view.mine _;
  new_is = λ j. record { env = s.env; state = state; desks = slice_set s.desks (found j).0 q };
}
  where
    x : ThreadNo
    x = place_of s.desks t

    spend_x : state ≡ with_spent s.state x
    spend_x = spend ∙ ap (with_spent s.state) found

    here_x : x.0 < length s.state.spent
    here_x = subst (λ (y : ThreadNo). y.0 < length s.state.spent) found inside

    less_x : spent_at s.state x < p.view.subject.limits.calls
    less_x = (let l = subst (λ (y : ThreadNo). spent_at s.state y < s.state.limits.calls) found less in let e = ap (λ y. y.calls) desk.about in omega (arith, l, e))

    one : clearing (record { desk = p; spent = spent_at s.state x }) ≡ next_call p.view p.env (SetWord 0) ∷ []
    one = grind (arith, nat_tests, less_x)

    more : spent_at state x ≡ spent_at s.state x + 1
    more = ap (λ (z : EnvValue). spent_at z x) spend_x ∙ set_same s.state.spent x.0 (spent_at s.state x + 1) here_x

-- no call was left
pub given_up : (s : Environment) (t place : ThreadNo) (p q : DeskState) (r : Result (Unit {0}) TiError) → IsDesk s place.0 p → place ≡ place_of s.desks t → slice_get s.desks place.0 ≡ Some p
    → s.state.limits.calls ≤ spent_at s.state place → (q.cell ≡ p.cell) × (q.env ≡ p.env) → OnOk r (Holds p.view q.view []) → OnOk r (CancelsAll p q) → OnOk r (IsEmptied s (seen_call s place.0 q) t)
given_up s t place p q (Err e) desk found at none here hold all = tt
given_up s t place p q (Ok u) desk found at none here hold all = record {
  before = p;
  after = q;
  there = ap (λ (y : ThreadNo). slice_get s.desks y.0) (sym found) ∙ at;
  cell = here.0;
  env = here.1 ∙ desk.env_is;
  limits = limits;
  subject = hold.waits.goes.subject;
  mine = hold.waits.mine ∙ ap (λ (l : List Entry). p.view.mine ++ l) (sym nothing);
  cancelled = all;
  posted = hold.waits.posted;
  spent = (let e = ap (λ (l : List Entry). length l) nothing in omega (arith, e));
  others = refl;
  no_word = λ left. (let e = ap (λ y. y.calls) limits in absurd (grind (arith, nat_tests, left, e, none_x)));
  new_is = λ j. record { env = s.env; state = s.state; desks = slice_set s.desks (found j).0 q };
}
  where
    x : ThreadNo
    x = place_of s.desks t

    limits : q.view.subject.limits ≡ s.state.limits
    limits = ap (λ (y : Subject). y.limits) hold.waits.goes.subject ∙ desk.about

    none_x : s.state.limits.calls ≤ spent_at s.state x
    none_x = subst (λ (y : ThreadNo). s.state.limits.calls ≤ spent_at s.state y) found none

    nothing : clearing (record { desk = p; spent = spent_at s.state x }) ≡ []
    nothing = (let e = ap (λ y. y.calls) desk.about in grind (arith, nat_tests, none_x, e))

-- the desk is where it was
still_there : (s mid : Environment) (t : ThreadNo) → IsEmptied s mid t → place_in mid.desks t ≡ place_in s.desks t
still_there s mid t e = ap (λ (x : Environment). place_in x.desks t) e.new_is ∙ place_set s.desks (place_in s.desks t) e.before e.after t e.there e.subject

pub emptied_there : (s mid : Environment) (t : ThreadNo) → IsEmptied s mid t → place_in s.desks t < length s.desks → place_in mid.desks t < length mid.desks
emptied_there s mid t e here =
    let still = still_there s mid t e in
    let long : length mid.desks ≡ length s.desks = ap (λ (x : Environment). length x.desks) e.new_is ∙ length-set s.desks (place_in s.desks t) e.after in
    omega (arith, still, long, here)

-- nothing is out at a thread
pub none_posted : (s : Environment) (t : ThreadNo) (p : DeskState) → slice_get s.desks (place_in s.desks t) ≡ Some p → outstanding s t ≡ 0 → p.view.posted ≡ []
none_posted s t p at none = empty p.view.posted (ap out_of (sym at) ∙ none)
  where
    empty : (l : List Ticket) → length l ≡ 0 → l ≡ []
    empty [] e = refl
    empty (x ∷ l) e = absurd (omega (arith, e))

-- and then it leaves
pub cleared_then : (s mid new : Environment) (t : ThreadNo) (f : FreeState) → (may_change s.state.had ≡ true → outstanding s t ≡ 0) → IsEmptied s mid t → IsTaken mid new t f → IsCleared s new t (left f)
cleared_then s mid new t f quiet e k = record {
  before = e.before;
  there = e.there;
  about = about_at s.desks t e.before e.there;
  cell = ap (λ (x : DeskState). x.cell) (sym it) ∙ e.cell;
  env = ap (λ (x : DeskState). x.env) (sym it) ∙ e.env;
  limits = ap (λ (x : DeskState). x.view.subject.limits) (sym it) ∙ e.limits;
  thread = k.about;
  mine = ap (λ (x : DeskState). x.view.mine) (sym it) ∙ e.mine;
  spent = spent ∙ e.spent;
  clean = record {
    former = refl;
    none_out = λ u. ap (λ (x : DeskState). is_out x u) (sym it) ∙ e.cancelled.none_out u;
    no_word = λ left. ap (λ (x : DeskState). word_asked x.env x.view.mine) (sym it) ∙ e.no_word ((λ j. has_left (record { desk = it j; spent = sym spent j })) ∙ left);
  };
  quiet = λ may. ap (λ (x : DeskState). x.view.posted) (sym it) ∙ e.posted ∙ none_posted s t e.before e.there (quiet may);
  gone = k.gone;
  new_is = k.new_is ∙ (λ j. record { env = env j; state = with_known (state j) (t.0 + 1); desks = less j });
}
  where
    i : ℕ
    i = place_in s.desks t

    still : place_in mid.desks t ≡ i
    still = still_there s mid t e

    desks : mid.desks ≡ slice_set s.desks i e.after
    desks = ap (λ (x : Environment). x.desks) e.new_is

    it : e.after ≡ f.desk
    it = set_here s.desks i e.after f.desk (subst (λ (z : List DeskState × ℕ). slice_get z.0 z.1 ≡ Some f.desk) (λ j. (desks j, still j)) k.there)

    spent : f.spent ≡ spent_at mid.state (place_of s.desks t)
    spent = k.spent ∙ ap (λ (n : ℕ). spent_at mid.state (record { 0 = n })) still

    state : without_place mid.state (place_of mid.desks t) ≡ without_place s.state (place_of s.desks t)
    state = ap (λ (n : ℕ). without_place mid.state (record { 0 = n })) still ∙ e.others

    less : remove mid.desks (place_in mid.desks t) ≡ remove s.desks i
    less = (λ j. remove (desks j) (still j)) ∙ remove_set s.desks i e.after

    env : mid.env ≡ s.env
    env = ap (λ (x : Environment). x.env) e.new_is

-- whether a call is left at a thread
pub no_call : (s : EnvValue) (place : ThreadNo) (n : ℕ) → n ≡ left_at s place → n ≡ 0 → place.0 < length s.spent → s.limits.calls ≤ spent_at s place
no_call s place n is none here = grind (arith, nat_tests, is, none, here)

pub has_call : (s : EnvValue) (place : ThreadNo) (n : ℕ) → n ≡ left_at s place → n ≢ 0 → place.0 < length s.spent → spent_at s place < s.limits.calls
has_call s place n is some here = grind (arith, nat_tests, is, some, here)

-- then the word may be set
pub may_set : (s : Environment) (place : ThreadNo) (p : DeskState) → IsDesk s place.0 p → spent_at s.state place < s.state.limits.calls → calls_spent p.env p.view.mine < p.view.subject.limits.calls
may_set s place p desk less = (let e = ap (λ y. y.calls) desk.about in omega (arith, desk.paid, less, e))

pub word_reaches : (s : EnvValue) (place : ThreadNo) → place.0 < length s.spent → spent_at s place < s.limits.calls → call_refusal s place (SetWord 0) ≡ None
word_reaches s place here less = (let any : bit_and s.caps.bits 0 ≡ 0 = and_zero_r s.caps.bits in grind (arith, nat_tests, any, here, less))
