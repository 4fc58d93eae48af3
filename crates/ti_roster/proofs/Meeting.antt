-- An environment that has met all threads finds none of its desks in the rows.
use Rattle.std.proofs.Common.{◌≡◌, ℕ, suc, Bool, true, false, if◌then◌else◌, List, [], ◌∷◌, ◌++◌, Option, Some, None, refl, sym, ap, ◌∙◌, subst, append-nil, eqb-true}
use Rattle.std.specs.Prelude.{slice_get}
use Rattle.ti_types.specs.declared.limits.Limits.{Limits}
use Rattle.ti_types.specs.declared.numbers.EnvNo.{EnvNo}
use Rattle.ti_roster.specs.declared.coming.Coming.{Coming}
use Rattle.ti_roster.specs.declared.coming.Coming.TheVariants.{Met}
use Rattle.ti_roster.specs.declared.newcomer.Newcomer.{Newcomer}
use Rattle.ti_roster.specs.declared.row.Row.{Row}
use Rattle.ti_roster.specs.Log.{Lies, Log, Out, lies, live, mark_of, threads_in, with_item, with_items}
use Rattle.ti_roster.specs.Roster.{has_met_all, is_up_to, meeting}
use Rattle.ti_roster.specs.Rows.{AreLeft, AreRows, LiesAs}
use Rattle.ti_roster.proofs.Rows.{rising_below}

mark_is : (n : ℕ) (m : Option ℕ) → is_up_to n m ≡ true → m ≡ Some n
mark_is n (Some m) h = ap (λ (k : ℕ). Some k) (eqb-true m n h)
mark_is n None h = absurd (never h)
  where
    never : false ≡ true → ⊥
    never h = cc

-- each of the desks is out
all_out : (log : List Coming) (limits : Limits) (rows : List Row) (marks : List (Option ℕ)) (e : EnvNo) → AreRows log limits rows marks → has_met_all e log ≡ true → (i : ℕ) (n : Newcomer) → slice_get (live log) i ≡ Some n → lies e n.thread log ≡ Out
all_out log limits rows marks e k met i n at = k.passed e (threads_in log) n.thread (mark_is (threads_in log) (mark_of e log) met) (rising_below 0 (live log) (threads_in log) i n k.rising at)

none_in : (log : List Coming) (limits : Limits) (e : EnvNo) (l : List Newcomer) → ((i : ℕ) (n : Newcomer) → slice_get l i ≡ Some n → lies e n.thread log ≡ Out) → AreLeft log limits e l []
none_in log limits e [] out = refl
none_in log limits e (n ∷ l) out =
    (None, [], refl, subst (λ (x : Lies). LiesAs x limits e n None) (sym (out 0 n refl)) refl, none_in log limits e l (λ i m at. out (suc i) m at))

pub none_left : (log : List Coming) (limits : Limits) (rows : List Row) (marks : List (Option ℕ)) (e : EnvNo) → AreRows log limits rows marks → has_met_all e log ≡ true → AreLeft log limits e (live log) []
none_left log limits rows marks e k met = none_in log limits e (live log) (all_out log limits rows marks e k met)

-- then nothing is noted
pub notes_nothing : (r : Log) (e : EnvNo) → has_met_all e r.items ≡ true → r ≡ with_items r (meeting e r.items)
notes_nothing r e met =
    ap (λ (l : List Coming). record { items = l; limits = r.limits; user = r.user })
    (sym (append-nil r.items) ∙ ap (λ (b : Bool). r.items ++ (if b then [] else Met e (threads_in r.items) ∷ [])) (sym met))

-- and else the meeting
pub notes_it : (r : Log) (e : EnvNo) → has_met_all e r.items ≡ false → with_item r (Met e (threads_in r.items)) ≡ with_items r (meeting e r.items)
notes_it r e met =
    ap (λ (b : Bool). record { items = r.items ++ (if b then [] else Met e (threads_in r.items) ∷ []); limits = r.limits; user = r.user }) (sym met)
