-- The threads that are there, and their desks.
use Rattle.std.proofs.lemmas.List.{length-replicate}
use Rattle.std.proofs.Common.{◌≡◌, ◌≢◌, ℕ, zero, suc, ◌<◌, ◌≤◌, ◌==◌, ◌||◌, Bool, true, false, not, cond, if◌then◌else◌, List, [], ◌∷◌, ◌++◌, length, map, drop, Option, Some, None, refl, sym, ap, ◌∙◌, subst, ⊎_elim, inl, inr, arith, length-append, eq-eqb, ne_eqb}
use Rattle.std.specs.Prelude.{replicate, All, slice_get, slice_set}
use Rattle.std.specs.List.{filter, list_any, remove}
use Rattle.std.proofs.lemmas.Bool.{cases_eq, cases_lt}
use Rattle.std.proofs.lemmas.Bool.Decides.{nat_tests}
use Rattle.std.proofs.lemmas.List.{map-append}
use Rattle.std.proofs.lemmas.List.Elements.{All-append, All-cons, All-nil}
use Rattle.atomic_table.specs.Seated.{TableId}
use Rattle.ti_types.specs.declared.limits.Limits.{Limits}
use Rattle.ti_stops.specs.declared.call.StopCall.{StopCall}
use Rattle.ti_types.specs.declared.numbers.EnvNo.{EnvNo}
use Rattle.ti_types.specs.declared.numbers.ThreadNo.{ThreadNo}
use Rattle.ti_cell.specs.declared.view.Subject.{Subject}
use Rattle.ti_cell.specs.View.{subject_of}
use Rattle.ti_handshake.specs.Desk.{DeskState}
use Rattle.ti_handshake.specs.NewDesks.{new_desks, new_desk as unused}
use Rattle.ti_agent.specs.FreeDesk.{FreeState}
use Rattle.ti_roster.specs.declared.coming.Coming.{Coming}
use Rattle.ti_roster.specs.declared.coming.Coming.TheVariants.{Came, Left, Attached, Met, GaveBack, Disposed, Stop}
use Rattle.ti_roster.specs.declared.newcomer.Newcomer.{Newcomer}
use Rattle.ti_roster.specs.declared.row.Row.{Row}
use Rattle.ti_roster.specs.declared.stage.Stage.{Stage}
use Rattle.ti_roster.specs.declared.stage.Stage.TheVariants.{New}
use Rattle.ti_roster.specs.Stages.{stage_after, stage_of}
use Rattle.ti_roster.specs.Log.{Lies, Unused, Out, Returned, came, came_after, lies, lies_after, threads_in, mark_after, mark_of, live, live_after, is_other, is_thread}
use Rattle.ti_roster.specs.Rows.{AreLeft, AreRows, IsIndex, IsNewRow, IsPut, IsReturned, IsRow, IsTaken, IsUnused, LiesAs, Rising, and_desk, and_one, desks_in, free_at, new_desk, newcomers, reached}
use Rattle.ti_roster.specs.Roster.{IsOwn}
use Rattle.ti_roster.proofs.Logs.{came_more, lies_more, lies_same, live_more, mark_more, stage_more, threads_back, threads_left, threads_met, threads_more}
use Rattle.ti_roster.proofs.Places.{get_replicated, is_same, nothing_at, get_within, get_front, get_last, get_end, set_here, set_other, remove_get, map_remove, get_map, alike_map, get_there, length_map, length_set}

-- The desks of a thread that has just come

length_desks : (cell : TableId) (s : Subject) (n : ℕ) → length (new_desks cell s n) ≡ n
length_desks cell s zero = refl
length_desks cell s (suc n) =
    let h = length_desks cell s n in
    let k = length-append (new_desks cell s n) (unused cell s (record { 0 = n }) ∷ []) in
    omega (arith, h, k)

desk_at : (cell : TableId) (s : Subject) (n p : ℕ) → p < n → slice_get (new_desks cell s n) p ≡ Some (unused cell s (record { 0 = p }))
desk_at cell s zero p h = absurd (omega (arith, h))
desk_at cell s (suc n) p h =
    elim (cases_eq p n) [
      | inl same ↦
          get_last (new_desks cell s n) (unused cell s (record { 0 = n })) p (same ∙ sym (length_desks cell s n)) ∙ ap (λ (k : ℕ). Some (unused cell s (record { 0 = k }))) (sym same)
      | inr other ↦
          let below : p < n = omega (arith, h, other) in
          get_front (new_desks cell s n) (unused cell s (record { 0 = n }) ∷ []) p (omega (arith, below, length_desks cell s n)) ∙ desk_at cell s n p below
    ]

pub desks_unused : (cell : TableId) (s : Subject) (n : ℕ) → All IsUnused (new_desks cell s n)
desks_unused cell s zero = All-nil IsUnused
desks_unused cell s (suc n) =
    All-append IsUnused (new_desks cell s n) (unused cell s (record { 0 = n }) ∷ []) (desks_unused cell s n)
    (All-cons IsUnused (unused cell s (record { 0 = n })) [] refl (All-nil IsUnused))

pub new_row_is : (limits : Limits) (r : Row) → r.stage ≡ New → r.desks.items ≡ map (λ d. Some (free_at d)) (new_desks r.newcomer.cell (subject_of limits r.newcomer.thread) limits.envs) → IsNewRow limits r
new_row_is limits r new e = record {
  stage = new;
  places = ap (λ (l : List (Option FreeState)). length l) e ∙ (length_map (λ (d : DeskState). Some (free_at d)) desks ∙ length_desks r.newcomer.cell (subject_of limits r.newcomer.thread) limits.envs);
  each = λ p h.
      let cell : TableId = r.newcomer.cell in
      let subject : Subject = subject_of limits r.newcomer.thread in
      ap (λ (l : List (Option FreeState)). slice_get l p) e
      ∙ get_map (λ (d : DeskState). Some (free_at d)) desks p (unused cell subject (record { 0 = p })) (desk_at cell subject limits.envs p h);
}
  where
    desks : List DeskState
    desks = new_desks r.newcomer.cell (subject_of limits r.newcomer.thread) limits.envs

-- Numbers that rise

pub rising_lower : (k m : ℕ) (l : List Newcomer) (u : ℕ) → k ≤ m → Rising m l u → Rising k l u
rising_lower k m [] u h r = omega (arith, h, r)
rising_lower k m (n ∷ l) u h r = (omega (arith, h, r.0), r.1)

pub rising_end : (m : ℕ) (l : List Newcomer) (u : ℕ) (n : Newcomer) → n.thread.0 ≡ u → Rising m l u → Rising m (l ++ n ∷ []) (suc u)
rising_end m [] u n e r = (omega (arith, e, r), omega (arith, e))
rising_end m (x ∷ l) u n e r = (r.0, rising_end (suc x.thread.0) l u n e r.1)

rising_or : (b : Bool) (m : ℕ) (x : Newcomer) (l : List Newcomer) (u : ℕ) → m ≤ x.thread.0 → Rising (suc x.thread.0) l u → Rising m (cond b (x ∷ l) l) u
rising_or true m x l u h r = (h, r)
rising_or false m x l u h r = rising_lower m (suc x.thread.0) l u (omega (arith, h)) r

pub rising_filter : (p : Newcomer → Bool) (m : ℕ) (l : List Newcomer) (u : ℕ) → Rising m l u → Rising m (filter p l) u
rising_filter p m [] u r = r
rising_filter p m (x ∷ l) u r = rising_or (p x) m x (filter p l) u r.0 (rising_filter p (suc x.thread.0) l u r.1)

rising_at : (m : ℕ) (l : List Newcomer) (u i : ℕ) (n : Newcomer) → Rising m l u → slice_get l i ≡ Some n → m ≤ n.thread.0
rising_at m [] u i n r e = absurd (nothing_at i n e)
rising_at m (x ∷ l) u zero n r e = let same = ap (λ (y : Newcomer). y.thread.0) (is_same x n e) in omega (arith, r.0, same)
rising_at m (x ∷ l) u (suc i) n r e = let h = rising_at (suc x.thread.0) l u i n r.1 e in omega (arith, h, r.0)

rising_top : (m : ℕ) (l : List Newcomer) (u : ℕ) → Rising m l u → m ≤ u
rising_top m [] u r = r
rising_top m (x ∷ l) u r = let h = rising_top (suc x.thread.0) l u r.1 in omega (arith, h, r.0)

pub rising_below : (m : ℕ) (l : List Newcomer) (u i : ℕ) (n : Newcomer) → Rising m l u → slice_get l i ≡ Some n → n.thread.0 < u
rising_below m [] u i n r e = absurd (nothing_at i n e)
rising_below m (x ∷ l) u zero n r e = let same = ap (λ (y : Newcomer). y.thread.0) (is_same x n e) in let h = rising_top (suc x.thread.0) l u r.1 in omega (arith, h, same)
rising_below m (x ∷ l) u (suc i) n r e = rising_below (suc x.thread.0) l u i n r.1 e

other_is : (t : ThreadNo) (x : Newcomer) → x.thread.0 ≢ t.0 → is_other t x ≡ true
other_is t x other = ap (λ (b : Bool). not b) (ne_eqb x.thread.0 t.0 other)

same_is : (t : ThreadNo) (x : Newcomer) → x.thread.0 ≡ t.0 → is_other t x ≡ false
same_is t x same = ap (λ (b : Bool). not b) (eq-eqb x.thread.0 t.0 same)

keeps_above : (t : ThreadNo) (m : ℕ) (l : List Newcomer) (u : ℕ) → t.0 < m → Rising m l u → filter (is_other t) l ≡ l
keeps_above t m [] u h r = refl
keeps_above t m (x ∷ l) u h r =
    ap (λ (b : Bool). cond b (x ∷ filter (is_other t) l) (filter (is_other t) l)) (other_is t x (λ same. omega (arith, same, r.0, h)))
    ∙ ap (λ (k : List Newcomer). x ∷ k) (keeps_above t (suc x.thread.0) l u (omega (arith, h, r.0)) r.1)

pub filter_out : (t : ThreadNo) (m : ℕ) (l : List Newcomer) (u i : ℕ) (n : Newcomer) → Rising m l u → slice_get l i ≡ Some n → n.thread.0 ≡ t.0 → filter (is_other t) l ≡ remove l i
filter_out t m [] u i n r e is = absurd (nothing_at i n e)
filter_out t m (x ∷ l) u zero n r e is =
    let same : x.thread.0 ≡ t.0 = ap (λ (y : Newcomer). y.thread.0) (is_same x n e) ∙ is in
    ap (λ (b : Bool). cond b (x ∷ filter (is_other t) l) (filter (is_other t) l)) (same_is t x same)
    ∙ keeps_above t (suc x.thread.0) l u (omega (arith, same)) r.1
filter_out t m (x ∷ l) u (suc i) n r e is =
    let h : suc x.thread.0 ≤ n.thread.0 = rising_at (suc x.thread.0) l u i n r.1 e in
    ap (λ (b : Bool). cond b (x ∷ filter (is_other t) l) (filter (is_other t) l)) (other_is t x (λ same. omega (arith, same, is, h)))
    ∙ ap (λ (k : List Newcomer). x ∷ k) (filter_out t (suc x.thread.0) l u i n r.1 e is)

-- those behind have higher numbers
pub rising_less : (m : ℕ) (l : List Newcomer) (u i j : ℕ) (n o : Newcomer) → Rising m l u → slice_get l i ≡ Some n → slice_get l j ≡ Some o → i < j → n.thread.0 < o.thread.0
rising_less m [] u i j n o r a b h = absurd (nothing_at i n a)
rising_less m (x ∷ l) u zero zero n o r a b h = absurd (omega (arith, h))
rising_less m (x ∷ l) u zero (suc j) n o r a b h =
    let least = rising_at (suc x.thread.0) l u j o r.1 b in
    let same = ap (λ (y : Newcomer). y.thread.0) (is_same x n a) in
    omega (arith, least, same)
rising_less m (x ∷ l) u (suc i) zero n o r a b h = absurd (omega (arith, h))
rising_less m (x ∷ l) u (suc i) (suc j) n o r a b h = rising_less (suc x.thread.0) l u i j n o r.1 a b (omega (arith, h))

pub rising_other : (l : List Newcomer) (u i j : ℕ) (n o : Newcomer) → Rising 0 l u → slice_get l i ≡ Some n → slice_get l j ≡ Some o → i ≢ j → o.thread.0 ≢ n.thread.0
rising_other l u i j n o r a b other same =
    elim (cases_lt i j) [
      | inl less ↦ (let z = rising_less 0 l u i j n o r a b less in omega (arith, z, same))
      | inr more ↦ (let z = rising_less 0 l u j i o n r b a (omega (arith, more, other)) in omega (arith, z, same))
    ]

-- One more coming or going

row_same : (log log' : List Coming) (limits : Limits) (r : Row) → ((e : EnvNo) → lies e r.newcomer.thread log' ≡ lies e r.newcomer.thread log) → stage_of r.newcomer.thread log' ≡ stage_of r.newcomer.thread log → IsRow log limits r → IsRow log' limits r
row_same log log' limits r same stage k = record {
  stage = k.stage ∙ sym stage;
  places = k.places;
  each = λ p h. (let d = k.each p h in (d.0, d.1, subst (λ (l : Lies). LiesAs l limits (record { 0 = p }) r.newcomer d.0) (sym (same (record { 0 = p }))) d.2));
}

-- nobody comes or goes, and no desk is moved: only what is noted of a place may change
rows_stay : (log : List Coming) (limits : Limits) (rows : List Row) (marks marks' : List (Option ℕ)) (x : Coming) → AreRows log limits rows marks → live_after (live log) x ≡ live log → came_after (came log) x ≡ came log
    → ((e : EnvNo) (t : ThreadNo) → lies_after e t (lies e t log) x ≡ lies e t log) → ((t : ThreadNo) → stage_after t (stage_of t log) x ≡ stage_of t log) → ((e : EnvNo) (m : ℕ) (t : ThreadNo) → mark_of e (log ++ x ∷ []) ≡ Some m → t.0 < m → lies e t log ≡ Out) → length marks' ≡ limits.envs → ((p : ℕ) → p < limits.envs → slice_get marks' p ≡ Some (mark_of (record { 0 = p }) (log ++ x ∷ [])))
    → AreRows (log ++ x ∷ []) limits rows marks'
rows_stay log limits rows marks marks' x k live_same came_same lies_are stages passed places marks_are = record {
  live_are = k.live_are ∙ sym now_live;
  each = λ i q at. row_same log (log ++ x ∷ []) limits q (λ e. lies_more e q.newcomer.thread log x ∙ lies_are e q.newcomer.thread) (stage_more q.newcomer.thread log x ∙ stages q.newcomer.thread) (k.each i q at);
  places = places;
  marks_are = marks_are;
  fresh = λ e t h. lies_more e t log x ∙ (lies_are e t ∙ k.fresh e t (omega (arith, h, count)));
  unborn = λ t h. stage_more t log x ∙ (stages t ∙ k.unborn t (omega (arith, h, count)));
  passed = λ e m t is h. lies_more e t log x ∙ (lies_are e t ∙ passed e m t is h);
  listed = λ i n at. ap (λ (l : List Newcomer). slice_get l n.thread.0) now_came ∙ k.listed i n (ap (λ (l : List Newcomer). slice_get l i) (sym now_live) ∙ at);
  rising = subst (λ (z : List Newcomer × ℕ). Rising 0 z.0 z.1) (λ j. (sym now_live j, sym count j)) k.rising;
}
  where
    now_live : live (log ++ x ∷ []) ≡ live log
    now_live = live_more log x ∙ live_same

    now_came : came (log ++ x ∷ []) ≡ came log
    now_came = came_more log x ∙ came_same

    count : threads_in (log ++ x ∷ []) ≡ threads_in log
    count = ap (λ (l : List Newcomer). length l) now_came

pub rows_come : (log : List Coming) (limits : Limits) (rows : List Row) (marks : List (Option ℕ)) (r : Row) → AreRows log limits rows marks → IsNewRow limits r → r.newcomer.thread.0 ≡ threads_in log
    → AreRows (log ++ Came r.newcomer ∷ []) limits (rows ++ r ∷ []) marks
rows_come log limits rows marks r k new number = record {
  live_are = map-append (λ (x : Row). x.newcomer) rows (r ∷ []) ∙ (ap (λ (l : List Newcomer). l ++ r.newcomer ∷ []) k.live_are ∙ sym (live_more log (Came r.newcomer)));
  each = λ i q at. ⊎_elim
      (λ (old : slice_get rows i ≡ Some q). row_same log log' limits q (λ e. same e q.newcomer.thread) (stage_more q.newcomer.thread log (Came r.newcomer)) (k.each i q old))
      (λ (is : r ≡ q). subst (λ (x : Row). IsRow log' limits x) is here)
      (get_end rows r q i at);
  places = k.places;
  marks_are = λ p h. k.marks_are p h ∙ ap (λ (m : Option ℕ). Some m) (sym (mark_more (record { 0 = p }) log (Came r.newcomer)));
  fresh = λ e t h. same e t ∙ k.fresh e t (omega (arith, h, threads_more log r.newcomer));
  unborn = λ t h. stage_more t log (Came r.newcomer) ∙ k.unborn t (omega (arith, h, threads_more log r.newcomer));
  passed = λ e m t is h. same e t ∙ k.passed e m t (sym (mark_more e log (Came r.newcomer)) ∙ is) h;
  listed = listed;
  rising = subst (λ (x : List Newcomer × ℕ). Rising 0 x.0 x.1) (λ j. (sym (live_more log (Came r.newcomer)) j, sym (threads_more log r.newcomer) j)) (rising_end 0 (live log) (threads_in log) r.newcomer number k.rising);
}
  where
    log' : List Coming
    log' = log ++ Came r.newcomer ∷ []

    same : (e : EnvNo) (t : ThreadNo) → lies e t log' ≡ lies e t log
    same e t = lies_more e t log (Came r.newcomer)

    here : IsRow log' limits r
    here = record {
      stage = new.stage ∙ sym (stage_more r.newcomer.thread log (Came r.newcomer) ∙ k.unborn r.newcomer.thread (omega (arith, number)));
      places = new.places;
      each = λ p h. (
        Some (new_desk limits (record { 0 = p }) r.newcomer),
        new.each p h,
        subst (λ (l : Lies). LiesAs l limits (record { 0 = p }) r.newcomer (Some (new_desk limits (record { 0 = p }) r.newcomer)))
            (sym (same (record { 0 = p }) r.newcomer.thread ∙ k.fresh (record { 0 = p }) r.newcomer.thread (omega (arith, number)))) refl,
      );
    }

    listed : (i : ℕ) (n : Newcomer) → slice_get (live log') i ≡ Some n → slice_get (came log') n.thread.0 ≡ Some n
    listed i n at = ap (λ (l : List Newcomer). slice_get l n.thread.0) (came_more log (Came r.newcomer)) ∙ ⊎_elim
        (λ (old : slice_get (live log) i ≡ Some n). (let was = k.listed i n old in get_front (came log) (r.newcomer ∷ []) n.thread.0 (get_within (came log) n.thread.0 n was) ∙ was))
        (λ (is : r.newcomer ≡ n). get_last (came log) r.newcomer n.thread.0 (ap (λ (x : Newcomer). x.thread.0) (sym is) ∙ number) ∙ ap (λ (x : Newcomer). Some x) is)
        (get_end (live log) r.newcomer n i (ap (λ (l : List Newcomer). slice_get l i) (sym (live_more log (Came r.newcomer))) ∙ at))

pub rows_left : (log : List Coming) (limits : Limits) (rows : List Row) (marks : List (Option ℕ)) (t : ThreadNo) (i : ℕ) → AreRows log limits rows marks → IsIndex (live log) t i
    → AreRows (log ++ Left t ∷ []) limits (remove rows i) marks
rows_left log limits rows marks t i k at = record {
  live_are = map_remove (λ (x : Row). x.newcomer) rows i ∙ (ap (λ (l : List Newcomer). remove l i) k.live_are ∙ sym now_live);
  each = λ j q e. let was = remove_get rows i j q e in row_same log log' limits q (λ f. lies_more f q.newcomer.thread log (Left t)) (stage_more q.newcomer.thread log (Left t)) (k.each was.0 q was.1);
  places = k.places;
  marks_are = λ p h. k.marks_are p h ∙ ap (λ (m : Option ℕ). Some m) (sym (mark_more (record { 0 = p }) log (Left t)));
  unborn = λ u h. stage_more u log (Left t) ∙ k.unborn u (omega (arith, h, threads_left log t));
  fresh = λ e u h. lies_more e u log (Left t) ∙ k.fresh e u (omega (arith, h, threads_left log t));
  passed = λ e m u is h. lies_more e u log (Left t) ∙ k.passed e m u (sym (mark_more e log (Left t)) ∙ is) h;
  listed = λ j n e. (let was = remove_get (live log) i j n (ap (λ (l : List Newcomer). slice_get l j) (sym now_live) ∙ e) in
      ap (λ (l : List Newcomer). slice_get l n.thread.0) (came_more log (Left t)) ∙ k.listed was.0 n was.1);
  rising = subst (λ (x : List Newcomer × ℕ). Rising 0 x.0 x.1) (λ j. (sym (live_more log (Left t)) j, sym (threads_left log t) j)) (rising_filter (is_other t) 0 (live log) (threads_in log) k.rising);
}
  where
    log' : List Coming
    log' = log ++ Left t ∷ []

    now_live : live log' ≡ remove (live log) i
    now_live = live_more log (Left t) ∙ filter_out t 0 (live log) (threads_in log) i at.one k.rising at.at at.is

-- what is noted of a place that is the environment's, and of the others
mark_here : (e : EnvNo) (p : ℕ) (v mark : Option ℕ) → e.0 ≡ p → (if e.0 == p then v else mark) ≡ v
mark_here e p v mark same = ap (λ (b : Bool). if b then v else mark) (eq-eqb e.0 p same)

mark_there : (e : EnvNo) (p : ℕ) (v mark : Option ℕ) → e.0 ≢ p → (if e.0 == p then v else mark) ≡ mark
mark_there e p v mark other = ap (λ (b : Bool). if b then v else mark) (ne_eqb e.0 p other)

-- what is noted of a place, and of no other, changes
marks_set : (log : List Coming) (limits : Limits) (marks : List (Option ℕ)) (e : EnvNo) (x : Coming) (v : Option ℕ) → length marks ≡ limits.envs → ((p : ℕ) → p < limits.envs → slice_get marks p ≡ Some (mark_of (record { 0 = p }) log))
    → ((f : EnvNo) → mark_after f (mark_of f log) x ≡ (if e.0 == f.0 then v else mark_of f log)) → (p : ℕ) → p < limits.envs → slice_get (slice_set marks e.0 v) p ≡ Some (mark_of (record { 0 = p }) (log ++ x ∷ []))
marks_set log limits marks e x v places are after p h =
    elim (cases_eq e.0 p) [
      | inl same ↦
          let is : mark_of (record { 0 = p }) (log ++ x ∷ []) ≡ v = mark_more (record { 0 = p }) log x ∙ after (record { 0 = p }) ∙ mark_here e p v (mark_of (record { 0 = p }) log) same in
          ap (λ (i : ℕ). slice_get (slice_set marks i v) p) same ∙ (set_here marks p v (omega (arith, h, places)) ∙ ap (λ (m : Option ℕ). Some m) (sym is))
      | inr other ↦
          let is : mark_of (record { 0 = p }) (log ++ x ∷ []) ≡ mark_of (record { 0 = p }) log = mark_more (record { 0 = p }) log x ∙ after (record { 0 = p }) ∙ mark_there e p v (mark_of (record { 0 = p }) log) other in
          set_other marks e.0 p v (λ same. other (sym same)) ∙ (are p h ∙ ap (λ (m : Option ℕ). Some m) (sym is))
    ]

-- an environment's place from which no desk was passed, and the others
none_passed : (log : List Coming) (limits : Limits) (rows : List Row) (marks : List (Option ℕ)) (e : EnvNo) (x : Coming) (v : Option ℕ) → AreRows log limits rows marks → ((m : ℕ) → v ≡ Some m → m ≡ 0)
    → ((f : EnvNo) → mark_after f (mark_of f log) x ≡ (if e.0 == f.0 then v else mark_of f log)) → (f : EnvNo) (m : ℕ) (t : ThreadNo) → mark_of f (log ++ x ∷ []) ≡ Some m → t.0 < m → lies f t log ≡ Out
none_passed log limits rows marks e x v k zero_is after f m t is h =
    elim (cases_eq e.0 f.0) [
      | inl same ↦ absurd (let z = zero_is m (sym (mark_here e f.0 v (mark_of f log) same) ∙ (sym (mark_more f log x ∙ after f) ∙ is)) in omega (arith, z, h))
      | inr other ↦ k.passed f m t (sym (mark_there e f.0 v (mark_of f log) other) ∙ (sym (mark_more f log x ∙ after f) ∙ is)) h
    ]

the_zero : (m : ℕ) → Some 0 ≡ Some m → m ≡ 0
the_zero m h = sym (is_same 0 m h)

no_zero : (m : ℕ) → None ≡ Some m → m ≡ 0
no_zero m h = cc

pub rows_attach : (log : List Coming) (limits : Limits) (rows : List Row) (marks : List (Option ℕ)) (e : EnvNo) → AreRows log limits rows marks → AreRows (log ++ Attached e ∷ []) limits rows (slice_set marks e.0 (Some 0))
rows_attach log limits rows marks e k =
    rows_stay log limits rows marks (slice_set marks e.0 (Some 0)) (Attached e) k refl refl (λ f t. refl) (λ t. refl) (none_passed log limits rows marks e (Attached e) (Some 0) k the_zero (λ f. refl)) (length_set marks e.0 (Some 0) ∙ k.places) (marks_set log limits marks e (Attached e) (Some 0) k.places k.marks_are (λ f. refl))

pub rows_dispose : (log : List Coming) (limits : Limits) (rows : List Row) (marks : List (Option ℕ)) (e : EnvNo) → AreRows log limits rows marks → AreRows (log ++ Disposed e ∷ []) limits rows (slice_set marks e.0 None)
rows_dispose log limits rows marks e k =
    rows_stay log limits rows marks (slice_set marks e.0 None) (Disposed e) k refl refl (λ f t. refl) (λ t. refl) (none_passed log limits rows marks e (Disposed e) None k no_zero (λ f. refl)) (length_set marks e.0 None ∙ k.places) (marks_set log limits marks e (Disposed e) None k.places k.marks_are (λ f. refl))

-- and what changes about stops moves nothing
pub rows_stop : (log : List Coming) (limits : Limits) (rows : List Row) (marks : List (Option ℕ)) (o : Option EnvNo) (call : StopCall) → AreRows log limits rows marks → AreRows (log ++ Stop o call ∷ []) limits rows marks
rows_stop log limits rows marks o call k =
    rows_stay log limits rows marks marks (Stop o call) k refl refl (λ f t. refl) (λ t. refl)
    (λ e m t is h. k.passed e m t (sym (mark_more e log (Stop o call)) ∙ is) h) k.places
    (λ p h. k.marks_are p h ∙ ap (λ (m : Option ℕ). Some m) (sym (mark_more (record { 0 = p }) log (Stop o call))))

-- the threads are the same, with desks moved in their rows
pub rows_meet : (log : List Coming) (limits : Limits) (rows rows' : List Row) (marks : List (Option ℕ)) (e : EnvNo) → AreRows log limits rows marks → e.0 < limits.envs → length rows' ≡ length rows
    → ((i : ℕ) (r q : Row) → slice_get rows i ≡ Some r → slice_get rows' i ≡ Some q → IsTaken e r q)
    → AreRows (log ++ Met e (threads_in log) ∷ []) limits rows' (slice_set marks e.0 (Some (threads_in log)))
rows_meet log limits rows rows' marks e k there len taken = record {
  live_are = alike_map (λ (x : Row). x.newcomer) rows rows' len (λ i r q a b. (taken i r q a b).newcomer) ∙ (k.live_are ∙ sym (live_more log (Met e n)));
  each = each;
  places = length_set marks e.0 (Some n) ∙ k.places;
  marks_are = marks_set log limits marks e (Met e n) (Some n) k.places k.marks_are (λ f. refl);
  unborn = λ t h. stage_more t log (Met e n) ∙ k.unborn t (omega (arith, h, threads_met log e n));
  fresh = λ f t h. lies_more f t log (Met e n) ∙ (grind (arith, nat_tests, h, threads_met log e n) ∙ k.fresh f t (omega (arith, h, threads_met log e n)));
  passed = passed;
  listed = λ i m at. ap (λ (l : List Newcomer). slice_get l m.thread.0) (came_more log (Met e n)) ∙ k.listed i m (ap (λ (l : List Newcomer). slice_get l i) (sym (live_more log (Met e n))) ∙ at);
  rising = subst (λ (x : List Newcomer × ℕ). Rising 0 x.0 x.1) (λ j. (sym (live_more log (Met e n)) j, sym (threads_met log e n) j)) k.rising;
}
  where
    n : ℕ
    n = threads_in log

    log' : List Coming
    log' = log ++ Met e n ∷ []

    passed : (f : EnvNo) (m : ℕ) (t : ThreadNo) → mark_of f log' ≡ Some m → t.0 < m → lies f t log' ≡ Out
    passed f m t is h = elim (cases_eq e.0 f.0) [
      | inl same ↦
          let is_n : n ≡ m = is_same n m (sym (mark_here e f.0 (Some n) (mark_of f log) same) ∙ (sym (mark_more f log (Met e n)) ∙ is)) in
          let number : t.0 < n = omega (arith, h, is_n) in
          lies_more f t log (Met e n) ∙ grind (arith, nat_tests, number, same)
      | inr other ↦ lies_same f t log (Met e n) (ne_eqb e.0 f.0 other) ∙ k.passed f m t (sym (mark_there e f.0 (Some n) (mark_of f log) other) ∙ (sym (mark_more f log (Met e n)) ∙ is)) h
    ]

    one : (r q : Row) → IsRow log limits r → IsTaken e r q → r.newcomer.thread.0 < n → IsRow log' limits q
    one r q row t below = record {
      stage = t.stage ∙ (row.stage ∙ (ap (λ (x : Newcomer). stage_of x.thread log) (sym t.newcomer) ∙ sym (stage_more q.newcomer.thread log (Met e n))));
      places = ap (λ (l : List (Option FreeState)). length l) t.desks ∙ (length_set r.desks.items e.0 None ∙ row.places);
      each = λ p h. elim (cases_eq e.0 p) [
        | inl same ↦
            let number : q.newcomer.thread.0 < n = subst (λ (x : Newcomer). x.thread.0 < n) (sym t.newcomer) below in
            let out : lies (record { 0 = p }) q.newcomer.thread log' ≡ Out = lies_more (record { 0 = p }) q.newcomer.thread log (Met e n) ∙ grind (arith, nat_tests, number, same) in (
              None,
              ap (λ (l : List (Option FreeState)). slice_get l p) t.desks
                  ∙ (ap (λ (i : ℕ). slice_get (slice_set r.desks.items i None) p) same ∙ set_here r.desks.items p None (omega (arith, h, row.places))),
              subst (λ (l : Lies). LiesAs l limits (record { 0 = p }) q.newcomer None) (sym out) refl,
            )
        | inr other ↦
            let d = row.each p h in
            let stays : lies (record { 0 = p }) q.newcomer.thread log' ≡ lies (record { 0 = p }) q.newcomer.thread log = lies_same (record { 0 = p }) q.newcomer.thread log (Met e n) (ne_eqb e.0 p other) in (
              d.0,
              ap (λ (l : List (Option FreeState)). slice_get l p) t.desks ∙ (set_other r.desks.items e.0 p None (λ same. other (sym same)) ∙ d.1),
              subst (λ (l : Lies). LiesAs l limits (record { 0 = p }) q.newcomer d.0) (sym stays) (subst (λ (x : Newcomer). LiesAs (lies (record { 0 = p }) x.thread log) limits (record { 0 = p }) x d.0) (sym t.newcomer) d.2),
            )
      ];
    }

    each : (i : ℕ) (q : Row) → slice_get rows' i ≡ Some q → IsRow log' limits q
    each i q at =
        let within : i < length rows = omega (arith, get_within rows' i q at, len) in
        let r = get_there rows i within in
        let live_at : slice_get (live log) i ≡ Some r.0.newcomer = ap (λ (l : List Newcomer). slice_get l i) (sym k.live_are) ∙ get_map (λ (x : Row). x.newcomer) rows i r.0 r.1 in
        one r.0 q (k.each i r.0 r.1) (taken i r.0 q r.1 at) (rising_below 0 (live log) n i r.0.newcomer k.rising live_at)

pub rows_back : (log : List Coming) (limits : Limits) (rows : List Row) (marks : List (Option ℕ)) (e : EnvNo) (t : ThreadNo) (i : ℕ) (r q : Row) (f : FreeState) → AreRows log limits rows marks → e.0 < limits.envs → slice_get rows i ≡ Some r → r.newcomer.thread.0 ≡ t.0
    → IsPut e f r q → IsReturned limits e r.newcomer f → AreRows (log ++ GaveBack e t ∷ []) limits (slice_set rows i q) (slice_set marks e.0 (Some 0))
rows_back log limits rows marks e t i r q f k there at is put back = record {
  live_are = alike_map (λ (x : Row). x.newcomer) rows rows' (length_set rows i q) alike ∙ (k.live_are ∙ sym (live_more log (GaveBack e t)));
  each = each;
  places = length_set marks e.0 (Some 0) ∙ k.places;
  marks_are = marks_set log limits marks e (GaveBack e t) (Some 0) k.places k.marks_are (λ g. refl);
  unborn = λ u h. stage_more u log (GaveBack e t) ∙ k.unborn u (omega (arith, h, threads_back log e t));
  fresh = λ g u h. lies_more g u log (GaveBack e t) ∙ (past g u (omega (arith, h, threads_back log e t)) ∙ k.fresh g u (omega (arith, h, threads_back log e t)));
  passed = passed;
  listed = λ j m e'. ap (λ (l : List Newcomer). slice_get l m.thread.0) (came_more log (GaveBack e t)) ∙ k.listed j m (ap (λ (l : List Newcomer). slice_get l j) (sym (live_more log (GaveBack e t))) ∙ e');
  rising = subst (λ (x : List Newcomer × ℕ). Rising 0 x.0 x.1) (λ j. (sym (live_more log (GaveBack e t)) j, sym (threads_back log e t) j)) k.rising;
}
  where
    rows' : List Row
    rows' = slice_set rows i q

    log' : List Coming
    log' = log ++ GaveBack e t ∷ []

    within : i < length rows
    within = get_within rows i r at

    live_at : (j : ℕ) (x : Row) → slice_get rows j ≡ Some x → slice_get (live log) j ≡ Some x.newcomer
    live_at j x a = ap (λ (l : List Newcomer). slice_get l j) (sym k.live_are) ∙ get_map (λ (y : Row). y.newcomer) rows j x a

    alike : (j : ℕ) (x y : Row) → slice_get rows j ≡ Some x → slice_get rows' j ≡ Some y → y.newcomer ≡ x.newcomer
    alike j x y a b = elim (cases_eq j i) [
      | inl same ↦
          let new : q ≡ y = is_same q y (sym (set_here rows i q within) ∙ (ap (slice_get rows') (sym same) ∙ b)) in
          let old : r ≡ x = is_same r x (sym at ∙ (ap (slice_get rows) (sym same) ∙ a)) in
          ap (λ (z : Row). z.newcomer) (sym new) ∙ put.newcomer ∙ ap (λ (z : Row). z.newcomer) old
      | inr other ↦ ap (λ (z : Row). z.newcomer) (sym (is_same x y (sym a ∙ (sym (set_other rows i j q other) ∙ b))))
    ]

    passed : (g : EnvNo) (m : ℕ) (u : ThreadNo) → mark_of g log' ≡ Some m → u.0 < m → lies g u log' ≡ Out
    passed g m u is' h = elim (cases_eq e.0 g.0) [
      | inl same ↦ absurd (let z = is_same 0 m (sym (mark_here e g.0 (Some 0) (mark_of g log) same) ∙ (sym (mark_more g log (GaveBack e t)) ∙ is')) in omega (arith, z, h))
      | inr other ↦ lies_same g u log (GaveBack e t) (ne_eqb e.0 g.0 other) ∙ k.passed g m u (sym (mark_there e g.0 (Some 0) (mark_of g log) other) ∙ (sym (mark_more g log (GaveBack e t)) ∙ is')) h
    ]

    -- a number that was no thread's yet is another
    past : (g : EnvNo) (u : ThreadNo) → threads_in log ≤ u.0 → lies_after g u (lies g u log) (GaveBack e t) ≡ lies g u log
    past g u h =
        let below = rising_below 0 (live log) (threads_in log) i r.newcomer k.rising (live_at i r at) in
        let other : (t.0 == u.0) ≡ false = ne_eqb t.0 u.0 (λ same. omega (arith, same, is, below, h)) in
        grind (arith, other)

    here : IsRow log' limits q
    here = record {
      stage = put.stage ∙ ((k.each i r at).stage ∙ (ap (λ (x : Newcomer). stage_of x.thread log) (sym put.newcomer) ∙ sym (stage_more q.newcomer.thread log (GaveBack e t))));
      places = ap (λ (l : List (Option FreeState)). length l) put.desks ∙ (length_set r.desks.items e.0 (Some f) ∙ (k.each i r at).places);
      each = λ p h. (let row = k.each i r at in elim (cases_eq e.0 p) [
        | inl same ↦
            let number : t.0 ≡ q.newcomer.thread.0 = sym (ap (λ (x : Newcomer). x.thread.0) put.newcomer ∙ is) in
            let returned : lies (record { 0 = p }) q.newcomer.thread log' ≡ Returned = lies_more (record { 0 = p }) q.newcomer.thread log (GaveBack e t) ∙ grind (arith, nat_tests, number, same) in (
              Some f,
              ap (λ (l : List (Option FreeState)). slice_get l p) put.desks
                  ∙ (ap (λ (n : ℕ). slice_get (slice_set r.desks.items n (Some f)) p) same ∙ set_here r.desks.items p (Some f) (omega (arith, h, row.places))),
              subst (λ (l : Lies). LiesAs l limits (record { 0 = p }) q.newcomer (Some f)) (sym returned)
                  (subst (λ (z : EnvNo × Newcomer). IsReturned limits z.0 z.1 f) (λ j. (record { 0 = same j }, sym put.newcomer j)) back),
            )
        | inr other ↦
            let d = row.each p h in
            let stays : lies (record { 0 = p }) q.newcomer.thread log' ≡ lies (record { 0 = p }) q.newcomer.thread log = lies_same (record { 0 = p }) q.newcomer.thread log (GaveBack e t) (ne_eqb e.0 p other) in (
              d.0,
              ap (λ (l : List (Option FreeState)). slice_get l p) put.desks ∙ (set_other r.desks.items e.0 p (Some f) (λ same. other (sym same)) ∙ d.1),
              subst (λ (l : Lies). LiesAs l limits (record { 0 = p }) q.newcomer d.0) (sym stays) (subst (λ (x : Newcomer). LiesAs (lies (record { 0 = p }) x.thread log) limits (record { 0 = p }) x d.0) (sym put.newcomer) d.2),
            )
      ]);
    }

    each : (j : ℕ) (y : Row) → slice_get rows' j ≡ Some y → IsRow log' limits y
    each j y b = elim (cases_eq j i) [
      | inl same ↦
          let new : q ≡ y = is_same q y (sym (set_here rows i q within) ∙ (ap (slice_get rows') (sym same) ∙ b)) in
          subst (λ (x : Row). IsRow log' limits x) new here
      | inr other ↦
          let old : slice_get rows j ≡ Some y = sym (set_other rows i j q other) ∙ b in
          let number : y.newcomer.thread.0 ≢ r.newcomer.thread.0 = rising_other (live log) (threads_in log) i j r.newcomer y.newcomer k.rising (live_at i r at) (live_at j y old) (λ same. other (sym same)) in
          let off : (t.0 == y.newcomer.thread.0) ≡ false = ne_eqb t.0 y.newcomer.thread.0 (λ same. number (sym same ∙ sym is)) in
          row_same log log' limits y (λ g. lies_more g y.newcomer.thread log (GaveBack e t) ∙ grind (arith, off)) (stage_more y.newcomer.thread log (GaveBack e t)) (k.each j y old)
    ]

-- a thread has come further: its row notes it
pub rows_reach : (log : List Coming) (limits : Limits) (rows : List Row) (marks : List (Option ℕ)) (t : ThreadNo) (i : ℕ) (r : Row) (s : Stage) (x : Coming) → AreRows log limits rows marks → slice_get rows i ≡ Some r → r.newcomer.thread.0 ≡ t.0
    → live_after (live log) x ≡ live log → came_after (came log) x ≡ came log → ((e : EnvNo) (u : ThreadNo) → lies_after e u (lies e u log) x ≡ lies e u log) → ((e : EnvNo) → mark_after e (mark_of e log) x ≡ mark_of e log)
    → ((u : ThreadNo) → stage_after u (stage_of u log) x ≡ (if t.0 == u.0 then s else stage_of u log)) → AreRows (log ++ x ∷ []) limits (slice_set rows i (reached r s)) marks
rows_reach log limits rows marks t i r s x k at is live_same came_same lies_are mark_same stages = record {
  live_are = alike_map (λ (y : Row). y.newcomer) rows rows' (length_set rows i (reached r s)) alike ∙ (k.live_are ∙ sym now_live);
  each = each;
  places = k.places;
  marks_are = λ p h. k.marks_are p h ∙ ap (λ (m : Option ℕ). Some m) (sym (mark_more (record { 0 = p }) log x ∙ mark_same (record { 0 = p })));
  fresh = λ e u h. lies_more e u log x ∙ (lies_are e u ∙ k.fresh e u (omega (arith, h, count)));
  unborn = λ u h. other_stage u (λ same. omega (arith, same, is, rising_below 0 (live log) (threads_in log) i r.newcomer k.rising (live_at i r at), h, count)) ∙ k.unborn u (omega (arith, h, count));
  passed = λ e m u his h. lies_more e u log x ∙ (lies_are e u ∙ k.passed e m u (sym (mark_more e log x ∙ mark_same e) ∙ his) h);
  listed = λ j n a. ap (λ (l : List Newcomer). slice_get l n.thread.0) now_came ∙ k.listed j n (ap (λ (l : List Newcomer). slice_get l j) (sym now_live) ∙ a);
  rising = subst (λ (z : List Newcomer × ℕ). Rising 0 z.0 z.1) (λ j. (sym now_live j, sym count j)) k.rising;
}
  where
    rows' : List Row
    rows' = slice_set rows i (reached r s)

    log' : List Coming
    log' = log ++ x ∷ []

    now_live : live log' ≡ live log
    now_live = live_more log x ∙ live_same

    now_came : came log' ≡ came log
    now_came = came_more log x ∙ came_same

    count : threads_in log' ≡ threads_in log
    count = ap (λ (l : List Newcomer). length l) now_came

    within : i < length rows
    within = get_within rows i r at

    live_at : (j : ℕ) (y : Row) → slice_get rows j ≡ Some y → slice_get (live log) j ≡ Some y.newcomer
    live_at j y a = ap (λ (l : List Newcomer). slice_get l j) (sym k.live_are) ∙ get_map (λ (z : Row). z.newcomer) rows j y a

    alike : (j : ℕ) (y z : Row) → slice_get rows j ≡ Some y → slice_get rows' j ≡ Some z → z.newcomer ≡ y.newcomer
    alike j y z a b = elim (cases_eq j i) [
      | inl same ↦
          let new : reached r s ≡ z = is_same (reached r s) z (sym (set_here rows i (reached r s) within) ∙ (ap (slice_get rows') (sym same) ∙ b)) in
          let old : r ≡ y = is_same r y (sym at ∙ (ap (slice_get rows) (sym same) ∙ a)) in
          ap (λ (w : Row). w.newcomer) (sym new) ∙ ap (λ (w : Row). w.newcomer) old
      | inr other ↦ ap (λ (w : Row). w.newcomer) (sym (is_same y z (sym a ∙ (sym (set_other rows i j (reached r s) other) ∙ b))))
    ]

    other_stage : (u : ThreadNo) → t.0 ≢ u.0 → stage_of u log' ≡ stage_of u log
    other_stage u other = stage_more u log x ∙ (stages u ∙ ap (λ (b : Bool). if b then s else stage_of u log) (ne_eqb t.0 u.0 other))

    here : IsRow log' limits (reached r s)
    here = record {
      stage = sym (stage_more r.newcomer.thread log x ∙ (stages r.newcomer.thread ∙ ap (λ (b : Bool). if b then s else stage_of r.newcomer.thread log) (eq-eqb t.0 r.newcomer.thread.0 (sym is))));
      places = (k.each i r at).places;
      each = λ p h. (let d = (k.each i r at).each p h in (d.0, d.1, subst (λ (l : Lies). LiesAs l limits (record { 0 = p }) r.newcomer d.0) (sym (lies_more (record { 0 = p }) r.newcomer.thread log x ∙ lies_are (record { 0 = p }) r.newcomer.thread)) d.2));
    }

    each : (j : ℕ) (y : Row) → slice_get rows' j ≡ Some y → IsRow log' limits y
    each j y b = elim (cases_eq j i) [
      | inl same ↦
          let new : reached r s ≡ y = is_same (reached r s) y (sym (set_here rows i (reached r s) within) ∙ (ap (slice_get rows') (sym same) ∙ b)) in
          subst (λ (z : Row). IsRow log' limits z) new here
      | inr other ↦
          let old : slice_get rows j ≡ Some y = sym (set_other rows i j (reached r s) other) ∙ b in
          let number : y.newcomer.thread.0 ≢ r.newcomer.thread.0 = rising_other (live log) (threads_in log) i j r.newcomer y.newcomer k.rising (live_at i r at) (live_at j y old) (λ same. other (sym same)) in
          row_same log log' limits y (λ e. lies_more e y.newcomer.thread log x ∙ lies_are e y.newcomer.thread) (other_stage y.newcomer.thread (λ same. number (sym same ∙ sym is))) (k.each j y old)
    ]

-- the desks that a meeting takes

one_left : (d : Option FreeState) (l : List FreeState) → and_desk (Some d) l ≡ and_one d l
one_left (Some f) l = refl
one_left None l = refl

pub desks_left : (log : List Coming) (limits : Limits) (e : EnvNo) (rows : List Row) → e.0 < limits.envs → ((i : ℕ) (r : Row) → slice_get rows i ≡ Some r → IsRow log limits r) → AreLeft log limits e (newcomers rows) (desks_in e rows)
desks_left log limits e [] there each = refl
desks_left log limits e (r ∷ rows) there each =
    let d = (each 0 r refl).each e.0 there in (
      d.0,
      desks_in e rows,
      ap (λ (x : Option (Option FreeState)). and_desk x (desks_in e rows)) d.1 ∙ one_left d.0 (desks_in e rows),
      d.2,
      desks_left log limits e rows there (λ i q at. each (suc i) q at),
    )

-- they are the environment's own, and each is at a thread that came under its number
pub left_own : (log : List Coming) (limits : Limits) (e : EnvNo) (l : List Newcomer) (desks : List FreeState) → ((i : ℕ) (n : Newcomer) → slice_get l i ≡ Some n → slice_get (came log) n.thread.0 ≡ Some n) → AreLeft log limits e l desks
    → All (λ f. IsOwn log limits e f) desks
left_own log limits e [] desks listed left = subst (λ (d : List FreeState). All (λ f. IsOwn log limits e f) d) (sym left) (All-nil (λ f. IsOwn log limits e f))
left_own log limits e (n ∷ l) desks listed left =
    subst (λ (d : List FreeState). All (λ f. IsOwn log limits e f) d) (sym left.2)
    (one left.0 (lies e n.thread log) left.1 left.3 (left_own log limits e l left.1 (λ i m at. listed (suc i) m at) left.4))
  where
    one : (d : Option FreeState) (x : Lies) (rest : List FreeState) → LiesAs x limits e n d → All (λ f. IsOwn log limits e f) rest → All (λ f. IsOwn log limits e f) (and_one d rest)
    one None x rest is all = all
    one (Some f) Unused rest is all =
        All-cons (λ g. IsOwn log limits e g) f rest (subst (λ (g : FreeState). IsOwn log limits e g) (sym (is_same f (new_desk limits e n) is)) (record { at = (n, listed 0 n refl, refl); env = refl; limits_are = refl; clean = record { former = refl; none_out = λ k. refl; no_word = λ h. refl } })) all
    one (Some f) Out rest is all = absurd (never is)
      where
        never : Some f ≡ None → ⊥
        never h = cc
    one (Some f) Returned rest is all =
        All-cons (λ g. IsOwn log limits e g) f rest
        (record {
          at = (n, ap (λ (s : Subject). slice_get (came log) s.thread.0) is.subject ∙ listed 0 n refl, sym is.cell);
          env = is.env;
          limits_are = ap (λ (s : Subject). s.limits) is.subject;
          clean = is.clean;
        }) all

-- a row that misses a desk gives none
missing : (log : List Coming) (limits : Limits) (e : EnvNo) (r : Row) → e.0 < limits.envs → IsRow log limits r → lies e r.newcomer.thread log ≡ Out → slice_get r.desks.items e.0 ≡ Some None
missing log limits e r there row out =
    let d = row.each e.0 there in d.1 ∙ ap (λ (x : Option FreeState). Some x) (subst (λ (l : Lies). LiesAs l limits e r.newcomer d.0) out d.2)

set_same : (l : List (Option FreeState)) (i : ℕ) (x : Option FreeState) → slice_get l i ≡ Some x → slice_set l i x ≡ l
set_same [] i x at = refl
set_same (y ∷ l) zero x at = ap (λ (z : Option FreeState). z ∷ l) (sym (is_same y x at))
set_same (y ∷ l) (suc i) x at = ap (λ (m : List (Option FreeState)). y ∷ m) (set_same l i x at)

-- so it is as if it was taken out
pub taken_before : (log : List Coming) (limits : Limits) (e : EnvNo) (r : Row) → e.0 < limits.envs → IsRow log limits r → lies e r.newcomer.thread log ≡ Out → IsTaken e r r
taken_before log limits e r there row out = record { newcomer = refl; stage = refl; desks = sym (set_same r.desks.items e.0 None (missing log limits e r there row out)) }

-- and the desks are in the rows behind those that miss theirs
pub desks_behind : (log : List Coming) (limits : Limits) (e : EnvNo) (rows : List Row) (start : ℕ) → e.0 < limits.envs → ((i : ℕ) (r : Row) → slice_get rows i ≡ Some r → IsRow log limits r)
    → ((i : ℕ) (r : Row) → i < start → slice_get rows i ≡ Some r → lies e r.newcomer.thread log ≡ Out) → desks_in e rows ≡ desks_in e (drop start rows)
desks_behind log limits e rows zero there each out = refl
desks_behind log limits e [] (suc start) there each out = refl
desks_behind log limits e (r ∷ rows) (suc start) there each out =
    ap (λ (x : Option (Option FreeState)). and_desk x (desks_in e rows)) (missing log limits e r there (each 0 r refl) (out 0 r (omega arith) refl))
    ∙ desks_behind log limits e rows start there (λ i q at. each (suc i) q at) (λ i q h at. out (suc i) q (omega (arith, h)) at)

-- the desks in a row and in those behind it
pub drop_step : (rows : List Row) (i n : ℕ) (r : Row) → n ≡ suc i → slice_get rows i ≡ Some r → drop i rows ≡ r ∷ drop n rows
drop_step [] i n r e at = absurd (nothing_at i r at)
drop_step (x ∷ rows) i zero r e at = absurd (omega (arith, e))
drop_step (x ∷ rows) zero (suc n) r e at =
    let none : n ≡ 0 = omega (arith, e) in
    ap (λ (y : Row). y ∷ rows) (is_same x r at) ∙ ap (λ (k : ℕ). r ∷ drop k rows) (sym none)
drop_step (x ∷ rows) (suc i) (suc n) r e at = drop_step rows i n r (omega (arith, e)) at

pub drop_past : (rows : List Row) (n : ℕ) → length rows ≤ n → drop n rows ≡ []
drop_past [] zero h = refl
drop_past [] (suc n) h = refl
drop_past (x ∷ rows) zero h = absurd (omega (arith, h))
drop_past (x ∷ rows) (suc n) h = drop_past rows n (omega (arith, h))

-- Threads that are there

or_true : (b : Bool) → (b || true) ≡ true
or_true true = refl
or_true false = refl

pub there_live : (l : List Newcomer) (t : ThreadNo) (i : ℕ) (n : Newcomer) → slice_get l i ≡ Some n → n.thread.0 ≡ t.0 → list_any (is_thread t) l ≡ true
there_live [] t i n at is = absurd (nothing_at i n at)
there_live (x ∷ l) t zero n at is =
    ap (λ (b : Bool). b || list_any (is_thread t) l) (eq-eqb x.thread.0 t.0 (ap (λ (y : Newcomer). y.thread.0) (is_same x n at) ∙ is))
there_live (x ∷ l) t (suc i) n at is = ap (λ (b : Bool). is_thread t x || b) (there_live l t i n at is) ∙ or_true (is_thread t x)

pub none_live : (rows : List Row) (t : ThreadNo) → ((j : ℕ) (r : Row) → slice_get rows j ≡ Some r → r.newcomer.thread.0 ≢ t.0) → list_any (is_thread t) (newcomers rows) ≡ false
none_live [] t other = refl
none_live (r ∷ rows) t other =
    ap (λ (b : Bool). b || list_any (is_thread t) (newcomers rows)) (ne_eqb r.newcomer.thread.0 t.0 (other 0 r refl)) ∙ none_live rows t (λ j q at. other (suc j) q at)

pub rows_count : (rows : List Row) (l : List Newcomer) → newcomers rows ≡ l → length rows ≡ length l
rows_count rows l e = sym (length_map (λ (r : Row). r.newcomer) rows) ∙ ap (λ (k : List Newcomer). length k) e

-- nothing has happened
rows_empty : (limits : Limits) → AreRows [] limits [] (replicate limits.envs None)
rows_empty limits = record {
  live_are = refl;
  unborn = λ t h. refl;
  each = λ i r at. absurd (nothing_at i r at);
  places = length-replicate limits.envs None;
  marks_are = λ p h. get_replicated limits.envs p None h;
  fresh = λ e t h. refl;
  passed = λ e m t is h. absurd (nothing_noted m is);
  listed = λ i n at. absurd (nothing_at i n at);
  rising = omega arith;
}
  where
    nothing_noted : (m : ℕ) → None ≡ Some m → ⊥
    nothing_noted m e = cc

pub rows_none : (log : List Coming) (limits : Limits) (rows : List Row) (marks : List (Option ℕ)) → log ≡ [] → rows ≡ [] → marks ≡ replicate limits.envs None → AreRows log limits rows marks
rows_none log limits rows marks none empty free = subst (λ (x : List Coming × List Row × List (Option ℕ)). AreRows x.0 limits x.1 x.2) (λ j. (sym none j, sym empty j, sym free j)) (rows_empty limits)
