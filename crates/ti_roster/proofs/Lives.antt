-- The events of threads' lives: which are kept, and one more.
use Rattle.std.proofs.Common.{◌≡◌, ◌≢◌, ◌==◌, ℕ, zero, suc, ◌+◌, ◌-◌, ◌<◌, ◌≤◌, List, [], ◌∷◌, ◌++◌, length, drop, Bool, true, false, true≢false, not, if◌then◌else◌, ◌⊎◌, inl, inr, ⊎_elim, eq-eqb, ne_eqb, Option, Some, refl, sym, ap, ◌∙◌, subst, arith, length-append, append_assoc}
use Rattle.std.specs.Prelude.{slice_get}
use Rattle.std.specs.List.{fold, filter}
use Rattle.std.proofs.lemmas.Bool.{cases_Bool, cases_eq}
use Rattle.std.proofs.lemmas.List.Sums.{fold-append}
use Rattle.ti_roster.specs.declared.coming.Coming.{Coming}
use Rattle.ti_roster.specs.declared.coming.Coming.TheVariants.{Came, Started, Ended, Left, Attached, Met, GaveBack, Disposed, Stop}
use Rattle.ti_roster.specs.declared.life_event.LifeEvent.{LifeEvent}
use Rattle.ti_roster.specs.declared.life_event.LifeKind.{LifeKind}
use Rattle.ti_roster.specs.declared.life_event.LifeKind.TheVariants.{ThreadAttached, ThreadStart, ThreadEnd, ThreadDetached}
use Rattle.ti_roster.specs.declared.stage.Stage.{Stage}
use Rattle.ti_roster.specs.declared.stage.Stage.TheVariants.{New, Alive, Over}
use Rattle.ti_roster.specs.Stages.{is_alive, is_new, stage_after, stage_of}
use Rattle.ti_stops.specs.declared.call.StopCall.{StopCall}
use Rattle.ti_types.specs.declared.numbers.EnvNo.{EnvNo}
use Rattle.ti_types.specs.declared.numbers.ThreadNo.{ThreadNo}
use Rattle.ti_roster.specs.declared.newcomer.Newcomer.{Newcomer}
use Rattle.ti_roster.specs.Events.{AreEvents, AreInOrder, AreLast, Has, HasReached, Lacks, event_of, life_after, life_of, most_kept, needs}
use Rattle.ti_roster.specs.Log.{is_other, live, live_after, threads_in}
use Rattle.ti_roster.specs.Rows.{IsIndex}
use Rattle.ti_roster.proofs.Logs.{live_more, stage_more, threads_attached, threads_back, threads_disposed, threads_ended, threads_left, threads_met, threads_more, threads_started, threads_stop}
use Rattle.ti_roster.proofs.Places.{get_end, get_front, get_last, get_within, is_same, nothing_at}

-- one more event, while there is room
pub last_more : (all kept : List LifeEvent) (e : LifeEvent) → AreLast all kept → length kept < most_kept → AreLast (all ++ e ∷ []) (kept ++ e ∷ [])
last_more all kept e l room =
    let n = ap (λ (x : List LifeEvent). length x) l.all_are ∙ length-append l.dropped kept in
    let more = length-append all (e ∷ []) in record {
      dropped = l.dropped;
      all_are = ap (λ (x : List LifeEvent). x ++ e ∷ []) l.all_are ∙ append_assoc l.dropped kept (e ∷ []);
      lost = omega (arith, n, more, l.lost, room);
    }

-- and while there is none: the first that was kept is lost
pub last_full : (all kept : List LifeEvent) (e : LifeEvent) → AreLast all kept → length kept ≡ most_kept → AreLast (all ++ e ∷ []) (drop 1 kept ++ e ∷ [])
last_full all [] e l full = absurd (omega (arith, full))
last_full all (x ∷ rest) e l full =
    let n = ap (λ (y : List LifeEvent). length y) l.all_are ∙ length-append l.dropped (x ∷ rest) in
    let more = length-append all (e ∷ []) in
    let longer = length-append l.dropped (x ∷ []) in record {
      dropped = l.dropped ++ x ∷ [];
      all_are =
          ap (λ (y : List LifeEvent). y ++ e ∷ []) (l.all_are ∙ sym (append_assoc l.dropped (x ∷ []) rest))
          ∙ append_assoc (l.dropped ++ x ∷ []) rest (e ∷ []);
      lost = omega (arith, n, more, longer, l.lost, full);
    }

-- at most so many are kept
pub last_few : (all kept : List LifeEvent) → AreLast all kept → length kept ≤ most_kept
last_few all kept l = let n = ap (λ (x : List LifeEvent). length x) l.all_are ∙ length-append l.dropped kept in omega (arith, n, l.lost)

pub last_first : (all kept : List LifeEvent) → AreLast all kept → length all - length kept ≡ length all - most_kept
last_first all kept l = let n = ap (λ (x : List LifeEvent). length x) l.all_are ∙ length-append l.dropped kept in omega (arith, n, l.lost)

behind : (front l : List LifeEvent) (i : ℕ) → slice_get (front ++ l) (length front + i) ≡ slice_get l i
behind [] l i = let e : length {A = LifeEvent} [] + i ≡ i = omega arith in ap (λ (k : ℕ). slice_get l k) e
behind (x ∷ front) l i = let e : length (x ∷ front) + i ≡ suc (length front + i) = omega arith in ap (λ (k : ℕ). slice_get ((x ∷ front) ++ l) k) e ∙ behind front l i

-- an event that is kept, by its index among those that are
pub last_at : (all kept : List LifeEvent) (i j : ℕ) → AreLast all kept → i ≡ length all - most_kept + j → slice_get all i ≡ slice_get kept j
last_at all kept i j l is =
    let at : i ≡ length l.dropped + j = omega (arith, is, l.lost) in
    ap (λ (x : List LifeEvent). slice_get x i) l.all_are ∙ (ap (λ (k : ℕ). slice_get (l.dropped ++ kept) k) at ∙ behind l.dropped kept j)

-- one more coming or going

pub life_more : (xs : List Coming) (x : Coming) → life_of (xs ++ x ∷ []) ≡ life_after (life_of xs) x
life_more xs x = fold-append life_after [] xs (x ∷ [])

-- there are no more events than comings and goings
few_from : (l : List LifeEvent) (xs : List Coming) → length (fold life_after l xs) ≤ length l + length xs
few_from l [] = omega arith
few_from l (Came n ∷ xs) = let z = few_from (life_after l (Came n)) xs in let e = length-append l (event_of ThreadAttached n.thread ∷ []) in omega (arith, z, e)
few_from l (Started t ∷ xs) = let z = few_from (life_after l (Started t)) xs in let e = length-append l (event_of ThreadStart t ∷ []) in omega (arith, z, e)
few_from l (Ended t ∷ xs) = let z = few_from (life_after l (Ended t)) xs in let e = length-append l (event_of ThreadEnd t ∷ []) in omega (arith, z, e)
few_from l (Left t ∷ xs) = let z = few_from (life_after l (Left t)) xs in let e = length-append l (event_of ThreadDetached t ∷ []) in omega (arith, z, e)
few_from l (Attached e ∷ xs) = let z = few_from l xs in omega (arith, z)
few_from l (Met e m ∷ xs) = let z = few_from l xs in omega (arith, z)
few_from l (GaveBack e t ∷ xs) = let z = few_from l xs in omega (arith, z)
few_from l (Disposed e ∷ xs) = let z = few_from l xs in omega (arith, z)
few_from l (Stop o call ∷ xs) = let z = few_from l xs in omega (arith, z)

pub life_few : (xs : List Coming) → length (life_of xs) ≤ length xs
life_few xs = let z = few_from [] xs in omega (arith, z)

-- the order of the events

at_end : (l : List LifeEvent) (x y : LifeEvent) (i : ℕ) → slice_get (l ++ x ∷ []) i ≡ Some y → (slice_get l i ≡ Some y) ⊎ ((i ≡ length l) × (x ≡ y))
at_end [] x y zero e = inr (refl, is_same x y e)
at_end [] x y (suc i) e = absurd (nothing_at i y e)
at_end (z ∷ l) x y zero e = inl e
at_end (z ∷ l) x y (suc i) e = ⊎_elim (λ h. inl h) (λ h. inr (omega (arith, h.0), h.1)) (at_end l x y i e)

still : (l more : List LifeEvent) (i : ℕ) (y : LifeEvent) → slice_get l i ≡ Some y → slice_get (l ++ more) i ≡ Some y
still l more i y at = get_front l more i (get_within l i y at) ∙ at

has_still : (l more : List LifeEvent) (t : ThreadNo) (k : LifeKind) → Has l t k → Has (l ++ more) t k
has_still l more t k h = (h.0, still l more h.0 (event_of k t) h.1)

has_new : (l : List LifeEvent) (t : ThreadNo) (k : LifeKind) → Has (l ++ event_of k t ∷ []) t k
has_new l t k = (length l, get_last l (event_of k t) (length l) refl)

same_kind : (k n : LifeKind) (t u : ThreadNo) → event_of k t ≡ event_of n u → k ≡ n
same_kind k n t u e = ap (λ (x : LifeEvent). x.kind) e

same_thread : (k n : LifeKind) (t u : ThreadNo) → event_of k t ≡ event_of n u → t ≡ u
same_thread k n t u e = ap (λ (x : LifeEvent). x.thread) e

thread_number : (e f : LifeEvent) → e ≡ f → e.thread.0 ≡ f.thread.0
thread_number e f same = ap (λ (x : LifeEvent). x.thread.0) same

-- an event of another kind, or of another thread, adds none that is missing
lacks_kind : (l : List LifeEvent) (t u : ThreadNo) (k n : LifeKind) → (k ≡ n → ⊥) → Lacks l u n → Lacks (l ++ event_of k t ∷ []) u n
lacks_kind l t u k n other lacks i a =
    ⊎_elim (λ (g : slice_get l i ≡ Some (event_of n u)). lacks i g) (λ (g : (i ≡ length l) × (event_of k t ≡ event_of n u)). other (same_kind k n t u g.1)) (at_end l (event_of k t) (event_of n u) i a)

lacks_other : (l : List LifeEvent) (t u : ThreadNo) (k n : LifeKind) → t.0 ≢ u.0 → Lacks l u n → Lacks (l ++ event_of k t ∷ []) u n
lacks_other l t u k n other lacks i a =
    ⊎_elim (λ (g : slice_get l i ≡ Some (event_of n u)). lacks i g) (λ (g : (i ≡ length l) × (event_of k t ≡ event_of n u)). other (thread_number (event_of k t) (event_of n u) g.1)) (at_end l (event_of k t) (event_of n u) i a)

in_order_more : (l : List LifeEvent) (k : LifeKind) (t : ThreadNo) → AreInOrder l → Lacks l t k → Lacks l t ThreadDetached → ((n : LifeKind) → needs k ≡ Some n → Has l t n) → (k ≡ ThreadDetached → Has l t ThreadStart → Has l t ThreadEnd)
    → AreInOrder (l ++ event_of k t ∷ [])
in_order_more l k t o fresh here first done = record {
  once = λ i j e a b. ⊎_elim
      (λ (h : slice_get l i ≡ Some e). ⊎_elim
      (λ (g : slice_get l j ≡ Some e). o.once i j e h g)
      (λ (g : (j ≡ length l) × (x ≡ e)). absurd (fresh i (h ∙ ap (λ (y : LifeEvent). Some y) (sym g.1))))
      (at_end l x e j b))
      (λ (h : (i ≡ length l) × (x ≡ e)). ⊎_elim
      (λ (g : slice_get l j ≡ Some e). absurd (fresh j (g ∙ ap (λ (y : LifeEvent). Some y) (sym h.1))))
      (λ (g : (j ≡ length l) × (x ≡ e)). h.0 ∙ sym g.0)
      (at_end l x e j b))
      (at_end l x e i a);
  after = λ j u m n a is. ⊎_elim
      (λ (h : slice_get l j ≡ Some (event_of m u)). let s : (i : ℕ) × (i < j) × (slice_get l i ≡ Some (event_of n u)) = o.after j u m n h is in (s.0, s.1, still l (x ∷ []) s.0 (event_of n u) s.2))
      (λ (h : (j ≡ length l) × (x ≡ event_of m u)).
      let s : Has l u n = subst (λ (v : ThreadNo). Has l v n) (same_thread k m t u h.1) (first n (ap needs (same_kind k m t u h.1) ∙ is)) in
      (s.0, omega (arith, h.0, get_within l s.0 (event_of n u) s.1), still l (x ∷ []) s.0 (event_of n u) s.1))
      (at_end l x (event_of m u) j a);
  last = λ i j u m a b. ⊎_elim
      (λ (h : slice_get l j ≡ Some (event_of ThreadDetached u)). ⊎_elim
      (λ (g : slice_get l i ≡ Some (event_of m u)). o.last i j u m h g)
      (λ (g : (i ≡ length l) × (x ≡ event_of m u)). absurd (here_of u (same_thread k m t u g.1) j h))
      (at_end l x (event_of m u) i b))
      (λ (h : (j ≡ length l) × (x ≡ event_of ThreadDetached u)). let w = get_within (l ++ x ∷ []) i (event_of m u) b in omega (arith, h.0, w, length-append l (x ∷ [])))
      (at_end l x (event_of ThreadDetached u) j a);
  ended = λ j u a s. ⊎_elim
      (λ (h : slice_get l j ≡ Some (event_of ThreadDetached u)). ⊎_elim
      (λ (g : slice_get l s.0 ≡ Some (event_of ThreadStart u)). has_still l (x ∷ []) u ThreadEnd (o.ended j u h (s.0, g)))
      (λ (g : (s.0 ≡ length l) × (x ≡ event_of ThreadStart u)). absurd (here_of u (same_thread k ThreadStart t u g.1) j h))
      (at_end l x (event_of ThreadStart u) s.0 s.1))
      (λ (h : (j ≡ length l) × (x ≡ event_of ThreadDetached u)). ⊎_elim
      (λ (g : slice_get l s.0 ≡ Some (event_of ThreadStart u)).
      let who : u ≡ t = sym (same_thread k ThreadDetached t u h.1) in
      has_still l (x ∷ []) u ThreadEnd (subst (λ (v : ThreadNo). Has l v ThreadEnd) (sym who) (done (same_kind k ThreadDetached t u h.1) (subst (λ (v : ThreadNo). Has l v ThreadStart) who (s.0, g)))))
      (λ (g : (s.0 ≡ length l) × (x ≡ event_of ThreadStart u)). absurd (not_both (sym (same_kind k ThreadDetached t u h.1) ∙ same_kind k ThreadStart t u g.1)))
      (at_end l x (event_of ThreadStart u) s.0 s.1))
      (at_end l x (event_of ThreadDetached u) j a);
}
  where
    x : LifeEvent
    x = event_of k t

    here_of : (u : ThreadNo) → t ≡ u → Lacks l u ThreadDetached
    here_of u is = subst (λ (v : ThreadNo). Lacks l v ThreadDetached) is here

    not_both : ThreadDetached ≡ ThreadStart → ⊥
    not_both h = cc

-- How far a thread has come

new_is : (s : Stage) → is_new s ≡ true → s ≡ New
new_is New h = refl
new_is Alive h = cc
new_is Over h = cc

alive_is : (s : Stage) → is_alive s ≡ true → s ≡ Alive
alive_is New h = cc
alive_is Alive h = refl
alive_is Over h = cc

attached_in : (l : List LifeEvent) (t : ThreadNo) (s : Stage) → HasReached l t s → Has l t ThreadAttached
attached_in l t New r = r.attached
attached_in l t Alive r = r.attached
attached_in l t Over r = r.attached

here_in : (l : List LifeEvent) (t : ThreadNo) (s : Stage) → HasReached l t s → Lacks l t ThreadDetached
here_in l t New r = r.here
here_in l t Alive r = r.here
here_in l t Over r = r.here

-- one that is not alive, and has started, has ended
ended_in : (l : List LifeEvent) (t : ThreadNo) (s : Stage) → is_alive s ≡ false → HasReached l t s → Has l t ThreadStart → Has l t ThreadEnd
ended_in l t New dead r h = absurd (r.started h.0 h.1)
ended_in l t Alive dead r h = cc
ended_in l t Over dead r h = r.ended

-- another thread's event changes nothing
reached_other : (l : List LifeEvent) (t u : ThreadNo) (k : LifeKind) (s : Stage) → t.0 ≢ u.0 → HasReached l u s → HasReached (l ++ event_of k t ∷ []) u s
reached_other l t u k New other r = record {
  attached = has_still l (event_of k t ∷ []) u ThreadAttached r.attached;
  started = lacks_other l t u k ThreadStart other r.started;
  ended = lacks_other l t u k ThreadEnd other r.ended;
  here = lacks_other l t u k ThreadDetached other r.here;
}
reached_other l t u k Alive other r = record {
  attached = has_still l (event_of k t ∷ []) u ThreadAttached r.attached;
  started = has_still l (event_of k t ∷ []) u ThreadStart r.started;
  ended = lacks_other l t u k ThreadEnd other r.ended;
  here = lacks_other l t u k ThreadDetached other r.here;
}
reached_other l t u k Over other r = record {
  attached = has_still l (event_of k t ∷ []) u ThreadAttached r.attached;
  started = has_still l (event_of k t ∷ []) u ThreadStart r.started;
  ended = has_still l (event_of k t ∷ []) u ThreadEnd r.ended;
  here = lacks_other l t u k ThreadDetached other r.here;
}

is_other_thread : (t : ThreadNo) (n : Newcomer) → is_other t n ≡ true → t.0 ≢ n.thread.0
is_other_thread t n other same = true≢false (sym other ∙ ap (λ (b : Bool). not b) (eq-eqb n.thread.0 t.0 (sym same)))

-- the events after one more, of a thread that came
numbered_more : (log log' : List Coming) (k : LifeKind) (t : ThreadNo) → life_of log' ≡ life_of log ++ event_of k t ∷ [] → ((i : ℕ) (e : LifeEvent) → slice_get (life_of log) i ≡ Some e → e.thread.0 < threads_in log) → threads_in log ≤ threads_in log' → t.0 < threads_in log'
    → (i : ℕ) (e : LifeEvent) → slice_get (life_of log') i ≡ Some e → e.thread.0 < threads_in log'
numbered_more log log' k t life old grows low i e at = ⊎_elim
    (λ (h : slice_get (life_of log) i ≡ Some e). let b = old i e h in omega (arith, b, grows))
    (λ (h : (i ≡ length (life_of log)) × (event_of k t ≡ e)). let s = thread_number (event_of k t) e h.1 in omega (arith, s, low))
    (at_end (life_of log) (event_of k t) e i (ap (λ (y : List LifeEvent). slice_get y i) (sym life) ∙ at))

abbrev Reached : ThreadNo → List LifeEvent × Stage → Type 0
Reached t z = HasReached z.0 t z.1

-- a thread came
pub events_came : (log : List Coming) (events : List LifeEvent) (n : Newcomer) → n.thread.0 ≡ threads_in log → stage_of n.thread log ≡ New → AreEvents log events → AreEvents (log ++ Came n ∷ []) (events ++ event_of ThreadAttached n.thread ∷ [])
events_came log events n number unborn a =
    let l : List LifeEvent = life_of log in
    let x : LifeEvent = event_of ThreadAttached n.thread in
    let log' : List Coming = log ++ Came n ∷ [] in
    let life : life_of log' ≡ l ++ x ∷ [] = life_more log (Came n) in
    let fresh : (k : LifeKind) → Lacks l n.thread k = λ k i at. let h = a.numbered i (event_of k n.thread) at in omega (arith, h, number) in
    let more : threads_in log' ≡ suc (threads_in log) = threads_more log n in record {
      events_are = ap (λ (y : List LifeEvent). y ++ x ∷ []) a.events_are ∙ sym life;
      in_order = subst AreInOrder (sym life) (in_order_more l ThreadAttached n.thread a.in_order (fresh ThreadAttached) (fresh ThreadDetached) (λ m is. absurd (no_need m is)) (λ is. absurd (not_left is)));
      numbered = numbered_more log log' ThreadAttached n.thread life a.numbered (omega (arith, more)) (omega (arith, more, number));
      reached = λ i m at. subst (Reached m.thread) (λ j. (sym life j, sym (stage_more m.thread log (Came n)) j)) (⊎_elim
          (λ (h : slice_get (live log) i ≡ Some m).
          let r : HasReached l m.thread (stage_of m.thread log) = a.reached i m h in
          let c : Has l m.thread ThreadAttached = attached_in l m.thread (stage_of m.thread log) r in
          reached_other l n.thread m.thread ThreadAttached (stage_of m.thread log) (λ same. let b = a.numbered c.0 (event_of ThreadAttached m.thread) c.1 in omega (arith, b, same, number)) r)
          (λ (h : n ≡ m). subst (λ (y : Newcomer). HasReached (l ++ x ∷ []) y.thread (stage_of y.thread log)) h (subst (λ (s : Stage). HasReached (l ++ x ∷ []) n.thread s) (sym unborn) (record {
            attached = has_new l n.thread ThreadAttached;
            started = lacks_kind l n.thread n.thread ThreadAttached ThreadStart not_start (fresh ThreadStart);
            ended = lacks_kind l n.thread n.thread ThreadAttached ThreadEnd not_end (fresh ThreadEnd);
            here = lacks_kind l n.thread n.thread ThreadAttached ThreadDetached not_left (fresh ThreadDetached);
          })))
          (get_end (live log) n m i (ap (λ (y : List Newcomer). slice_get y i) (sym (live_more log (Came n))) ∙ at)));
    }
  where
    no_need : (m : LifeKind) → needs ThreadAttached ≡ Some m → ⊥
    no_need m h = cc

    not_start : ThreadAttached ≡ ThreadStart → ⊥
    not_start h = cc

    not_end : ThreadAttached ≡ ThreadEnd → ⊥
    not_end h = cc

    not_left : ThreadAttached ≡ ThreadDetached → ⊥
    not_left h = cc

-- how far the thread of an index has come
reached_at : (log : List Coming) (events : List LifeEvent) (t : ThreadNo) (i : ℕ) → IsIndex (live log) t i → AreEvents log events → HasReached (life_of log) t (stage_of t log)
reached_at log events t i at a =
    subst (λ (u : ThreadNo). HasReached (life_of log) u (stage_of u log)) (ap (λ (j : ℕ). record { 0 = j }) at.is) (a.reached i at.one at.at)

came_low : (log : List Coming) (events : List LifeEvent) (t : ThreadNo) → Has (life_of log) t ThreadAttached → AreEvents log events → t.0 < threads_in log
came_low log events t h a = a.numbered h.0 (event_of ThreadAttached t) h.1

some_kind : (k n : LifeKind) → Some k ≡ Some n → k ≡ n
some_kind k n h = is_same k n h

-- a thread that is there has come further
events_reach : (log : List Coming) (events : List LifeEvent) (x : Coming) (t : ThreadNo) (k : LifeKind) (s : Stage) → life_after (life_of log) x ≡ life_of log ++ event_of k t ∷ [] → live_after (live log) x ≡ live log → threads_in (log ++ x ∷ []) ≡ threads_in log
    → ((u : ThreadNo) → stage_after u (stage_of u log) x ≡ (if t.0 == u.0 then s else stage_of u log)) → t.0 < threads_in log → AreInOrder (life_of log ++ event_of k t ∷ []) → HasReached (life_of log ++ event_of k t ∷ []) t s
    → AreEvents log events → AreEvents (log ++ x ∷ []) (events ++ event_of k t ∷ [])
events_reach log events x t k s life_is there number stages low order now a =
    let l : List LifeEvent = life_of log in
    let log' : List Coming = log ++ x ∷ [] in
    let life : life_of log' ≡ l ++ event_of k t ∷ [] = life_more log x ∙ life_is in
    let live' : live log' ≡ live log = live_more log x ∙ there in record {
      events_are = ap (λ (y : List LifeEvent). y ++ event_of k t ∷ []) a.events_are ∙ sym life;
      in_order = subst AreInOrder (sym life) order;
      numbered = numbered_more log log' k t life a.numbered (omega (arith, number)) (omega (arith, number, low));
      reached = λ i m at.
          let r : HasReached l m.thread (stage_of m.thread log) = a.reached i m (ap (λ (y : List Newcomer). slice_get y i) (sym live') ∙ at) in
          let stage : stage_of m.thread log' ≡ (if t.0 == m.thread.0 then s else stage_of m.thread log) = stage_more m.thread log x ∙ stages m.thread in
          elim (cases_eq t.0 m.thread.0) [
            | inl same ↦
                let now_is : stage_of m.thread log' ≡ s = stage ∙ ap (λ (b : Bool). if b then s else stage_of m.thread log) (eq-eqb t.0 m.thread.0 same) in
                let who : t ≡ m.thread = ap (λ (j : ℕ). record { 0 = j }) same in
                subst (Reached m.thread) (λ j. (sym life j, sym now_is j)) (subst (λ (u : ThreadNo). HasReached (l ++ event_of k t ∷ []) u s) who now)
            | inr other ↦
                let now_is : stage_of m.thread log' ≡ stage_of m.thread log = stage ∙ ap (λ (b : Bool). if b then s else stage_of m.thread log) (ne_eqb t.0 m.thread.0 other) in
                subst (Reached m.thread) (λ j. (sym life j, sym now_is j)) (reached_other l t m.thread k (stage_of m.thread log) other r)
          ];
    }

pub events_started : (log : List Coming) (events : List LifeEvent) (t : ThreadNo) (i : ℕ) → IsIndex (live log) t i → is_new (stage_of t log) ≡ true → AreEvents log events → AreEvents (log ++ Started t ∷ []) (events ++ event_of ThreadStart t ∷ [])
events_started log events t i at new a =
    let l : List LifeEvent = life_of log in
    let r : HasReached l t New = subst (λ (s : Stage). HasReached l t s) (new_is (stage_of t log) new) (reached_at log events t i at a) in
    events_reach log events (Started t) t ThreadStart Alive refl refl (threads_started log t) (λ u. refl) (came_low log events t r.attached a)
    (in_order_more l ThreadStart t a.in_order r.started r.here (λ n is. subst (λ (k : LifeKind). Has l t k) (some_kind ThreadAttached n is) r.attached) (λ is. absurd (not_left is)))
    (record {
      attached = has_still l (event_of ThreadStart t ∷ []) t ThreadAttached r.attached;
      started = has_new l t ThreadStart;
      ended = lacks_kind l t t ThreadStart ThreadEnd not_end r.ended;
      here = lacks_kind l t t ThreadStart ThreadDetached not_left r.here;
    }) a
  where
    not_end : ThreadStart ≡ ThreadEnd → ⊥
    not_end h = cc

    not_left : ThreadStart ≡ ThreadDetached → ⊥
    not_left h = cc

pub events_ended : (log : List Coming) (events : List LifeEvent) (t : ThreadNo) (i : ℕ) → IsIndex (live log) t i → is_alive (stage_of t log) ≡ true → AreEvents log events → AreEvents (log ++ Ended t ∷ []) (events ++ event_of ThreadEnd t ∷ [])
events_ended log events t i at alive a =
    let l : List LifeEvent = life_of log in
    let r : HasReached l t Alive = subst (λ (s : Stage). HasReached l t s) (alive_is (stage_of t log) alive) (reached_at log events t i at a) in
    events_reach log events (Ended t) t ThreadEnd Over refl refl (threads_ended log t) (λ u. refl) (came_low log events t r.attached a)
    (in_order_more l ThreadEnd t a.in_order r.ended r.here (λ n is. subst (λ (k : LifeKind). Has l t k) (some_kind ThreadStart n is) r.started) (λ is. absurd (not_left is)))
    (record {
      attached = has_still l (event_of ThreadEnd t ∷ []) t ThreadAttached r.attached;
      started = has_still l (event_of ThreadEnd t ∷ []) t ThreadStart r.started;
      ended = has_new l t ThreadEnd;
      here = lacks_kind l t t ThreadEnd ThreadDetached not_left r.here;
    }) a
  where
    not_left : ThreadEnd ≡ ThreadDetached → ⊥
    not_left h = cc

get_filter : (p : Newcomer → Bool) (l : List Newcomer) (i : ℕ) (n : Newcomer) → slice_get (filter p l) i ≡ Some n → (j : ℕ) × (slice_get l j ≡ Some n) × (p n ≡ true)
get_filter p [] i n at = absurd (nothing_at i n at)
get_filter p (x ∷ l) i n at =
    elim (cases_Bool (p x)) [
      | inl yes' ↦
          let kept : filter p (x ∷ l) ≡ x ∷ filter p l = grind (arith, yes') in
          first (λ k e. get_filter p l k n e) i (ap (λ (y : List Newcomer). slice_get y i) (sym kept) ∙ at) yes'
      | inr no' ↦
          let kept : filter p (x ∷ l) ≡ filter p l = grind (arith, no') in
          let z : (j : ℕ) × (slice_get l j ≡ Some n) × (p n ≡ true) = get_filter p l i n (ap (λ (y : List Newcomer). slice_get y i) (sym kept) ∙ at) in
          (suc z.0, z.1, z.2)
    ]
  where
    first : ((k : ℕ) → slice_get (filter p l) k ≡ Some n → (j : ℕ) × (slice_get l j ≡ Some n) × (p n ≡ true)) → (k : ℕ) → slice_get (x ∷ filter p l) k ≡ Some n → p x ≡ true → (j : ℕ) × (slice_get (x ∷ l) j ≡ Some n) × (p n ≡ true)
    first later zero e true_at = (zero, e, ap p (sym (is_same x n e)) ∙ true_at)
    first later (suc k) e true_at = let z : (j : ℕ) × (slice_get l j ≡ Some n) × (p n ≡ true) = later k e in (suc z.0, z.1, z.2)

-- a thread that is there, and is not alive, was given back
pub events_left : (log : List Coming) (events : List LifeEvent) (t : ThreadNo) (i : ℕ) → IsIndex (live log) t i → is_alive (stage_of t log) ≡ false → AreEvents log events → AreEvents (log ++ Left t ∷ []) (events ++ event_of ThreadDetached t ∷ [])
events_left log events t i at dead a =
    let l : List LifeEvent = life_of log in
    let x : LifeEvent = event_of ThreadDetached t in
    let log' : List Coming = log ++ Left t ∷ [] in
    let life : life_of log' ≡ l ++ x ∷ [] = life_more log (Left t) in
    let number : threads_in log' ≡ threads_in log = threads_left log t in
    let s : Stage = stage_of t log in
    let r : HasReached l t s = reached_at log events t i at a in
    let here : Lacks l t ThreadDetached = here_in l t s r in
    let low : t.0 < threads_in log = came_low log events t (attached_in l t s r) a in record {
      events_are = ap (λ (y : List LifeEvent). y ++ x ∷ []) a.events_are ∙ sym life;
      in_order = subst AreInOrder (sym life) (in_order_more l ThreadDetached t a.in_order here here (λ n is. subst (λ (k : LifeKind). Has l t k) (some_kind ThreadAttached n is) (attached_in l t s r)) (λ _ started. ended_in l t s dead r started));
      numbered = numbered_more log log' ThreadDetached t life a.numbered (omega (arith, number)) (omega (arith, number, low));
      reached = λ j m g.
          let there : (k : ℕ) × (slice_get (live log) k ≡ Some m) × (is_other t m ≡ true) = get_filter (is_other t) (live log) j m (ap (λ (y : List Newcomer). slice_get y j) (sym (live_more log (Left t))) ∙ g) in
          subst (Reached m.thread) (λ j. (sym life j, sym (stage_more m.thread log (Left t)) j))
          (reached_other l t m.thread ThreadDetached (stage_of m.thread log) (is_other_thread t m there.2) (a.reached there.0 m there.1));
    }

-- something else happened
events_same : (log : List Coming) (events : List LifeEvent) (x : Coming) → life_after (life_of log) x ≡ life_of log → live_after (live log) x ≡ live log → threads_in (log ++ x ∷ []) ≡ threads_in log → ((t : ThreadNo) → stage_after t (stage_of t log) x ≡ stage_of t log)
    → AreEvents log events → AreEvents (log ++ x ∷ []) events
events_same log events x life there number stages a =
    let life' : life_of (log ++ x ∷ []) ≡ life_of log = life_more log x ∙ life in
    let live' : live (log ++ x ∷ []) ≡ live log = live_more log x ∙ there in record {
      events_are = a.events_are ∙ sym life';
      in_order = subst AreInOrder (sym life') a.in_order;
      numbered = λ i e at. let b = a.numbered i e (ap (λ (y : List LifeEvent). slice_get y i) (sym life') ∙ at) in omega (arith, b, number);
      reached = λ i n at. subst (Reached n.thread) (λ j. (sym life' j, sym (stage_more n.thread log x ∙ stages n.thread) j)) (a.reached i n (ap (λ (y : List Newcomer). slice_get y i) (sym live') ∙ at));
    }

pub events_attached : (log : List Coming) (events : List LifeEvent) (e : EnvNo) → AreEvents log events → AreEvents (log ++ Attached e ∷ []) events
events_attached log events e a = events_same log events (Attached e) refl refl (threads_attached log e) (λ u. refl) a

pub events_met : (log : List Coming) (events : List LifeEvent) (e : EnvNo) (m : ℕ) → AreEvents log events → AreEvents (log ++ Met e m ∷ []) events
events_met log events e m a = events_same log events (Met e m) refl refl (threads_met log e m) (λ u. refl) a

pub events_back : (log : List Coming) (events : List LifeEvent) (e : EnvNo) (t : ThreadNo) → AreEvents log events → AreEvents (log ++ GaveBack e t ∷ []) events
events_back log events e t a = events_same log events (GaveBack e t) refl refl (threads_back log e t) (λ u. refl) a

pub events_disposed : (log : List Coming) (events : List LifeEvent) (e : EnvNo) → AreEvents log events → AreEvents (log ++ Disposed e ∷ []) events
events_disposed log events e a = events_same log events (Disposed e) refl refl (threads_disposed log e) (λ u. refl) a

pub events_stop : (log : List Coming) (events : List LifeEvent) (o : Option EnvNo) (call : StopCall) → AreEvents log events → AreEvents (log ++ Stop o call ∷ []) events
events_stop log events o call a = events_same log events (Stop o call) refl refl (threads_stop log o call) (λ u. refl) a

-- nothing has happened
events_empty : AreEvents [] []
events_empty = record {
  events_are = refl;
  in_order = record {
    once = λ i j e a b. absurd (nothing_at i e a);
    after = λ j t k n a is. absurd (nothing_at j (event_of k t) a);
    last = λ i j t k a b. absurd (nothing_at j (event_of ThreadDetached t) a);
    ended = λ j t a s. absurd (nothing_at j (event_of ThreadDetached t) a);
  };
  numbered = λ i e a. absurd (nothing_at i e a);
  reached = λ i n a. absurd (nothing_at i n a);
}

pub events_none : (log : List Coming) (events : List LifeEvent) → log ≡ [] → events ≡ [] → AreEvents log events
events_none log events none empty = subst (λ (x : List Coming × List LifeEvent). AreEvents x.0 x.1) (λ j. (sym none j, sym empty j)) events_empty
