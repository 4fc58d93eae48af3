-- A trace of several threads stays at work.
use Rattle.std.proofs.Common.{◌≡◌, ◌⊎◌, ℕ, zero, suc, ◌<◌, ◌≤◌, true, false, inl, inr, List, [], ◌∷◌, ◌++◌, length, ap, sym, ◌∙◌, arith, subst, Some}
use Rattle.std.specs.Prelude.{if◌then◌else◌, slice_index_or, slice_set}
use Rattle.std.specs.List.{filter}
use Rattle.std.proofs.lemmas.Bool.Decides.{nat_tests}
use Rattle.ti_types.specs.declared.answer.Answer.{Answer}
use Rattle.ti_types.specs.declared.entry.Entry.TheVariants.{Stop, Read, Go}
use Rattle.ti_types.specs.declared.error.TiError.{TiError}
use Rattle.ti_types.specs.declared.limits.Limits.{Limits}
use Rattle.ti_types.specs.declared.numbers.EnvNo.{EnvNo}
use Rattle.ti_types.specs.declared.numbers.ThreadNo.{ThreadNo}
use Rattle.ti_types.specs.Numbers.{or_zero}
use Rattle.ti_types.specs.declared.stack.StackInfo.{StackInfo}
use Rattle.ti_types.specs.Frames as buffer
use Rattle.ti_env.specs.Env.{EnvValue, left_at, spent_at, with_spent}
use Rattle.ti_replay.specs.Fronts.{stops_by}
use Rattle.ti_replay.specs.Legal.{calls_spent}
use Rattle.ti_replay.specs.Standing.{is_standing}
use Rattle.ti_handshake.specs.Desk.{DeskState}
use Rattle.ti_slot.specs.Waiting.{HasRoomFor}
use Rattle.ti_vmop.specs.Turns.{Listed, is_listed, HasAdded, IsRead, MayRead}
use Rattle.ti_vmop.specs.Tries.{HasLooked, IsBusy}
use Rattle.ti_vmop.proofs.Each.{at_index, each_all, may_reach, may_spend, there_at}
use Rattle.ti_agent.specs.Env.{IsWhole}
use Rattle.ti_agent.specs.Gathering.{Gathered, Gathers, GivesUp, IsAt, IsAtWork, IsStopping, IsSeeing, IsReading, IsLettingGo, IsGivingUp, is_given_up, is_over}
use Rattle.ti_agent.specs.Traces.{is_alive, told_info, told_stack}
use Rattle.ti_agent.specs.declared.gathering.Phase.{Phase}
use Rattle.ti_agent.specs.declared.gathering.Phase.TheVariants as phase
use Rattle.ti_agent.proofs.Tracing.{may_read, roomy_last, whole_after_go}
use Rattle.ti_agent.proofs.StepByStep.{come, distinct_of, given_up_stopping, go_again_done, go_done, let_go, may_stop_next, none, read_done, reads_left, reads_listed, reads_over, reads_there, see_done, see_looked, sees_over, set_back, stands_next, stop_done, stop_looked, stops_next, stops_over, there_of, whole_let_go, with_read, nowhere}

pub element : (l : Listed) (n : ℕ) (x : ThreadNo × ℕ) → n < length l → x ≡ slice_index_or l n x → slice_index_or l n none ≡ x
element [] n x h e = absurd (omega (arith, h))
element (y ∷ l) zero x h e = sym e
element (y ∷ l) (suc n) x h e = element l n x (omega (arith, h)) e

-- Where it is

pub is_stopping : (g : Gathered) (w : IsAtWork g) (n : ℕ) → g.phase ≡ phase.Stopping n → IsStopping w.start g n
is_stopping g w n is = subst (λ (p : Phase). IsAt p w.start g) is w.at

pub is_seeing : (g : Gathered) (w : IsAtWork g) (n : ℕ) → g.phase ≡ phase.Seeing n → IsSeeing w.start g n
is_seeing g w n is = subst (λ (p : Phase). IsAt p w.start g) is w.at

is_reading : (g : Gathered) (w : IsAtWork g) → g.phase ≡ phase.Reading → IsReading w.start g
is_reading g w is = subst (λ (p : Phase). IsAt p w.start g) is w.at

pub is_letting_go : (g : Gathered) (w : IsAtWork g) (n : ℕ) → g.phase ≡ phase.LettingGo n → IsLettingGo w.start g n
is_letting_go g w n is = subst (λ (p : Phase). IsAt p w.start g) is w.at

pub is_giving_up : (g : Gathered) (w : IsAtWork g) (k n : ℕ) → g.phase ≡ phase.GivingUp k n → IsGivingUp w.start g k n
is_giving_up g w k n is = subst (λ (p : Phase). IsAt p w.start g) is w.at

-- a trace at work, at another point
moved : (g : Gathered) (w : IsAtWork g) (z : EnvValue) (ds : List DeskState) (p : Phase) → IsAt p w.start (come g z ds p) → IsAtWork (come g z ds p)
moved g w z ds p at = record { start = w.start; began_is = w.began_is; whole = w.whole; asked = w.asked; at = at }

-- the desk at the next thread
next_desk : (g : Gathered) (n : ℕ) (x : ThreadNo × ℕ) (p : DeskState) → n < length g.stopping → x ≡ slice_index_or g.stopping n x → p ≡ slice_index_or g.now.desks x.0.0 p → slice_index_or g.now.desks (slice_index_or g.stopping n none).0.0 p ≡ p
next_desk g n x p within ex ep = ap (λ (y : ThreadNo × ℕ). slice_index_or g.now.desks y.0.0 p) (element g.stopping n x within ex) ∙ sym ep

-- a desk that stays as it was
pub stays : (g : Gathered) (w : IsAtWork g) (t : ℕ) (p q : DeskState) → p ≡ slice_index_or g.now.desks t p → q ≡ p → IsAtWork (come g g.now.state (slice_set g.now.desks t q) g.phase)
stays g w t p q ep same = subst (λ (ds : List DeskState). IsAtWork (come g g.now.state ds g.phase)) (sym (set_back g.now.desks t p q (same ∙ ep))) w

-- what a step that was barred leaves
pub barred : {A B : Type 0} → (p q : DeskState) (e : TiError) → IsBusy p q e ⊎ (A × HasAdded p q [] × B) → HasLooked p q
barred p q e (inl busy) = inl busy.1
barred p q e (inr r) = inr r.1

-- Stops

pub stop_calls : (g : Gathered) (w : IsAtWork g) (n : ℕ) (x : ThreadNo × ℕ) (p : DeskState) → g.phase ≡ phase.Stopping n → n < length g.stopping → x ≡ slice_index_or g.stopping n x → p ≡ slice_index_or g.now.desks x.0.0 p
    → calls_spent p.env p.view.mine < p.view.subject.limits.calls
stop_calls g w n x p is within ex ep =
    subst (λ (d : DeskState). calls_spent d.env d.view.mine < d.view.subject.limits.calls) (next_desk g n x p within ex ep) (may_stop_next w.start g n p w.whole w.asked (is_stopping g w n is) within)

pub stop_there : (g : Gathered) (w : IsAtWork g) (n : ℕ) (x : ThreadNo × ℕ) → g.phase ≡ phase.Stopping n → n < length g.stopping → x ≡ slice_index_or g.stopping n x → x.0.0 < length g.now.state.spent
stop_there g w n x is within ex =
    subst (λ (y : ThreadNo × ℕ). y.0.0 < length g.now.state.spent) (element g.stopping n x within ex)
    (may_reach w.start.state g.now.state g.stopping n (length w.start.desks) none (distinct_of w.start g w.asked) (there_of w.start g w.whole w.asked) w.whole.count within (is_stopping g w n is).state_is)

pub stop_left : (g : Gathered) (w : IsAtWork g) (n : ℕ) (x : ThreadNo × ℕ) → g.phase ≡ phase.Stopping n → n < length g.stopping → x ≡ slice_index_or g.stopping n x → spent_at g.now.state x.0 < g.now.state.limits.calls
stop_left g w n x is within ex =
    subst (λ (y : ThreadNo × ℕ). spent_at g.now.state y.0 < g.now.state.limits.calls) (element g.stopping n x within ex)
    (may_spend w.start.state g.now.state g.stopping n none (distinct_of w.start g w.asked) w.asked.paid within (is_stopping g w n is).state_is)

pub stopped : (g : Gathered) (w : IsAtWork g) (n m : ℕ) (x : ThreadNo × ℕ) (p q : DeskState) (z : EnvValue) → g.phase ≡ phase.Stopping n → n < length g.stopping → m ≡ suc n → x ≡ slice_index_or g.stopping n x → p ≡ slice_index_or g.now.desks x.0.0 p
    → HasAdded p q (Stop p.env ∷ []) → z ≡ with_spent g.now.state x.0 → IsAtWork (come g z (slice_set g.now.desks x.0.0 q) (phase.Stopping m))
stopped g w n m x p q z is within next ex ep added spent =
    let el = element g.stopping n x within ex in
    let same = next_desk g n x p within ex ep in
    let more = subst (λ (d : DeskState). HasAdded d q (Stop d.env ∷ [])) (sym same) added in
    let at = stop_done w.start g n m p q z (phase.Stopping m) w.asked (is_stopping g w n is) within next more (spent ∙ ap (λ (y : ThreadNo × ℕ). with_spent g.now.state y.0) (sym el)) in
    subst (λ (y : ThreadNo × ℕ). IsAtWork (come g z (slice_set g.now.desks y.0.0 q) (phase.Stopping m))) el (moved g w z _ (phase.Stopping m) at)

pub not_stopped : (g : Gathered) (w : IsAtWork g) (n : ℕ) (x : ThreadNo × ℕ) (p q : DeskState) → g.phase ≡ phase.Stopping n → n < length g.stopping → x ≡ slice_index_or g.stopping n x → p ≡ slice_index_or g.now.desks x.0.0 p
    → HasLooked p q → IsAtWork (come g g.now.state (slice_set g.now.desks x.0.0 q) g.phase)
not_stopped g w n x p q is within ex ep looked =
    let el = element g.stopping n x within ex in
    let more = subst (λ (d : DeskState). HasLooked d q) (sym (next_desk g n x p within ex ep)) looked in
    let at = stop_looked w.start g n n p q (phase.Stopping n) (is_stopping g w n is) within more in
    subst (λ (v : (ThreadNo × ℕ) × Phase). IsAtWork (come g g.now.state (slice_set g.now.desks v.0.0.0 q) v.1)) (λ j. (el j, sym is j)) (moved g w g.now.state _ (phase.Stopping n) at)

pub all_stopped : (g : Gathered) (w : IsAtWork g) (n : ℕ) → g.phase ≡ phase.Stopping n → length g.stopping ≤ n → IsAtWork (come g g.now.state g.now.desks (phase.Seeing 0))
all_stopped g w n is over = moved g w g.now.state g.now.desks (phase.Seeing 0) (stops_over w.start g n (phase.Seeing 0) (is_stopping g w n is) over)

-- Looks

pub seen : (g : Gathered) (w : IsAtWork g) (n m : ℕ) (x : ThreadNo × ℕ) (p q : DeskState) → g.phase ≡ phase.Seeing n → n < length g.stopping → m ≡ suc n → x ≡ slice_index_or g.stopping n x → p ≡ slice_index_or g.now.desks x.0.0 p
    → HasAdded p q [] × (is_standing q.view.subject.limits q.view.seen q.env ≡ true) → IsAtWork (come g g.now.state (slice_set g.now.desks x.0.0 q) (phase.Seeing m))
seen g w n m x p q is within next ex ep h =
    let el = element g.stopping n x within ex in
    let more = subst (λ (d : DeskState). HasAdded d q []) (sym (next_desk g n x p within ex ep)) h.0 in
    let at = see_done w.start g n m p q (phase.Seeing m) (is_seeing g w n is) within next more h.1 in
    subst (λ (y : ThreadNo × ℕ). IsAtWork (come g g.now.state (slice_set g.now.desks y.0.0 q) (phase.Seeing m))) el (moved g w g.now.state _ (phase.Seeing m) at)

pub not_seen : (g : Gathered) (w : IsAtWork g) (n : ℕ) (x : ThreadNo × ℕ) (p q : DeskState) → g.phase ≡ phase.Seeing n → n < length g.stopping → x ≡ slice_index_or g.stopping n x → p ≡ slice_index_or g.now.desks x.0.0 p
    → HasLooked p q → IsAtWork (come g g.now.state (slice_set g.now.desks x.0.0 q) g.phase)
not_seen g w n x p q is within ex ep looked =
    let el = element g.stopping n x within ex in
    let more = subst (λ (d : DeskState). HasLooked d q) (sym (next_desk g n x p within ex ep)) looked in
    let at = see_looked w.start g n p q (phase.Seeing n) w.asked (is_seeing g w n is) within more in
    subst (λ (v : (ThreadNo × ℕ) × Phase). IsAtWork (come g g.now.state (slice_set g.now.desks v.0.0.0 q) v.1)) (λ j. (el j, sym is j)) (moved g w g.now.state _ (phase.Seeing n) at)

pub all_seen : (g : Gathered) (w : IsAtWork g) (n : ℕ) → g.phase ≡ phase.Seeing n → length g.stopping ≤ n → IsAtWork (come g g.now.state g.now.desks phase.Reading)
all_seen g w n is over = moved g w g.now.state g.now.desks phase.Reading (sees_over w.start g n phase.Reading w.whole w.asked (is_seeing g w n is) over)

-- Reads

pub all_read : (g : Gathered) (w : IsAtWork g) → g.phase ≡ phase.Reading → length g.places ≤ length g.infos → IsAtWork (come g g.now.state g.now.desks (phase.LettingGo 0))
all_read g w is over = moved g w g.now.state g.now.desks (phase.LettingGo 0) (reads_over w.start g (phase.LettingGo 0) (is_reading g w is) over)

-- Gos

pub go_stands : (g : Gathered) (w : IsAtWork g) (n : ℕ) (x : ThreadNo × ℕ) (p : DeskState) → g.phase ≡ phase.LettingGo n → n < length g.stopping → x ≡ slice_index_or g.stopping n x → p ≡ slice_index_or g.now.desks x.0.0 p
    → is_standing p.view.subject.limits p.view.seen p.env ≡ true
go_stands g w n x p is within ex ep =
    subst (λ (d : DeskState). is_standing d.view.subject.limits d.view.seen d.env ≡ true) (next_desk g n x p within ex ep) (stands_next w.start g n p w.whole w.asked (is_letting_go g w n is) within)

pub gone : (g : Gathered) (w : IsAtWork g) (n m : ℕ) (x : ThreadNo × ℕ) (p q : DeskState) → g.phase ≡ phase.LettingGo n → n < length g.stopping → m ≡ suc n → x ≡ slice_index_or g.stopping n x → p ≡ slice_index_or g.now.desks x.0.0 p
    → HasAdded p q (Go p.env ∷ []) → IsAtWork (come g g.now.state (slice_set g.now.desks x.0.0 q) (phase.LettingGo m))
gone g w n m x p q is within next ex ep added =
    let el = element g.stopping n x within ex in
    let more = subst (λ (d : DeskState). HasAdded d q (Go d.env ∷ [])) (sym (next_desk g n x p within ex ep)) added in
    let at = go_done w.start g n m p q (phase.LettingGo m) w.whole w.asked (is_letting_go g w n is) within next more in
    subst (λ (y : ThreadNo × ℕ). IsAtWork (come g g.now.state (slice_set g.now.desks y.0.0 q) (phase.LettingGo m))) el (moved g w g.now.state _ (phase.LettingGo m) at)

-- After it was given up

inside : (g : Gathered) (w : IsAtWork g) (k n : ℕ) → g.phase ≡ phase.GivingUp k n → n < k → n < length g.stopping
inside g w k n is within = (let few = (is_giving_up g w k n is).few in omega (arith, within, few.0))

pub again_there : (g : Gathered) (w : IsAtWork g) (k n : ℕ) (x : ThreadNo × ℕ) → g.phase ≡ phase.GivingUp k n → n < k → x ≡ slice_index_or g.stopping n x → x.0.0 < length g.now.desks
again_there g w k n x is within ex =
    let at = is_giving_up g w k n is in
    let i = inside g w k n is within in
    let there = there_at (length w.start.desks) g.stopping n none (there_of w.start g w.whole w.asked) i in
    subst (λ (y : ThreadNo × ℕ). y.0.0 < length g.now.desks) (element g.stopping n x i ex) (omega (arith, there, at.stops.0, at.desks.0))

pub again_stops : (g : Gathered) (w : IsAtWork g) (k n : ℕ) (x : ThreadNo × ℕ) (p : DeskState) → g.phase ≡ phase.GivingUp k n → n < k → x ≡ slice_index_or g.stopping n x → p ≡ slice_index_or g.now.desks x.0.0 p
    → stops_by p.env p.view.mine ≡ true
again_stops g w k n x p is within ex ep =
    subst (λ (d : DeskState). stops_by d.env d.view.mine ≡ true) (next_desk g n x p (inside g w k n is within) ex ep) (stops_next w.start g k n p w.whole w.asked (is_giving_up g w k n is) within)

pub again_gone : (g : Gathered) (w : IsAtWork g) (k n m : ℕ) (x : ThreadNo × ℕ) (p q : DeskState) → g.phase ≡ phase.GivingUp k n → n < k → m ≡ suc n → x ≡ slice_index_or g.stopping n x → p ≡ slice_index_or g.now.desks x.0.0 p
    → HasAdded p q (Go p.env ∷ []) → IsAtWork (come g g.now.state (slice_set g.now.desks x.0.0 q) (phase.GivingUp k m))
again_gone g w k n m x p q is within next ex ep added =
    let i = inside g w k n is within in
    let el = element g.stopping n x i ex in
    let more = subst (λ (d : DeskState). HasAdded d q (Go d.env ∷ [])) (sym (next_desk g n x p i ex ep)) added in
    let at = go_again_done w.start g k n m p q (phase.GivingUp k m) w.whole w.asked (is_giving_up g w k n is) within next more in
    subst (λ (y : ThreadNo × ℕ). IsAtWork (come g g.now.state (slice_set g.now.desks y.0.0 q) (phase.GivingUp k m))) el (moved g w g.now.state _ (phase.GivingUp k m) at)

pub given_up_at_stops : (g : Gathered) (w : IsAtWork g) (n : ℕ) → g.phase ≡ phase.Stopping n → IsAtWork (come g g.now.state g.now.desks (phase.GivingUp n 0))
given_up_at_stops g w n is = moved g w g.now.state g.now.desks (phase.GivingUp n 0) (given_up_stopping w.start g n (phase.GivingUp n 0) (is_stopping g w n is))

pub given_up_at_looks : (g : Gathered) (w : IsAtWork g) (n k : ℕ) → g.phase ≡ phase.Seeing n → k ≡ length g.stopping → IsAtWork (come g g.now.state g.now.desks (phase.GivingUp k 0))
given_up_at_looks g w n k is all =
    moved g w g.now.state g.now.desks (phase.GivingUp k 0) (given_up_stopping w.start g k (phase.GivingUp k 0) (subst (λ (j : ℕ). IsStopping w.start g j) (sym all) (is_seeing g w n is).stopping))

-- One more read

-- one of the places
place : (l : List ThreadNo) (n : ℕ) (x : ThreadNo) → n < length l → x ≡ slice_index_or l n x → slice_index_or l n nowhere ≡ x
place [] n x h e = absurd (omega (arith, h))
place (y ∷ l) zero x h e = sym e
place (y ∷ l) (suc n) x h e = place l n x (omega (arith, h)) e

-- the desk at the next one to be read
read_desk : (g : Gathered) (t : ThreadNo) (p : DeskState) → length g.infos < length g.places → t ≡ slice_index_or g.places (length g.infos) t → p ≡ slice_index_or g.now.desks t.0 p
    → slice_index_or g.now.desks (slice_index_or g.places (length g.infos) nowhere).0 p ≡ p
read_desk g t p within et ep = ap (λ (y : ThreadNo). slice_index_or g.now.desks y.0 p) (place g.places (length g.infos) t within et) ∙ sym ep

pub read_there : (g : Gathered) (w : IsAtWork g) (t : ThreadNo) → g.phase ≡ phase.Reading → length g.infos < length g.places → t ≡ slice_index_or g.places (length g.infos) t → t.0 < length g.now.desks
read_there g w t is within et =
    subst (λ (y : ThreadNo). y.0 < length g.now.desks) (place g.places (length g.infos) t within et) (reads_there w.start g w.whole w.asked (is_reading g w is) within)

pub read_may : (g : Gathered) (w : IsAtWork g) (t : ThreadNo) (p : DeskState) (rest : List buffer.Trace) (b : buffer.Trace) → g.phase ≡ phase.Reading → length g.infos < length g.places → t ≡ slice_index_or g.places (length g.infos) t → p ≡ slice_index_or g.now.desks t.0 p
    → g.bufs ≡ rest ++ b ∷ [] → MayRead g.now.env g.now.state p t g.max_count b
read_may g w t p rest b is within et ep bufs =
    let at = is_reading g w is in
    let el = place g.places (length g.infos) t within et in
    let listed = subst (λ (y : ThreadNo). is_listed y.0 g.stopping ≡ true) el (reads_listed w.start g w.asked within) in
    let room = subst (λ (x : Limits). HasRoomFor x (or_zero g.max_count) b) (sym at.limits) (roomy_last w.start.state.limits g.max_count g.bufs rest b at.roomy bufs).0 in
    may_read g.now g.stopping t p g.max_count b at.held listed (at_index g.now.desks t.0 p (read_there g w t is within et) ∙ ap (λ (x : DeskState). Some x) (sym ep)) room

pub read_paid : (g : Gathered) (w : IsAtWork g) (t : ThreadNo) → g.phase ≡ phase.Reading → length g.infos < length g.places → t ≡ slice_index_or g.places (length g.infos) t → 0 < left_at g.now.state t
read_paid g w t is within et = subst (λ (y : ThreadNo). 0 < left_at g.now.state y) (place g.places (length g.infos) t within et) (reads_left w.start g (is_reading g w is) within)

pub was_read : (g : Gathered) (w : IsAtWork g) (t : ThreadNo) (p q : DeskState) (z : EnvValue) (a : Answer) (info : StackInfo) (rest : List buffer.Trace) (b : buffer.Trace) → g.phase ≡ phase.Reading → length g.infos < length g.places → t ≡ slice_index_or g.places (length g.infos) t
    → p ≡ slice_index_or g.now.desks t.0 p → HasAdded p q (Read p.env g.max_count ∷ []) → IsRead p q g.max_count a → z ≡ with_spent g.now.state t → told_info info ∷ [] ≡ told_stack p.view.subject.thread a → info.thread ≡ p.view.subject.thread
    → g.bufs ≡ rest ++ b ∷ [] → IsAtWork (with_read g z (slice_set g.now.desks t.0 q) rest (g.infos ++ info ∷ []))
was_read g w t p q z a info rest b is within et ep added read spent told same bufs = record { start = w.start; began_is = w.began_is; whole = w.whole; asked = w.asked; at = at }
  where
    el : slice_index_or g.places (length g.infos) nowhere ≡ t
    el = place g.places (length g.infos) t within et

    desk : slice_index_or g.now.desks (slice_index_or g.places (length g.infos) nowhere).0 p ≡ p
    desk = read_desk g t p within et ep

    done : IsReading w.start (with_read g z (slice_set g.now.desks (slice_index_or g.places (length g.infos) nowhere).0 q) rest (g.infos ++ info ∷ []))
    done = read_done w.start g p q z p.view.subject.thread a info rest b w.whole w.asked (is_reading g w is) within
        (subst (λ (d : DeskState). HasAdded d q (Read d.env g.max_count ∷ [])) (sym desk) added) (subst (λ (d : DeskState). IsRead d q g.max_count a) (sym desk) read)
        (spent ∙ ap (λ (y : ThreadNo). with_spent g.now.state y) (sym el)) (ap (λ (d : DeskState). d.view.subject.thread) (sym desk)) told same bufs

    here : IsReading w.start (with_read g z (slice_set g.now.desks t.0 q) rest (g.infos ++ info ∷ []))
    here = subst (λ (y : ThreadNo). IsReading w.start (with_read g z (slice_set g.now.desks y.0 q) rest (g.infos ++ info ∷ []))) el done

    at : IsAt g.phase w.start (with_read g z (slice_set g.now.desks t.0 q) rest (g.infos ++ info ∷ []))
    at = subst (λ (p : Phase). IsAt p w.start (with_read g z (slice_set g.now.desks t.0 q) rest (g.infos ++ info ∷ []))) (sym is) here

-- a buffer that was taken and put back
pub buffer_back : (g : Gathered) (w : IsAtWork g) (t : ℕ) (p q : DeskState) (bufs : List buffer.Trace) → p ≡ slice_index_or g.now.desks t p → q ≡ p → bufs ≡ g.bufs → IsAtWork (with_read g g.now.state (slice_set g.now.desks t q) bufs g.infos)
buffer_back g w t p q bufs ep same back =
    subst (λ (v : List DeskState × List buffer.Trace). IsAtWork (with_read g g.now.state v.0 v.1 g.infos)) (λ j. (sym (set_back g.now.desks t p q (same ∙ ep)) j, sym back j)) w

-- At its end

pub whole_in : (p : Phase) (g : Gathered) (w : IsAtWork g) → g.phase ≡ p → is_over (length g.stopping) p ≡ true → IsWhole g.now
whole_in (phase.LettingGo n) g w is over =
    let at = is_letting_go g w n is in
    let all : length g.stopping ≤ n = grind (arith, nat_tests, over) in
    let goes = each_all g.stopping n at.seen.desks g.now.desks (λ e. Go e ∷ []) all at.desks in
    let whole = whole_after_go at.seen g.stopping g.now.desks at.held goes in
    subst (λ (v : EnvNo × EnvValue). IsWhole (record { env = v.0; state = v.1; desks = g.now.desks })) (λ j. (sym at.env_is j, sym at.state_is j)) whole
whole_in (phase.GivingUp k n) g w is over =
    let at = is_giving_up g w k n is in
    let all : k ≤ n = grind (arith, nat_tests, over) in
    whole_let_go w.start g.now g.stopping w.whole (distinct_of w.start g w.asked) (there_of w.start g w.whole w.asked) w.asked.paid (let_go w.start g k n at all)
whole_in (phase.Stopping n) g w is over = cc over
whole_in (phase.Seeing n) g w is over = cc over
whole_in phase.Reading g w is over = cc over

gives_up_at : (g : Gathered) (w : IsAtWork g) (k n : ℕ) → g.phase ≡ phase.GivingUp k n → k ≤ n → GivesUp g g.now
gives_up_at g w k n is all = record { start = w.start; began_is = w.began_is; let_go = let_go w.start g k n (is_giving_up g w k n is) all }

pub gives_up_in : (p : Phase) (g : Gathered) (w : IsAtWork g) → g.phase ≡ p → is_over (length g.stopping) p ≡ true → is_given_up p ≡ true → GivesUp g g.now
gives_up_in (phase.GivingUp k n) g w is over given = gives_up_at g w k n is (grind (arith, nat_tests, over))
gives_up_in (phase.LettingGo n) g w is over given = absurd (cc given)
gives_up_in (phase.Stopping n) g w is over given = absurd (cc given)
gives_up_in (phase.Seeing n) g w is over given = absurd (cc given)
gives_up_in phase.Reading g w is over given = absurd (cc given)

gathers_at : (g : Gathered) (w : IsAtWork g) (told : List StackInfo) (n : ℕ) → g.phase ≡ phase.LettingGo n → length g.stopping ≤ n → told ≡ (if g.is_alive_only then filter (λ x. is_alive x.state) g.infos else g.infos) → Gathers g g.now told
gathers_at g w told n is all same =
    let at = is_letting_go g w n is in
    let goes = each_all g.stopping n at.seen.desks g.now.desks (λ e. Go e ∷ []) all at.desks in
    record {
      start = w.start;
      began_is = w.began_is;
      all = g.infos;
      gathered = record { stopped = at.stopped; seen = at.seen; stops = at.stops; reads = at.reads; goes = record { env_is = at.env_is; state_is = at.state_is; desks = goes } };
      told = same;
    }

pub gathers_in : (p : Phase) (g : Gathered) (w : IsAtWork g) (told : List StackInfo) → g.phase ≡ p → is_over (length g.stopping) p ≡ true → is_given_up p ≡ false → told ≡ (if g.is_alive_only then filter (λ x. is_alive x.state) g.infos else g.infos)
    → Gathers g g.now told
gathers_in (phase.LettingGo n) g w told is over given same = gathers_at g w told n is (grind (arith, nat_tests, over)) same
gathers_in (phase.GivingUp k n) g w told is over given same = absurd (cc given)
gathers_in (phase.Stopping n) g w told is over given same = absurd (cc over)
gathers_in (phase.Seeing n) g w told is over given same = absurd (cc over)
gathers_in phase.Reading g w told is over given same = absurd (cc over)
