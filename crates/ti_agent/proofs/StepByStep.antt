-- The steps of a trace of several threads.
use Rattle.std.proofs.Common.{◌≡◌, ℕ, ℤ, zero, suc, ◌+◌, ◌<◌, ◌≤◌, Bool, true, false, inl, inr, List, [], ◌∷◌, ◌++◌, length, take, drop, refl, ap, sym, ◌∙◌, arith, subst, length-append, length-set, Some}
use Rattle.std.specs.Prelude.{slice_get, slice_index_or, slice_set}
use Rattle.std.proofs.lemmas.Bool.{cases_eq, cases_Bool}
use Rattle.std.proofs.lemmas.List.{set-get_or, get_or-take, map-append}
use Rattle.ti_types.specs.declared.answer.Answer.{Answer}
use Rattle.ti_types.specs.declared.entry.Entry.{Entry}
use Rattle.ti_types.specs.declared.entry.Entry.TheVariants.{Stop, Read, Go}
use Rattle.ti_types.specs.declared.event.Ticket.{Ticket}
use Rattle.ti_types.specs.declared.limits.Limits.{Limits}
use Rattle.ti_types.specs.declared.numbers.EnvNo.{EnvNo}
use Rattle.ti_types.specs.declared.numbers.ThreadNo.{ThreadNo}
use Rattle.ti_types.specs.declared.stack.StackInfo.{StackInfo}
use Rattle.ti_types.specs.Frames as buffer
use Rattle.ti_env.specs.Env.{EnvValue, left_at, spent_at, with_spent}
use Rattle.ti_env.proofs.LeftLaws.{left_some}
use Rattle.ti_replay.specs.Fronts.{stops_by}
use Rattle.ti_replay.specs.Legal.{calls_spent}
use Rattle.ti_replay.specs.Standing.{is_standing}
use Rattle.ti_cell.specs.declared.view.Subject.{Subject}
use Rattle.ti_handshake.specs.Desk.{DeskState}
use Rattle.ti_vmop.specs.Turns.{Listed, is_listed, AreDistinct, AreThere, HasAdded, AtEach, AllStand, IsRead, MayStop, are_paid, spend_all}
use Rattle.ti_vmop.specs.Tries.{HasLooked, AtDeskOf}
use Rattle.ti_vmop.proofs.Each.{at_index, distinct_at, each_all, each_more, each_none, each_step, in_range, listed_at, not_done, paid_at, set_here, set_there, spends, stood_all, stood_more, take_all, take_more, there_at, untouched}
use Rattle.ti_vmop.proofs.First.{first_all, first_look, first_more, looked_mine, undone_is}
use Rattle.ti_vmop.proofs.Stopped.{distinct_some, now_stops, there_some}
use Rattle.ti_vmop.proofs.Uses.{has_added, more_spent, unlisted_stays, was_there}
use Rattle.ti_agent.specs.Env.{Environment, IsDesk, IsWhole, thread_at, threads_at}
use Rattle.ti_agent.specs.Gathering.{Gathered, IsAsked, IsStopping, IsSeeing, IsReading, IsLettingGo, IsGivingUp, IsLetGo}
use Rattle.ti_agent.specs.Traces.{AreStopped, AreLeft, HasRead, ReadsOne, Telling, told_info, told_stack}
use Rattle.ti_agent.specs.declared.gathering.Phase.{Phase}
use Rattle.ti_agent.proofs.Listing.{listed_in, there_listed}
use Rattle.ti_agent.proofs.Places.{name_of, names_each, order_each, order_stays, each_name}
use Rattle.ti_agent.proofs.Posting.{drop_more}
use Rattle.ti_agent.proofs.Tracing.{all_listed, count_spent, distinct_in, go_costs, has_read_more, held_after_read, held_after_stops, left_in, left_one, left_then, limits_all, may_stop, paid_listed, roomy_last, spent_listed, stop_costs, stops_go, there_in, with_desks}

-- a trace that has come further
abbrev pub come : Gathered → EnvValue → List DeskState → Phase → Gathered
come g z ds p = record {
  began = g.began;
  now = record { env = g.now.env; state = z; desks = ds };
  stopping = g.stopping;
  places = g.places;
  max_count = g.max_count;
  is_alive_only = g.is_alive_only;
  bufs = g.bufs;
  infos = g.infos;
  phase = p;
}

pub none : ThreadNo × ℕ
none = (record { 0 = 0 }, 0)

-- What is stopped

pub distinct_of : (s : Environment) (g : Gathered) → IsAsked s g.stopping g.places g.max_count → AreDistinct g.stopping
distinct_of s g asked = distinct_in g.stopping (length s.state.spent) g.places asked.stopping_is

pub there_of : (s : Environment) (g : Gathered) → IsWhole s → IsAsked s g.stopping g.places g.max_count → AreThere (length s.desks) g.stopping
there_of s g whole asked = there_in g.stopping (length s.state.spent) (length s.desks) g.places asked.stopping_is whole.count

-- the desk at which the next stop is made has a call left
pub may_stop_next : (s : Environment) (g : Gathered) (n : ℕ) (d : DeskState) → IsWhole s → IsAsked s g.stopping g.places g.max_count → IsStopping s g n → n < length g.stopping
    → calls_spent (slice_index_or g.now.desks (slice_index_or g.stopping n none).0.0 d).env (slice_index_or g.now.desks (slice_index_or g.stopping n none).0.0 d).view.mine < (slice_index_or g.now.desks (slice_index_or g.stopping n none).0.0 d).view.subject.limits.calls
may_stop_next s g n d whole asked at within =
    let x = slice_index_or g.stopping n none in
    let q = slice_index_or g.now.desks x.0.0 d in
    let u = undone_is n g.stopping s.desks g.now.desks (λ e. Stop e ∷ []) none d (distinct_of s g asked) (there_of s g whole asked) within at.desks in
    let p = u.0 in
    let may : MayStop p.view.subject.limits s.state p x.0 = may_stop s x.0.0 p whole u.1 in
    let left = paid_at s.state g.stopping n none asked.paid within in
    let same = looked_mine p q u.2 in
    let calls : calls_spent q.env q.view.mine ≡ calls_spent p.env p.view.mine = λ j. calls_spent (same.0 j) (same.1 j) in
    let most : q.view.subject.limits.calls ≡ p.view.subject.limits.calls = ap (λ (v : Subject). v.limits.calls) same.2 in
    omega (arith, may.paid, left, calls, most)

pub stop_done : (s : Environment) (g : Gathered) (n m : ℕ) (d q : DeskState) (z : EnvValue) (p : Phase) → IsAsked s g.stopping g.places g.max_count → IsStopping s g n → n < length g.stopping → m ≡ suc n
    → HasAdded (slice_index_or g.now.desks (slice_index_or g.stopping n none).0.0 d) q (Stop (slice_index_or g.now.desks (slice_index_or g.stopping n none).0.0 d).env ∷ []) → z ≡ with_spent g.now.state (slice_index_or g.stopping n none).0
    → IsStopping s (come g z (slice_set g.now.desks (slice_index_or g.stopping n none).0.0 q) p) m
stop_done s g n m d q z p asked at within next added spent = record {
  few = omega (arith, within, next);
  env_is = at.env_is;
  state_is = spends s.state g.now.state z g.stopping n m none within next at.state_is spent;
  desks = first_more n m g.stopping s.desks g.now.desks (λ e. Stop e ∷ []) none d q (distinct_of s g asked) within next at.desks added;
  count = at.count;
  roomy = at.roomy;
  none_read = at.none_read;
}

pub stop_looked : (s : Environment) (g : Gathered) (n k : ℕ) (d q : DeskState) (p : Phase) → IsStopping s g n → k < length g.stopping
    → HasLooked (slice_index_or g.now.desks (slice_index_or g.stopping k none).0.0 d) q → IsStopping s (come g g.now.state (slice_set g.now.desks (slice_index_or g.stopping k none).0.0 q) p) n
stop_looked s g n k d q p at within looked = record {
  few = at.few;
  env_is = at.env_is;
  state_is = at.state_is;
  desks = first_look n k g.stopping s.desks g.now.desks (λ e. Stop e ∷ []) none d q within at.desks looked;
  count = at.count;
  roomy = at.roomy;
  none_read = at.none_read;
}

-- all are stopped
pub stops_over : (s : Environment) (g : Gathered) (n : ℕ) (p : Phase) → IsStopping s g n → length g.stopping ≤ n → IsSeeing s (come g g.now.state g.now.desks p) 0
stops_over s g n p at over = record {
  few = omega arith;
  stopping = record {
    few = omega arith;
    env_is = all.env_is;
    state_is = all.state_is;
    desks = all.desks;
    count = all.count;
    roomy = all.roomy;
    none_read = all.none_read;
  };
  stand = λ i q e listed. cc listed;
}
  where
    all : IsStopping s g (length g.stopping)
    all = subst (λ (k : ℕ). IsStopping s g k) (omega (arith, at.few, over)) at

-- What is seen standing

pub see_done : (s : Environment) (g : Gathered) (n m : ℕ) (d q : DeskState) (p : Phase) → IsSeeing s g n → n < length g.stopping → m ≡ suc n
    → HasAdded (slice_index_or g.now.desks (slice_index_or g.stopping n none).0.0 d) q [] → is_standing q.view.subject.limits q.view.seen q.env ≡ true
    → IsSeeing s (come g g.now.state (slice_set g.now.desks (slice_index_or g.stopping n none).0.0 q) p) m
see_done s g n m d q p at within next looked stands = record {
  few = omega (arith, within, next);
  stopping = stop_looked s g (length g.stopping) n d q p at.stopping within (inr looked);
  stand = stood_more g.stopping n m g.now.desks none q d within next at.stand stands;
}

-- those that stand are others
stand_kept : (stopping : Listed) (n : ℕ) (now : List DeskState) (q : DeskState) → AreDistinct stopping → n < length stopping → AllStand (take n stopping) now → AllStand (take n stopping) (slice_set now (slice_index_or stopping n none).0.0 q)
stand_kept stopping n now q distinct within all i p e listed =
    let x = slice_index_or stopping n none in
    elim (cases_eq x.0.0 i) [
      | inl same ↦ let o : true ≡ false = sym listed ∙ (ap (λ (j : ℕ). is_listed j (take n stopping)) (sym same) ∙ distinct_at stopping n none distinct within) in cc
      | inr other ↦ all i p (set_there now x.0.0 i q p other e) listed
    ]

pub see_looked : (s : Environment) (g : Gathered) (n : ℕ) (d q : DeskState) (p : Phase) → IsAsked s g.stopping g.places g.max_count → IsSeeing s g n → n < length g.stopping
    → HasLooked (slice_index_or g.now.desks (slice_index_or g.stopping n none).0.0 d) q → IsSeeing s (come g g.now.state (slice_set g.now.desks (slice_index_or g.stopping n none).0.0 q) p) n
see_looked s g n d q p asked at within looked = record {
  few = at.few;
  stopping = stop_looked s g (length g.stopping) n d q p at.stopping within looked;
  stand = stand_kept g.stopping n g.now.desks q (distinct_of s g asked) within at.stand;
}

-- all were seen standing, and nothing is read yet
pub sees_over : (s : Environment) (g : Gathered) (n : ℕ) (p : Phase) → IsWhole s → IsAsked s g.stopping g.places g.max_count → IsSeeing s g n → length g.stopping ≤ n → IsReading s (come g g.now.state g.now.desks p)
sees_over s g n p whole asked at over = record {
  stopped = g.now;
  stops = record { env_is = at.stopping.env_is; state_is = state; desks = each; stand = stand };
  held = subst (λ (e : EnvNo). AreStopped (record { env = e; state = g.now.state; desks = g.now.desks }) g.stopping) (sym at.stopping.env_is) held;
  left = subst (λ (l : List StackInfo). AreLeft g.now.state (drop (length l) g.places)) (sym at.stopping.none_read) (left_in s.state g.now.state g.places g.stopping asked.stopping_is asked.there asked.paid state);
  limits = ap (λ (v : EnvValue). v.limits) state ∙ limits_all s.state g.stopping;
  reads = subst (λ (l : List StackInfo). HasRead g.now g.now g.max_count (take (length l) g.places) (threads_at s.desks (take (length l) g.places)) l) (sym at.stopping.none_read)
      (record { tellings = []; reads = refl; at_each = refl; of_each = refl; told = refl; each = refl });
  many = each.0;
  names = names_each g.stopping s.desks g.now.desks (λ e. Stop e ∷ []) each;
  count = subst (λ (l : List StackInfo). length g.bufs + length l ≡ length g.places) (sym at.stopping.none_read) (omega (arith, at.stopping.count));
  roomy = at.stopping.roomy;
}
  where
    state : g.now.state ≡ spend_all s.state g.stopping
    state = at.stopping.state_is ∙ ap (spend_all s.state) (take_all g.stopping (length g.stopping) (omega arith))

    each : AtEach g.stopping s.desks g.now.desks (λ e. Stop e ∷ [])
    each = first_all g.stopping (length g.stopping) s.desks g.now.desks (λ e. Stop e ∷ []) (omega arith) at.stopping.desks

    stand : AllStand g.stopping g.now.desks
    stand = stood_all g.stopping n g.now.desks over at.stand

    held : AreStopped (with_desks s g.now.state g.now.desks) g.stopping
    held = held_after_stops s g.stopping g.now.state g.now.desks whole (distinct_of s g asked) (there_of s g whole asked) asked.paid state each stand

-- What is read

pub reads_over : (s : Environment) (g : Gathered) (p : Phase) → IsReading s g → length g.places ≤ length g.infos → IsLettingGo s (come g g.now.state g.now.desks p) 0
reads_over s g p at over = record {
  few = omega arith;
  stopped = at.stopped;
  seen = g.now;
  stops = at.stops;
  held = at.held;
  many = at.many;
  reads = subst (λ (l : List ThreadNo). HasRead at.stopped g.now g.max_count l (threads_at s.desks l) g.infos) (take_all g.places (length g.infos) over) at.reads;
  env_is = refl;
  state_is = refl;
  desks = each_none g.now.desks (λ e. Go e ∷ []);
}

pub nowhere : ThreadNo
nowhere = record { 0 = 0 }

-- the next one to be read is stopped
pub reads_listed : (s : Environment) (g : Gathered) → IsAsked s g.stopping g.places g.max_count → length g.infos < length g.places → is_listed (slice_index_or g.places (length g.infos) nowhere).0 g.stopping ≡ true
reads_listed s g asked within = listed_in g.stopping g.places (length g.infos) nowhere (all_listed g.stopping (length s.state.spent) g.places asked.stopping_is asked.there) within

-- and is there
pub reads_there : (s : Environment) (g : Gathered) → IsWhole s → IsAsked s g.stopping g.places g.max_count → IsReading s g → length g.infos < length g.places → (slice_index_or g.places (length g.infos) nowhere).0 < length g.now.desks
reads_there s g whole asked at within = omega (arith, there_listed (length s.desks) (slice_index_or g.places (length g.infos) nowhere).0 g.stopping (there_of s g whole asked) (reads_listed s g asked within), at.many)

-- what is left to it
left_now : (s : Environment) (g : Gathered) → IsReading s g → length g.infos < length g.places → AreLeft g.now.state (slice_index_or g.places (length g.infos) nowhere ∷ drop (length g.infos + 1) g.places)
left_now s g at within = subst (AreLeft g.now.state) (drop_more g.places (length g.infos) (length g.infos + 1) nowhere (omega arith) within) at.left

pub reads_left : (s : Environment) (g : Gathered) → IsReading s g → length g.infos < length g.places → 0 < left_at g.now.state (slice_index_or g.places (length g.infos) nowhere)
reads_left s g at within = left_one g.now.state (slice_index_or g.places (length g.infos) nowhere) (drop (length g.infos + 1) g.places) (left_now s g at within)

any_default : (l : List DeskState) (i : ℕ) (a b : DeskState) → i < length l → slice_index_or l i a ≡ slice_index_or l i b
any_default [] i a b h = absurd (omega (arith, h))
any_default (x ∷ l) zero a b h = refl
any_default (x ∷ l) (suc i) a b h = any_default l i a b (omega (arith, h))

-- a desk was read
reads_one : (e : Environment) (z : EnvValue) (t : ThreadNo) (d q : DeskState) (m : ℤ) (thread : ThreadNo) (a : Answer) → t.0 < length e.desks → HasAdded (slice_index_or e.desks t.0 d) q (Read (slice_index_or e.desks t.0 d).env m ∷ [])
    → IsRead (slice_index_or e.desks t.0 d) q m a → z ≡ with_spent e.state t → thread ≡ thread_at e.desks t.0
    → ReadsOne e (record { env = e.env; state = z; desks = slice_set e.desks t.0 q }) m (record { place = t; thread = thread; answer = a })
reads_one e z t d q m thread a there added read spent about = record {
  env_is = refl;
  about = about;
  state_is = spent;
  desks = each_step [] e.desks e.desks (λ v. Read v m ∷ []) (t, 0) d q (each_none e.desks (λ v. Read v m ∷ [])) refl there added;
  answer_is = told;
}
  where
    told : (p r : DeskState) → slice_get e.desks t.0 ≡ Some p → slice_get (slice_set e.desks t.0 q) t.0 ≡ Some r → IsRead p r m a
    told p r f h =
        let first : Some (slice_index_or e.desks t.0 d) ≡ Some p = sym (at_index e.desks t.0 d there) ∙ f in
        let was : slice_index_or e.desks t.0 d ≡ p = cc first in
        subst (λ (x : DeskState × DeskState). IsRead x.0 x.1 m a) (λ j. (was j, set_here e.desks t.0 q r h j)) read

-- a trace with one more read
abbrev pub with_read : Gathered → EnvValue → List DeskState → List buffer.Trace → List StackInfo → Gathered
with_read g z ds bufs infos = record {
  began = g.began;
  now = record { env = g.now.env; state = z; desks = ds };
  stopping = g.stopping;
  places = g.places;
  max_count = g.max_count;
  is_alive_only = g.is_alive_only;
  bufs = bufs;
  infos = infos;
  phase = g.phase;
}

pub read_done : (s : Environment) (g : Gathered) (d q : DeskState) (z : EnvValue) (thread : ThreadNo) (a : Answer) (info : StackInfo) (rest : List buffer.Trace) (b : buffer.Trace) → IsWhole s → IsAsked s g.stopping g.places g.max_count → IsReading s g → length g.infos < length g.places
    → HasAdded (slice_index_or g.now.desks (slice_index_or g.places (length g.infos) nowhere).0 d) q (Read (slice_index_or g.now.desks (slice_index_or g.places (length g.infos) nowhere).0 d).env g.max_count ∷ [])
    → IsRead (slice_index_or g.now.desks (slice_index_or g.places (length g.infos) nowhere).0 d) q g.max_count a → z ≡ with_spent g.now.state (slice_index_or g.places (length g.infos) nowhere)
    → thread ≡ (slice_index_or g.now.desks (slice_index_or g.places (length g.infos) nowhere).0 d).view.subject.thread → told_info info ∷ [] ≡ told_stack thread a → info.thread ≡ thread → g.bufs ≡ rest ++ b ∷ []
    → IsReading s (with_read g z (slice_set g.now.desks (slice_index_or g.places (length g.infos) nowhere).0 q) rest (g.infos ++ info ∷ []))
read_done s g d q z thread a info rest b whole asked at within added read spent about told same bufs = record {
  stopped = at.stopped;
  stops = at.stops;
  held = held_after_read g.now next g.stopping g.max_count x at.held (reads_listed s g asked within) (reads_left s g at within) there one;
  left = subst (λ (j : ℕ). AreLeft z (drop j g.places)) (sym more) (left_then g.now.state z t (drop (k + 1) g.places) (left_now s g at within) spent (omega (arith, there, at.held.count)));
  limits = ap (λ (v : EnvValue). v.limits) spent ∙ at.limits;
  reads = subst (λ (j : ℕ). HasRead at.stopped next g.max_count (take j g.places) (threads_at s.desks (take j g.places)) (g.infos ++ info ∷ [])) (sym more) reads;
  many = length-set g.now.desks t.0 q ∙ at.many;
  names = λ i. names_each ((t, 0) ∷ []) g.now.desks next.desks (λ e. Read e g.max_count ∷ []) one.desks i ∙ at.names i;
  count = omega (arith, at.count, more, ap (λ (l : List buffer.Trace). length l) bufs, length-append rest (b ∷ []));
  roomy = (roomy_last s.state.limits g.max_count g.bufs rest b at.roomy bufs).1;
}
  where
    k : ℕ
    k = length g.infos

    t : ThreadNo
    t = slice_index_or g.places k nowhere

    more : length (g.infos ++ info ∷ []) ≡ k + 1
    more = length-append g.infos (info ∷ [])

    there : t.0 < length g.now.desks
    there = reads_there s g whole asked at within

    x : Telling
    x = record { place = t; thread = thread; answer = a }

    next : Environment
    next = record { env = g.now.env; state = z; desks = slice_set g.now.desks t.0 q }

    named : thread ≡ thread_at g.now.desks t.0
    named = sym (name_of g.now.desks t.0 (slice_index_or g.now.desks t.0 d) thread there (any_default g.now.desks t.0 d (slice_index_or g.now.desks t.0 d) there) about)

    one : ReadsOne g.now next g.max_count x
    one = reads_one g.now z t d q g.max_count thread a there added read spent named

    first : take (k + 1) g.places ≡ take k g.places ++ t ∷ []
    first = take_more g.places k (k + 1) nowhere (omega arith) within

    numbers : threads_at s.desks (take (k + 1) g.places) ≡ threads_at s.desks (take k g.places) ++ thread ∷ []
    numbers = ap (threads_at s.desks) first ∙ (map-append (λ (y : ThreadNo). thread_at s.desks y.0) (take k g.places) (t ∷ []) ∙ ap (λ (y : ThreadNo). threads_at s.desks (take k g.places) ++ y ∷ []) (sym (named ∙ at.names t.0)))

    reads : HasRead at.stopped next g.max_count (take (k + 1) g.places) (threads_at s.desks (take (k + 1) g.places)) (g.infos ++ info ∷ [])
    reads = subst (λ (v : List ThreadNo × List ThreadNo). HasRead at.stopped next g.max_count v.0 v.1 (g.infos ++ info ∷ [])) (λ j. (sym first j, sym numbers j))
        (has_read_more at.stopped g.now next g.max_count (take k g.places) (threads_at s.desks (take k g.places)) x g.infos info at.reads one told same)

-- What is let go

-- the next one to be let go is as it was when all were read
pub next_is : (s : Environment) (g : Gathered) (n : ℕ) (d : DeskState) → IsWhole s → IsAsked s g.stopping g.places g.max_count → (at : IsLettingGo s g n) → n < length g.stopping
    → slice_get at.seen.desks (slice_index_or g.stopping n none).0.0 ≡ Some (slice_index_or g.now.desks (slice_index_or g.stopping n none).0.0 d)
next_is s g n d whole asked at within =
    not_done (take n g.stopping) at.seen.desks g.now.desks (λ e. Go e ∷ []) (slice_index_or g.stopping n none).0.0 d at.desks (distinct_at g.stopping n none (distinct_of s g asked) within)
    (omega (arith, at.many, there_at (length s.desks) g.stopping n none (there_of s g whole asked) within))

pub stands_next : (s : Environment) (g : Gathered) (n : ℕ) (d : DeskState) → IsWhole s → IsAsked s g.stopping g.places g.max_count → IsLettingGo s g n → n < length g.stopping
    → is_standing (slice_index_or g.now.desks (slice_index_or g.stopping n none).0.0 d).view.subject.limits (slice_index_or g.now.desks (slice_index_or g.stopping n none).0.0 d).view.seen (slice_index_or g.now.desks (slice_index_or g.stopping n none).0.0 d).env ≡ true
stands_next s g n d whole asked at within =
    let x = slice_index_or g.stopping n none in
    (at.held.desks x.0.0 (slice_index_or g.now.desks x.0.0 d) (next_is s g n d whole asked at within)).stands (listed_at g.stopping n none within)

pub go_done : (s : Environment) (g : Gathered) (n m : ℕ) (d q : DeskState) (p : Phase) → IsWhole s → IsAsked s g.stopping g.places g.max_count → IsLettingGo s g n → n < length g.stopping → m ≡ suc n
    → HasAdded (slice_index_or g.now.desks (slice_index_or g.stopping n none).0.0 d) q (Go (slice_index_or g.now.desks (slice_index_or g.stopping n none).0.0 d).env ∷ [])
    → IsLettingGo s (come g g.now.state (slice_set g.now.desks (slice_index_or g.stopping n none).0.0 q) p) m
go_done s g n m d q p whole asked at within next added = record {
  few = omega (arith, within, next);
  stopped = at.stopped;
  seen = at.seen;
  stops = at.stops;
  held = at.held;
  reads = at.reads;
  many = at.many;
  env_is = at.env_is;
  state_is = at.state_is;
  desks = each_more g.stopping n m at.seen.desks g.now.desks (λ e. Go e ∷ []) none d q (distinct_of s g asked) (subst (λ (k : ℕ). AreThere k g.stopping) (sym at.many) (there_of s g whole asked)) within next at.desks added;
}

-- a desk that stays as it was
pub set_back : (l : List DeskState) (i : ℕ) (d q : DeskState) → q ≡ slice_index_or l i d → slice_set l i q ≡ l
set_back l i d q same = ap (λ (x : DeskState). slice_set l i x) same ∙ set-get_or l i d

-- After it was given up

-- the same element of a prefix
first_is : (l : Listed) (k n : ℕ) → n < k → slice_index_or (take k l) n none ≡ slice_index_or l n none
first_is l k n h = get_or-take k l n none h

few_of : (l : Listed) (k : ℕ) → k ≤ length l → length (take k l) ≡ k
few_of [] zero h = refl
few_of [] (suc k) h = absurd (omega (arith, h))
few_of (x ∷ l) zero h = refl
few_of (x ∷ l) (suc k) h = ap suc (few_of l k (omega (arith, h)))

pub given_up_stopping : (s : Environment) (g : Gathered) (n : ℕ) (p : Phase) → IsStopping s g n → IsGivingUp s (come g g.now.state g.now.desks p) n 0
given_up_stopping s g n p at = record {
  few = (at.few, omega arith);
  stopped = g.now.desks;
  stops = at.desks;
  env_is = at.env_is;
  state_is = at.state_is;
  desks = each_none g.now.desks (λ e. Go e ∷ []);
}

-- a thread that was stopped, and is yet to be let go
pub stops_next : (s : Environment) (g : Gathered) (k n : ℕ) (d : DeskState) → IsWhole s → IsAsked s g.stopping g.places g.max_count → IsGivingUp s g k n → n < k
    → stops_by (slice_index_or g.now.desks (slice_index_or g.stopping n none).0.0 d).env (slice_index_or g.now.desks (slice_index_or g.stopping n none).0.0 d).view.mine ≡ true
stops_next s g k n d whole asked at within = now_stops p q added
  where
    x : ThreadNo × ℕ
    x = slice_index_or g.stopping n none

    some : Listed
    some = take k g.stopping

    inside : n < length some
    inside = omega (arith, within, few_of g.stopping k at.few.0)

    is : slice_index_or some n none ≡ x
    is = first_is g.stopping k n within

    there : x.0.0 < length s.desks
    there = there_at (length s.desks) g.stopping n none (there_of s g whole asked) (omega (arith, within, at.few.0))

    here : x.0.0 < length at.stopped
    here = omega (arith, there, at.stops.0)

    q : DeskState
    q = slice_index_or g.now.desks x.0.0 d

    unlisted : is_listed x.0.0 (take n some) ≡ false
    unlisted = subst (λ (y : ThreadNo × ℕ). is_listed y.0.0 (take n some) ≡ false) is (distinct_at some n none (distinct_some k g.stopping (distinct_of s g asked)) inside)

    at_q : slice_get at.stopped x.0.0 ≡ Some q
    at_q = not_done (take n some) at.stopped g.now.desks (λ e. Go e ∷ []) x.0.0 d at.desks unlisted here

    p : DeskState
    p = slice_index_or s.desks x.0.0 d

    at_p : slice_get s.desks x.0.0 ≡ Some p
    at_p = at_index s.desks x.0.0 d there

    listed : is_listed x.0.0 some ≡ true
    listed = subst (λ (y : ThreadNo × ℕ). is_listed y.0.0 some ≡ true) is (listed_at some n none inside)

    added : HasAdded p q (Stop p.env ∷ [])
    added = subst (λ (b : Bool). AtDeskOf b (is_listed x.0.0 g.stopping) p q (Stop p.env ∷ [])) listed (at.stops.1 x.0.0 p q at_p at_q)

pub go_again_done : (s : Environment) (g : Gathered) (k n m : ℕ) (d q : DeskState) (p : Phase) → IsWhole s → IsAsked s g.stopping g.places g.max_count → IsGivingUp s g k n → n < k → m ≡ suc n
    → HasAdded (slice_index_or g.now.desks (slice_index_or g.stopping n none).0.0 d) q (Go (slice_index_or g.now.desks (slice_index_or g.stopping n none).0.0 d).env ∷ [])
    → IsGivingUp s (come g g.now.state (slice_set g.now.desks (slice_index_or g.stopping n none).0.0 q) p) k m
go_again_done s g k n m d q p whole asked at within next added = record {
  few = (at.few.0, omega (arith, within, next));
  stopped = at.stopped;
  stops = at.stops;
  env_is = at.env_is;
  state_is = at.state_is;
  desks = more;
}
  where
    some : Listed
    some = take k g.stopping

    is : slice_index_or some n none ≡ slice_index_or g.stopping n none
    is = first_is g.stopping k n within

    there : AreThere (length at.stopped) some
    there = there_some (length at.stopped) k g.stopping (subst (λ (j : ℕ). AreThere j g.stopping) (sym at.stops.0) (there_of s g whole asked))

    more : AtEach (take m some) at.stopped (slice_set g.now.desks (slice_index_or g.stopping n none).0.0 q) (λ e. Go e ∷ [])
    more = subst (λ (y : ThreadNo × ℕ). AtEach (take m some) at.stopped (slice_set g.now.desks y.0.0 q) (λ e. Go e ∷ [])) is
        (each_more some n m at.stopped g.now.desks (λ e. Go e ∷ []) none d q (distinct_some k g.stopping (distinct_of s g asked)) there (omega (arith, within, few_of g.stopping k at.few.0)) next at.desks
        (subst (λ (y : ThreadNo × ℕ). HasAdded (slice_index_or g.now.desks y.0.0 d) q (Go (slice_index_or g.now.desks y.0.0 d).env ∷ [])) (sym is) added))

-- all that were stopped are let go
pub let_go : (s : Environment) (g : Gathered) (k n : ℕ) → IsGivingUp s g k n → k ≤ n → IsLetGo s g.now g.stopping
let_go s g k n at over = record {
  count = k;
  few = at.few.0;
  stopped = at.stopped;
  stops = at.stops;
  goes = each_all (take k g.stopping) n at.stopped g.now.desks (λ e. Go e ∷ []) (omega (arith, over, few_of g.stopping k at.few.0)) at.desks;
  env_is = at.env_is;
  state_is = at.state_is;
}

-- After that the environment is whole again

looked_if : (b : Bool) (p q : DeskState) (more : List Entry) → AtDeskOf false b p q more → HasLooked p q
looked_if true p q more h = h
looked_if false p q more h = inl h

subject_stays : (b l : Bool) (p q : DeskState) (more : List Entry) → AtDeskOf b l p q more → q.view.subject ≡ p.view.subject
subject_stays true l p q more h = h.goes.subject
subject_stays false l p q more h = (looked_mine p q (looked_if l p q more h)).2

looked_posted : (p q : DeskState) → HasLooked p q → q.view.posted ≡ p.view.posted
looked_posted p q (inl same) = ap (λ (x : DeskState). x.view.posted) same
looked_posted p q (inr h) = h.posted

paid_some : (s : EnvValue) (k : ℕ) (l : Listed) → are_paid s l ≡ true → are_paid s (take k l) ≡ true
paid_some s zero l h = refl
paid_some s (suc k) [] h = refl
paid_some s (suc k) (x ∷ l) h = grind (arith, h, paid_some s k l)

pub whole_let_go : (s n : Environment) (l : Listed) → IsWhole s → AreDistinct l → AreThere (length s.desks) l → are_paid s.state l ≡ true → IsLetGo s n l → IsWhole n
whole_let_go s n l whole distinct there paid h = record {
  count = ap (λ (v : EnvValue). length v.spent) h.state_is ∙ (count_spent s.state some ∙ (whole.count ∙ sym (h.goes.0 ∙ h.stops.0)));
  in_order = order_each some h.stopped n.desks (λ e. Go e ∷ []) h.goes (order_stays s.desks h.stopped h.stops.0 names whole.in_order);
  desks = one;
}
  where
    some : Listed
    some = take h.count l

    limits : n.state.limits ≡ s.state.limits
    limits = ap (λ (v : EnvValue). v.limits) h.state_is ∙ limits_all s.state some

    most : n.state.limits.calls ≡ s.state.limits.calls
    most = ap (λ (v : Limits). v.calls) limits

    names : (k : ℕ) → thread_at h.stopped k ≡ thread_at s.desks k
    names = each_name s.desks h.stopped h.stops.0 (λ i p q a b. subject_stays (is_listed i some) (is_listed i l) p q (Stop p.env ∷ []) (h.stops.1 i p q a b))

    listed : (i : ℕ) (p y q : DeskState) → is_listed i some ≡ true → slice_get s.desks i ≡ Some p → slice_get h.stopped i ≡ Some y → slice_get n.desks i ≡ Some q → IsDesk n i q
    listed i p y q is at mid e =
        let a : HasAdded p y (Stop p.env ∷ []) = subst (λ (b : Bool). AtDeskOf b (is_listed i l) p y (Stop p.env ∷ [])) is (h.stops.1 i p y at mid) in
        let b = has_added some h.stopped n.desks (λ e. Go e ∷ []) i y q h.goes is mid e in
        let old = whole.desks i p at in
        let stopped : calls_spent y.env y.view.mine ≡ calls_spent p.env p.view.mine + 1 = (λ j. calls_spent (a.same.env j) (a.mine j)) ∙ more_spent p.env p.view.mine (Stop p.env) (stop_costs p.env) in
        let gone : calls_spent q.env q.view.mine ≡ calls_spent y.env y.view.mine = (λ j. calls_spent (b.same.env j) (b.mine j)) ∙ go_costs y.env y.view.mine in
        let spent : spent_at n.state (record { 0 = i }) ≡ spent_at s.state (record { 0 = i }) + 1 = ap (λ (v : EnvValue). spent_at v (record { 0 = i })) h.state_is ∙ spent_listed s.state some (length s.desks) i (distinct_some h.count l distinct) (there_some (length s.desks) h.count l there) whole.count is in
        let left : spent_at s.state (record { 0 = i }) < s.state.limits.calls = left_some s.state (record { 0 = i }) (paid_listed s.state some i (paid_some s.state h.count l paid) is) in
        record {
          env_is = b.same.env ∙ (a.same.env ∙ (old.env_is ∙ sym h.env_is));
          about = ap (λ (v : Subject). v.limits) (b.goes.subject ∙ a.goes.subject) ∙ (old.about ∙ sym limits);
          free = (λ j. stops_by (b.same.env j) (b.mine j)) ∙ stops_go y.env y.view.mine;
          paid = omega (arith, old.paid, stopped, gone, spent, left, most);
          within = omega (arith, old.within, ap (λ (t : List Ticket). length t) (b.posted ∙ a.posted), ap (λ (v : Limits). v.window) limits);
        }

    unlisted : (i : ℕ) (p y q : DeskState) → is_listed i some ≡ false → slice_get s.desks i ≡ Some p → slice_get h.stopped i ≡ Some y → slice_get n.desks i ≡ Some q → IsDesk n i q
    unlisted i p y q is at mid e =
        let looked : HasLooked p y = looked_if (is_listed i l) p y (Stop p.env ∷ []) (subst (λ (b : Bool). AtDeskOf b (is_listed i l) p y (Stop p.env ∷ [])) is (h.stops.1 i p y at mid)) in
        let still : q ≡ y = unlisted_stays some h.stopped n.desks (λ e. Go e ∷ []) i y q h.goes is mid e in
        let same = looked_mine p y looked in
        let old = whole.desks i p at in
        let calls : calls_spent y.env y.view.mine ≡ calls_spent p.env p.view.mine = λ j. calls_spent (same.0 j) (same.1 j) in
        let spent : spent_at n.state (record { 0 = i }) ≡ spent_at s.state (record { 0 = i }) = ap (λ (v : EnvValue). spent_at v (record { 0 = i })) h.state_is ∙ (untouched s.state some (record { 0 = i }) is).spent in
        let was : IsDesk n i y = record {
          env_is = same.0 ∙ (old.env_is ∙ sym h.env_is);
          about = ap (λ (v : Subject). v.limits) same.2 ∙ (old.about ∙ sym limits);
          free = (λ j. stops_by (same.0 j) (same.1 j)) ∙ old.free;
          paid = omega (arith, old.paid, calls, spent, most);
          within = omega (arith, old.within, ap (λ (t : List Ticket). length t) (looked_posted p y looked), ap (λ (v : Limits). v.window) limits);
        } in
        subst (λ (x : DeskState). IsDesk n i x) (sym still) was

    one : (i : ℕ) (q : DeskState) → slice_get n.desks i ≡ Some q → IsDesk n i q
    one i q e =
        let w = was_there some h.stopped n.desks (λ e. Go e ∷ []) i q h.goes e in
        let p : DeskState = slice_index_or s.desks i q in
        let at : slice_get s.desks i ≡ Some p = at_index s.desks i q (let r = in_range h.stopped i w.0 w.1 in omega (arith, r, h.stops.0)) in
        elim (cases_Bool (is_listed i some)) [
          | inl is ↦ listed i p w.0 q is at w.1 e
          | inr is ↦ unlisted i p w.0 q is at w.1 e
        ]
