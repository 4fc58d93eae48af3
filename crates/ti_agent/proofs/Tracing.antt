-- An environment while its threads are stopped, read and let go.
use Rattle.std.proofs.Common.{◌≡◌, ◌≢◌, ℕ, ℤ, zero, suc, ◌+◌, ◌-◌, ◌<◌, Bool, true, false, inl, inr, List, [], ◌∷◌, ◌++◌, length, take, drop, refl, ap, sym, ◌∙◌, arith, subst, eq-eqb, ne_eqb, nat_lt, length-set, length-append, append_assoc, Some, if◌then◌else◌}
use Rattle.std.specs.Prelude.{slice_get, slice_index_or, slice_index}
use Rattle.std.proofs.lemmas.Bool.{cases_eq, cases_Bool}
use Rattle.std.proofs.lemmas.Bool.Decides.{nat_tests}
use Rattle.std.proofs.lemmas.List.Sums.{fold-append, sum_by-append}
use Rattle.ti_types.specs.declared.answer.Answer.{Answer}
use Rattle.ti_types.specs.declared.entry.Entry.{Entry}
use Rattle.ti_types.specs.declared.entry.Entry.TheVariants.{Stop, Read, Go}
use Rattle.ti_types.specs.declared.event.Ticket.{Ticket}
use Rattle.ti_types.specs.declared.limits.Limits.{Limits}
use Rattle.ti_types.specs.declared.numbers.EnvNo.{EnvNo}
use Rattle.ti_types.specs.declared.numbers.ThreadNo.{ThreadNo}
use Rattle.ti_types.specs.Frames as buffer
use Rattle.ti_types.specs.Numbers.{or_zero}
use Rattle.ti_env.specs.Env.{EnvValue, left_at, spent_at, with_spent}
use Rattle.ti_env.proofs.LeftLaws.{left_is, left_some}
use Rattle.ti_replay.specs.Legal.{calls_spent, call_cost}
use Rattle.ti_replay.specs.Standing.{is_standing}
use Rattle.ti_cell.specs.declared.view.Subject.{Subject}
use Rattle.ti_slot.specs.Waiting.{HasRoomFor}
use Rattle.ti_handshake.specs.Desk.{DeskState}
use Rattle.ti_replay.specs.Fronts.{stops_by, stops_after}
use Rattle.ti_vmop.specs.Turns.{Listed, is_listed, AreDistinct, AreThere, are_paid, MayStop, MayRead, AreOneEnvironments, spend_all, AtEach, AllStand, IsRead}
use Rattle.ti_vmop.proofs.Each.{in_range, untouched}
use Rattle.ti_vmop.proofs.Uses.{was_there, has_added, unlisted_stays, spent_then, more_spent}
use Rattle.ti_agent.specs.Env.{Environment, IsDesk, IsWhole}
use Rattle.ti_agent.specs.Traces.{Telling, ReadsOne, ReadsEach, told_stack, told_each, Told, IsStopped, AreStopped, times, are_there, is_stack, each_once, AreLeft, AreListed, HasRead, told_info}
use Rattle.ti_agent.specs.Buffers.{AreRoomy, HasJustRoomFor}
use Rattle.std.proofs.lemmas.List.{map-append}
use Rattle.ti_vmop.specs.Turns.{Stood, with_reads, one_read_more}
use Rattle.std.specs.Prelude.{◌^◌}
use Rattle.ti_types.specs.declared.stack.StackInfo.{StackInfo}
use Rattle.ti_agent.proofs.Places.{order_each}
use Rattle.ti_agent.proofs.Whole.{set_other, just_room}
use Rattle.ti_agent.proofs.Listing.{times_high, times_here, listed_once, distinct_once, there_once, paid_for, are_listed}

-- Before the stops

pub may_stop : (s : Environment) (i : ℕ) (p : DeskState) → IsWhole s → slice_get s.desks i ≡ Some p → MayStop p.view.subject.limits s.state p (record { 0 = i })
may_stop s i p whole at =
    let d = whole.desks i p at in
    let left = left_is s.state (record { 0 = i }) (let r = in_range s.desks i p at in omega (arith, r, whole.count)) in
    let calls : p.view.subject.limits.calls ≡ s.state.limits.calls = ap (λ x. x.calls) d.about in
    record { free = d.free; paid = omega (arith, d.paid, left, calls) }

pub one_environment : (s : Environment) → IsWhole s → AreOneEnvironments s.env s.desks
one_environment s whole i p at = (whole.desks i p at).env_is

pub distinct_in : (l : Listed) (n : ℕ) (t : List ThreadNo) → l ≡ each_once n t → AreDistinct l
distinct_in l n t is = subst AreDistinct (sym is) (distinct_once n t)

pub there_in : (l : Listed) (n m : ℕ) (t : List ThreadNo) → l ≡ each_once n t → n ≡ m → AreThere m l
there_in l n m t is same = subst (λ (z : ℕ × Listed). AreThere z.0 z.1) (λ j. (same j, sym is j)) (there_once n t)

pub all_listed : (l : Listed) (n : ℕ) (t : List ThreadNo) → l ≡ each_once n t → are_there n t ≡ true → AreListed l t
all_listed l n t is there = subst (λ (z : Listed). AreListed z t) (sym is) (are_listed n t there)

-- What the stops spend

pub limits_all : (s : EnvValue) (l : Listed) → (spend_all s l).limits ≡ s.limits
limits_all s [] = refl
limits_all s (y ∷ l) = limits_all (with_spent s y.0) l

pub count_spent : (s : EnvValue) (l : Listed) → length (spend_all s l).spent ≡ length s.spent
count_spent s [] = refl
count_spent s (y ∷ l) = count_spent (with_spent s y.0) l ∙ length-set s.spent y.0.0 (spent_at s y.0 + 1)

pub spent_listed : (s : EnvValue) (l : Listed) (n i : ℕ) → AreDistinct l → AreThere n l → length s.spent ≡ n → is_listed i l ≡ true → spent_at (spend_all s l) (record { 0 = i }) ≡ spent_at s (record { 0 = i }) + 1
spent_listed s [] n i d t count h = cc
spent_listed s (y ∷ l) n i d t count h =
    let here : y.0.0 < n = grind (arith, nat_tests, t) in
    elim (cases_eq y.0.0 i) [
      | inl same ↦
          let gone : is_listed i l ≡ false = subst (λ (j : ℕ). is_listed j l ≡ false) same d.0 in
          let u = untouched (with_spent s y.0) l (record { 0 = i }) gone in
          let now : slice_index (with_spent s y.0).spent i ≡ slice_index s.spent i + 1 = subst (λ (j : ℕ). slice_index (with_spent s y.0).spent j ≡ slice_index s.spent j + 1) same (spent_then s y.0 (omega (arith, here, count))) in
          u.spent ∙ now
      | inr other ↦
          let rest : is_listed i l ≡ true = grind (arith, ne_eqb y.0.0 i other, h) in
          let there : AreThere n l = grind (arith, t) in
          let still : slice_index (with_spent s y.0).spent i ≡ slice_index s.spent i = set_other s.spent y.0.0 i (spent_at s y.0 + 1) other in
          spent_listed (with_spent s y.0) l n i d.1 there (length-set s.spent y.0.0 (spent_at s y.0 + 1) ∙ count) rest ∙ ap (λ (v : ℕ). v + 1) still
    ]

pub paid_listed : (s : EnvValue) (l : Listed) (i : ℕ) → are_paid s l ≡ true → is_listed i l ≡ true → 0 < left_at s (record { 0 = i })
paid_listed s [] i paid h = cc
paid_listed s (y ∷ l) i paid h =
    elim (cases_eq y.0.0 i) [
      | inl same ↦
          let some : 0 < left_at s y.0 = grind (arith, nat_tests, paid) in
          subst (λ (j : ℕ). 0 < left_at s (record { 0 = j })) same some
      | inr other ↦
          let rest : is_listed i l ≡ true = grind (arith, ne_eqb y.0.0 i other, h) in
          let still : are_paid s l ≡ true = grind (arith, paid) in
          paid_listed s l i still rest
    ]

pub stop_costs : (env : EnvNo) → call_cost env (Stop env) ≡ 1
stop_costs env = ap (λ (b : Bool). if b then 1 else 0) (eq-eqb env.0 env.0 refl)

read_costs : (env : EnvNo) (m : ℤ) → call_cost env (Read env m) ≡ 1
read_costs env m = ap (λ (b : Bool). if b then 1 else 0) (eq-eqb env.0 env.0 refl)

pub stops_go : (env : EnvNo) (mine : List Entry) → stops_by env (mine ++ Go env ∷ []) ≡ false
stops_go env mine = fold-append (stops_after env) false mine (Go env ∷ []) ∙ ap (λ (b : Bool). if b then false else stops_by env mine) (eq-eqb env.0 env.0 refl)

pub go_costs : (env : EnvNo) (mine : List Entry) → calls_spent env (mine ++ Go env ∷ []) ≡ calls_spent env mine
go_costs env mine = sum_by-append (call_cost env) mine (Go env ∷ []) ∙ omega arith

-- After the stops

abbrev pub with_desks : Environment → EnvValue → List DeskState → Environment
with_desks s state desks = record { env = s.env; state = state; desks = desks }

pub held_after_stops : (s : Environment) (l : Listed) (z : EnvValue) (ds : List DeskState) → IsWhole s → AreDistinct l → AreThere (length s.desks) l → are_paid s.state l ≡ true → z ≡ spend_all s.state l
    → AtEach l s.desks ds (λ e. Stop e ∷ []) → AllStand l ds → AreStopped (with_desks s z ds) l
held_after_stops s l z ds whole distinct there paid spends each stand = record {
  count = ap (λ (v : EnvValue). length v.spent) spends ∙ (count_spent s.state l ∙ (whole.count ∙ sym each.0));
  in_order = order_each l s.desks ds (λ e. Stop e ∷ []) each whole.in_order;
  desks = one;
}
  where
    limits : z.limits ≡ s.state.limits
    limits = ap (λ (v : EnvValue). v.limits) spends ∙ limits_all s.state l

    listed : (i : ℕ) (p q : DeskState) → is_listed i l ≡ true → slice_get s.desks i ≡ Some p → slice_get ds i ≡ Some q → IsStopped (with_desks s z ds) l i q
    listed i p q is at e =
        let h = has_added l s.desks ds (λ e. Stop e ∷ []) i p q each is at e in
        let old = whole.desks i p at in
        let calls : calls_spent q.env q.view.mine ≡ calls_spent p.env p.view.mine + 1 = (λ j. calls_spent (h.same.env j) (h.mine j)) ∙ more_spent p.env p.view.mine (Stop p.env) (stop_costs p.env) in
        let spent : spent_at z (record { 0 = i }) ≡ spent_at s.state (record { 0 = i }) + 1 = ap (λ (v : EnvValue). spent_at v (record { 0 = i })) spends ∙ spent_listed s.state l (length s.desks) i distinct there whole.count is in
        let some : spent_at s.state (record { 0 = i }) < s.state.limits.calls = left_some s.state (record { 0 = i }) (paid_listed s.state l i paid is) in
        let most : z.limits.calls ≡ s.state.limits.calls = ap (λ (v : Limits). v.calls) limits in
        record {
          env_is = h.same.env ∙ old.env_is;
          about = ap (λ (v : Subject). v.limits) h.goes.subject ∙ (old.about ∙ sym limits);
          stands = λ b. stand i q e is;
          free = λ no'. (let o : true ≡ false = sym is ∙ no' in cc);
          paid = omega (arith, old.paid, calls, spent, some, most);
          within = omega (arith, old.within, ap (λ (t : List Ticket). length t) h.posted, ap (λ (v : Limits). v.window) limits);
        }

    unlisted : (i : ℕ) (p q : DeskState) → is_listed i l ≡ false → slice_get s.desks i ≡ Some p → slice_get ds i ≡ Some q → IsStopped (with_desks s z ds) l i q
    unlisted i p q is at e =
        let still : q ≡ p = unlisted_stays l s.desks ds (λ e. Stop e ∷ []) i p q each is at e in
        let old = whole.desks i p at in
        let u = untouched s.state l (record { 0 = i }) is in
        let spent : spent_at z (record { 0 = i }) ≡ spent_at s.state (record { 0 = i }) = ap (λ (v : EnvValue). spent_at v (record { 0 = i })) spends ∙ u.spent in
        let most : z.limits.calls ≡ s.state.limits.calls = ap (λ (v : Limits). v.calls) limits in
        let was : IsStopped (with_desks s z ds) l i p = record {
          env_is = old.env_is;
          about = old.about ∙ sym limits;
          stands = λ yes'. (let o : true ≡ false = sym yes' ∙ is in cc);
          free = λ b. old.free;
          paid = omega (arith, old.paid, spent, most);
          within = omega (arith, old.within, ap (λ (v : Limits). v.window) limits);
        } in
        subst (λ (x : DeskState). IsStopped (with_desks s z ds) l i x) (sym still) was

    one : (i : ℕ) (q : DeskState) → slice_get ds i ≡ Some q → IsStopped (with_desks s z ds) l i q
    one i q e =
        let w = was_there l s.desks ds (λ e. Stop e ∷ []) i q each e in
        elim (cases_Bool (is_listed i l)) [
          | inl is ↦ listed i w.0 q is w.1 e
          | inr is ↦ unlisted i w.0 q is w.1 e
        ]

-- what is left to each thread of a list, after the stops
pub left_in : (s z : EnvValue) (l : List ThreadNo) (stopping : Listed) → stopping ≡ each_once (length s.spent) l → are_there (length s.spent) l ≡ true → are_paid s stopping ≡ true → z ≡ spend_all s stopping → AreLeft z l
left_in s z l stopping is there paid spends i =
    elim (cases_eq (times i l) 0) [
      | inl none ↦ omega (arith, none)
      | inr some ↦
          let within : i < n = elim (cases_Bool (nat_lt i n)) [
            | inl yes' ↦ grind (arith, nat_tests, yes')
            | inr no' ↦ absurd (some (times_high n i l there (grind (arith, nat_tests, no'))))
          ] in
          let listed : is_listed i once ≡ true = listed_once n i l within some in
          let enough : times i l < left_at s (record { 0 = i }) = paid_for s n i l within (ap (are_paid s) (sym is) ∙ paid) some in
          let left : left_at s (record { 0 = i }) ≡ s.limits.calls - spent_at s (record { 0 = i }) = left_is s (record { 0 = i }) within in
          let spent : spent_at z (record { 0 = i }) ≡ spent_at s (record { 0 = i }) + 1 = ap (λ (v : EnvValue). spent_at v (record { 0 = i })) stops ∙ spent_listed s once n i (distinct_once n l) (there_once n l) refl listed in
          let many : length z.spent ≡ length s.spent = ap (λ (v : EnvValue). length v.spent) stops ∙ count_spent s once in
          let most : z.limits.calls ≡ s.limits.calls = ap (λ (v : EnvValue). v.limits.calls) stops ∙ ap (λ (v : Limits). v.calls) (limits_all s once) in
          let now : left_at z (record { 0 = i }) ≡ z.limits.calls - spent_at z (record { 0 = i }) = left_is z (record { 0 = i }) (omega (arith, within, many)) in
          omega (arith, enough, left, spent, most, now)
    ]
  where
    n : ℕ
    n = length s.spent

    once : Listed
    once = each_once n l

    stops : z ≡ spend_all s once
    stops = spends ∙ ap (spend_all s) is

-- Reads

pub may_read : (s : Environment) (l : Listed) (t : ThreadNo) (p : DeskState) (m : ℤ) (b : buffer.Trace) → AreStopped s l → is_listed t.0 l ≡ true → slice_get s.desks t.0 ≡ Some p → HasRoomFor s.state.limits (or_zero m) b
    → MayRead s.env s.state p t m b
may_read s l t p m b held listed at room =
    let d = held.desks t.0 p at in
    let left = left_is s.state t (let r = in_range s.desks t.0 p at in omega (arith, r, held.count)) in
    let calls : p.view.subject.limits.calls ≡ s.state.limits.calls = ap (λ x. x.calls) d.about in
    record {
      env_is = d.env_is;
      stands = d.stands listed;
      paid = omega (arith, d.paid, left, calls);
      room = subst (λ (x : Limits). HasRoomFor x (or_zero m) b) (sym d.about) room;
    }

pub held_after_read : (s n : Environment) (l : Listed) (m : ℤ) (x : Telling) → AreStopped s l → is_listed x.place.0 l ≡ true → 0 < left_at s.state x.place → x.place.0 < length s.desks → ReadsOne s n m x → AreStopped n l
held_after_read s n l m x held is_in left there r = record {
  count = ap (λ (v : EnvValue). length v.spent) r.state_is ∙ (length-set s.state.spent x.place.0 (spent_at s.state x.place + 1) ∙ (held.count ∙ sym r.desks.0));
  in_order = order_each ((x.place, 0) ∷ []) s.desks n.desks (λ e. Read e m ∷ []) r.desks held.in_order;
  desks = one;
}
  where
    here : Listed
    here = (x.place, 0) ∷ []

    limits : n.state.limits ≡ s.state.limits
    limits = ap (λ (v : EnvValue). v.limits) r.state_is

    most : n.state.limits.calls ≡ s.state.limits.calls
    most = ap (λ (v : Limits). v.calls) limits

    read : (i : ℕ) (p q : DeskState) → x.place.0 ≡ i → slice_get s.desks i ≡ Some p → slice_get n.desks i ≡ Some q → IsStopped n l i q
    read i p q same at e =
        let listed : is_listed i ((x.place, 0) ∷ []) ≡ true = grind (arith, eq-eqb x.place.0 i same) in
        let h = has_added ((x.place, 0) ∷ []) s.desks n.desks (λ e. Read e m ∷ []) i p q r.desks listed at e in
        let old = held.desks i p at in
        let told : IsRead p q m x.answer = r.answer_is p q (subst (λ (j : ℕ). slice_get s.desks j ≡ Some p) (sym same) at) (subst (λ (j : ℕ). slice_get n.desks j ≡ Some q) (sym same) e) in
        let calls : calls_spent q.env q.view.mine ≡ calls_spent p.env p.view.mine + 1 = (λ j. calls_spent (h.same.env j) (h.mine j)) ∙ more_spent p.env p.view.mine (Read p.env m) (read_costs p.env m) in
        let first : slice_index n.state.spent x.place.0 ≡ slice_index s.state.spent x.place.0 + 1 = ap (λ (v : EnvValue). slice_index v.spent x.place.0) r.state_is ∙ spent_then s.state x.place (omega (arith, there, held.count)) in
        let spent : slice_index n.state.spent i ≡ slice_index s.state.spent i + 1 = subst (λ (j : ℕ). slice_index n.state.spent j ≡ slice_index s.state.spent j + 1) same first in
        let some : slice_index s.state.spent i < s.state.limits.calls = subst (λ (j : ℕ). slice_index s.state.spent j < s.state.limits.calls) same (left_some s.state x.place left) in
        record {
          env_is = h.same.env ∙ (old.env_is ∙ sym r.env_is);
          about = ap (λ (v : Subject). v.limits) h.goes.subject ∙ (old.about ∙ sym limits);
          stands = λ b. subst (λ (z : Limits × EnvNo). is_standing z.0 q.view.seen z.1 ≡ true) (λ j. ((sym h.goes.subject j).limits, sym h.same.env j)) told.stands;
          free = λ no'. (let o : true ≡ false = sym is_in ∙ (ap (λ (j : ℕ). is_listed j l) same ∙ no') in cc);
          paid = omega (arith, old.paid, calls, spent, some, most);
          within = omega (arith, old.within, ap (λ (t : List Ticket). length t) h.posted, ap (λ (v : Limits). v.window) limits);
        }

    other_desk : (i : ℕ) (p q : DeskState) → x.place.0 ≢ i → slice_get s.desks i ≡ Some p → slice_get n.desks i ≡ Some q → IsStopped n l i q
    other_desk i p q apart at e =
        let unlisted : is_listed i ((x.place, 0) ∷ []) ≡ false = grind (arith, ne_eqb x.place.0 i apart) in
        let still : q ≡ p = unlisted_stays ((x.place, 0) ∷ []) s.desks n.desks (λ e. Read e m ∷ []) i p q r.desks unlisted at e in
        let old = held.desks i p at in
        let spent : slice_index n.state.spent i ≡ slice_index s.state.spent i = ap (λ (v : EnvValue). slice_index v.spent i) r.state_is ∙ set_other s.state.spent x.place.0 i (spent_at s.state x.place + 1) apart in
        let was : IsStopped n l i p = record {
          env_is = old.env_is ∙ sym r.env_is;
          about = old.about ∙ sym limits;
          stands = old.stands;
          free = old.free;
          paid = omega (arith, old.paid, spent, most);
          within = omega (arith, old.within, ap (λ (v : Limits). v.window) limits);
        } in
        subst (λ (v : DeskState). IsStopped n l i v) (sym still) was

    one : (i : ℕ) (q : DeskState) → slice_get n.desks i ≡ Some q → IsStopped n l i q
    one i q e =
        let w = was_there ((x.place, 0) ∷ []) s.desks n.desks (λ e. Read e m ∷ []) i q r.desks e in
        elim (cases_eq x.place.0 i) [
          | inl same ↦ read i w.0 q same w.1 e
          | inr apart ↦ other_desk i w.0 q apart w.1 e
        ]

-- what is left to the others, and to the same thread later
pub left_then : (s z : EnvValue) (x : ThreadNo) (rest : List ThreadNo) → AreLeft s (x ∷ rest) → z ≡ with_spent s x → x.0 < length s.spent → AreLeft z rest
left_then s z x rest left spends there i =
    elim (cases_eq x.0 i) [
      | inl same ↦
          let more : times i (x ∷ rest) ≡ suc (times i rest) = grind (arith, eq-eqb x.0 i same) in
          let now : slice_index z.spent i ≡ slice_index s.spent i + 1 = ap (λ (v : EnvValue). slice_index v.spent i) spends ∙ subst (λ (j : ℕ). slice_index (with_spent s x).spent j ≡ slice_index s.spent j + 1) same (spent_then s x there) in
          let was = left_is s (record { 0 = i }) (omega (arith, same, there)) in
          let is = left_is z (record { 0 = i }) (omega (arith, same, there, count)) in
          omega (arith, left i, more, now, was, is, most)
      | inr apart ↦
          let more : times i (x ∷ rest) ≡ times i rest = grind (arith, ne_eqb x.0 i apart) in
          let still : slice_index z.spent i ≡ slice_index s.spent i = ap (λ (v : EnvValue). slice_index v.spent i) spends ∙ set_other s.spent x.0 i (spent_at s x + 1) apart in
          let same_left : left_at z (record { 0 = i }) ≡ left_at s (record { 0 = i }) = λ j. (if nat_lt i (count j) then most j - still j else 0) in
          omega (arith, left i, more, same_left)
    ]
  where
    count : length z.spent ≡ length s.spent
    count = ap (λ (v : EnvValue). length v.spent) spends ∙ length-set s.spent x.0 (spent_at s x + 1)

    most : z.limits.calls ≡ s.limits.calls
    most = ap (λ (v : EnvValue). v.limits.calls) spends

-- one read more
pub reads_more : (old now new : Environment) (m : ℤ) (xs : List Telling) (x : Telling) → ReadsEach old now m xs → ReadsOne now new m x → ReadsEach old new m (xs ++ x ∷ [])
reads_more old now new m [] x done one = (new, subst (λ (s : Environment). ReadsOne s new m x) done one, refl)
reads_more old now new m (y ∷ ys) x done one = (done.0, done.1, reads_more done.0 now new m ys x done.2 one)

pub told_more : (xs : List Telling) (x : Telling) → told_each (xs ++ x ∷ []) ≡ told_each xs ++ told_stack x.thread x.answer
told_more [] x = append-none (told_stack x.thread x.answer)
  where
    append-none : (l : List Told) → l ++ [] ≡ l
    append-none [] = refl
    append-none (y ∷ ys) = ap (λ (v : List Told). y ∷ v) (append-none ys)
told_more (y ∷ ys) x = ap (λ (v : List Told). told_stack y.thread y.answer ++ v) (told_more ys x) ∙ sym (append_assoc (told_stack y.thread y.answer) (told_each ys) (told_stack x.thread x.answer))

pub has_read_more : (old now new : Environment) (m : ℤ) (ps ts : List ThreadNo) (x : Telling) (infos : List StackInfo) (info : StackInfo) → HasRead old now m ps ts infos → ReadsOne now new m x
    → told_info info ∷ [] ≡ told_stack x.thread x.answer → info.thread ≡ x.thread → HasRead old new m (ps ++ x.place ∷ []) (ts ++ x.thread ∷ []) (infos ++ info ∷ [])
has_read_more old now new m ps ts x infos info done one tells same = record {
  tellings = done.tellings ++ x ∷ [];
  reads = reads_more old now new m done.tellings x done.reads one;
  at_each = map-append (λ y. y.place) done.tellings (x ∷ []) ∙ ap (λ (v : List ThreadNo). v ++ x.place ∷ []) done.at_each;
  of_each = map-append (λ y. y.thread) done.tellings (x ∷ []) ∙ ap (λ (v : List ThreadNo). v ++ x.thread ∷ []) done.of_each;
  told = map-append told_info infos (info ∷ []) ∙ ((λ j. done.told j ++ tells j) ∙ sym (told_more done.tellings x));
  each = map-append (λ y. y.thread) infos (info ∷ []) ∙ (λ j. done.each j ++ same j ∷ []);
}

desk_at : (l : List DeskState) (i : ℕ) → i < length l → (p : DeskState) × (slice_get l i ≡ Some p)
desk_at [] i h = absurd (omega (arith, h))
desk_at (x ∷ l) zero h = (x, refl)
desk_at (x ∷ l) (suc i) h = desk_at l i (omega (arith, h))

-- a read tells of a stack
pub tells_stack : (old new : List DeskState) (i : ℕ) (m : ℤ) (a : Answer) → i < length old → length new ≡ length old
    → ((p q : DeskState) → slice_get old i ≡ Some p → slice_get new i ≡ Some q → IsRead p q m a) → is_stack a ≡ true
tells_stack old new i m a here same read =
    let p = desk_at old i here in
    let q = desk_at new i (omega (arith, here, same)) in
    ap is_stack (read p.0 q.0 p.1 q.1).tells.1

pub left_one : (s : EnvValue) (x : ThreadNo) (rest : List ThreadNo) → AreLeft s (x ∷ rest) → 0 < left_at s x
left_one s x rest left = omega (arith, left x.0, times_here x.0 x rest refl)

pub count_read : (s now new : Stood) (i : ℕ) → i < 2 ^ 64 - 1 → now ≡ with_reads s i → new ≡ with_reads now (one_read_more now.reads) → new ≡ with_reads s (i + 1)
count_read s now new i few is more =
    let one : one_read_more i ≡ i + 1 = grind (arith, nat_tests, few) in
    more ∙ (ap (λ (v : Stood). with_reads v (one_read_more v.reads)) is ∙ ap (with_reads s) one)

-- The last buffer of a list, and the rest

last_is : (l : List buffer.Trace) (b d : buffer.Trace) → slice_index_or (l ++ b ∷ []) (length l) d ≡ b
last_is [] b d = refl
last_is (x ∷ l) b d = last_is l b d

before_last : (l : List buffer.Trace) (b d : buffer.Trace) (k : ℕ) → k < length l → slice_index_or (l ++ b ∷ []) k d ≡ slice_index_or l k d
before_last [] b d k h = absurd (omega (arith, h))
before_last (x ∷ l) b d zero h = refl
before_last (x ∷ l) b d (suc k) h = before_last l b d k (omega (arith, h))

pub roomy_last : (limits : Limits) (m : ℤ) (all rest : List buffer.Trace) (b : buffer.Trace) → AreRoomy limits m all → all ≡ rest ++ b ∷ [] → HasRoomFor limits (or_zero m) b × AreRoomy limits m rest
roomy_last limits m all rest b roomy is =
    let whole : AreRoomy limits m (rest ++ b ∷ []) = subst (AreRoomy limits m) is roomy in
    let count : length (rest ++ b ∷ []) ≡ length rest + 1 = length-append rest (b ∷ []) in (
      just_room limits m b (subst (HasJustRoomFor limits m) (last_is rest b b) (whole (length rest) b (omega (arith, count)))),
      λ k d h. subst (HasJustRoomFor limits m) (before_last rest b d k h) (whole k d (omega (arith, count, h))),
    )

-- After the gos

pub whole_after_go : (s : Environment) (l : Listed) (ds : List DeskState) → AreStopped s l → AtEach l s.desks ds (λ e. Go e ∷ []) → IsWhole (with_desks s s.state ds)
whole_after_go s l ds held each = record {
  count = held.count ∙ sym each.0;
  in_order = order_each l s.desks ds (λ e. Go e ∷ []) each held.in_order;
  desks = one;
}
  where
    listed : (i : ℕ) (p q : DeskState) → is_listed i l ≡ true → slice_get s.desks i ≡ Some p → slice_get ds i ≡ Some q → IsDesk (with_desks s s.state ds) i q
    listed i p q is at e =
        let h = has_added l s.desks ds (λ e. Go e ∷ []) i p q each is at e in
        let old = held.desks i p at in
        let calls : calls_spent q.env q.view.mine ≡ calls_spent p.env p.view.mine = (λ j. calls_spent (h.same.env j) (h.mine j)) ∙ go_costs p.env p.view.mine in
        record {
          env_is = h.same.env ∙ old.env_is;
          about = ap (λ (v : Subject). v.limits) h.goes.subject ∙ old.about;
          free = (λ j. stops_by (h.same.env j) (h.mine j)) ∙ stops_go p.env p.view.mine;
          paid = omega (arith, old.paid, calls);
          within = omega (arith, old.within, ap (λ (t : List Ticket). length t) h.posted);
        }

    unlisted : (i : ℕ) (p q : DeskState) → is_listed i l ≡ false → slice_get s.desks i ≡ Some p → slice_get ds i ≡ Some q → IsDesk (with_desks s s.state ds) i q
    unlisted i p q is at e =
        let still : q ≡ p = unlisted_stays l s.desks ds (λ e. Go e ∷ []) i p q each is at e in
        let old = held.desks i p at in
        let was : IsDesk (with_desks s s.state ds) i p = record { env_is = old.env_is; about = old.about; free = old.free is; paid = old.paid; within = old.within } in
        subst (λ (v : DeskState). IsDesk (with_desks s s.state ds) i v) (sym still) was

    one : (i : ℕ) (q : DeskState) → slice_get ds i ≡ Some q → IsDesk (with_desks s s.state ds) i q
    one i q e =
        let w = was_there l s.desks ds (λ e. Go e ∷ []) i q each e in
        elim (cases_Bool (is_listed i l)) [
          | inl is ↦ listed i w.0 q is w.1 e
          | inr is ↦ unlisted i w.0 q is w.1 e
        ]

-- a list of as many desks in the place of another
pub desks_are : (later old : List DeskState) (n : ℕ) → length later ≡ n → length old ≡ n → take n (later ++ drop (length later) old) ≡ later
desks_are [] [] zero h k = refl
desks_are [] (y ∷ old) n h k = absurd (omega (arith, h, k))
desks_are [] [] (suc n) h k = absurd (omega (arith, h))
desks_are (x ∷ later) old zero h k = absurd (omega (arith, h))
desks_are (x ∷ later) [] (suc n) h k = absurd (omega (arith, k))
desks_are (x ∷ later) (y ∷ old) (suc n) h k = ap (λ (l : List DeskState). x ∷ l) (desks_are later old n (omega (arith, h)) (omega (arith, k)))
