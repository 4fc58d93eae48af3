use Rattle.std.proofs.Common.{rules, ◌≡◌, ◌<◌, ◌≤◌, ◌++◌, ◌∷◌, [], ℤ, w32, to_z, of_z, length, ap, arith, subst, sym, ◌∙◌}
use Rattle.std.specs.Prelude.{List, slice_index_or, slice_set, vec_capacity, vec_len}
use Rattle.ti_types.specs.Answer.{said}
use Rattle.ti_types.specs.Numbers.{or_zero}
use Rattle.ti_types.specs.declared.entry.Entry.TheVariants.{Read}
use Rattle.ti_types.specs.declared.numbers.ThreadNo.{ThreadNo}
use Rattle.ti_env.proofs.LeftLaws.{left_some}
use Rattle.ti_slot.specs.Waiting.{HasRoomFor}
use Rattle.ti_vmop.specs.Turns.{HasAdded, IsRead, MayRead}
use Rattle.ti_types.specs.Frames.{Trace}
use Rattle.ti_types.specs.declared.stack.StackInfo.{StackInfo}
use Rattle.ti_agent.specs.Gathering.{Gathered, IsAtWork}
use Rattle.ti_agent.specs.Traces.{told_info, told_stack}
use Rattle.ti_agent.specs.declared.gathering.Phase.TheVariants as phase
use Rattle.ti_agent.proofs.AtWork.{buffer_back, read_may, read_paid, was_read}
use Rattle.ti_agent.proofs.StepByStep.{with_read}
use Rattle.ti_agent.specs.HousedTrace.{envs_of}
use Rattle.ti_agent.proofs.AtHome.{same_trace}
use Rattle.ti_agent.proofs.gathering.Gathering.read_next.Given.{Over}
use Rattle.ti_agent.proofs.gathering.Gathering.read_next.Goals.{After-thread-thread}
use Rattle.ti_agent.proofs.gathering.Gathering.read_next.Goals as goal

-- the trace as its fields have it
abbrev trace : (g : Over) (c : After-thread-thread g) → Gathered
trace g c = record { began = envs_of c.self.inside.began.items; now = record { env = c.self.inside.env; state = c.self.inside.state; desks = c.self.inside.desks }; stopping = c.self.inside.stopping.items; places = c.self.inside.places.items; max_count = c.self.inside.max_count; is_alive_only = c.self.inside.is_alive_only; bufs = c.self.inside.bufs.items; infos = c.self.inside.infos.items; phase = c.self.inside.phase }

is : (g : Over) (c : After-thread-thread g) → (trace g c).phase ≡ phase.Reading
is g c = ap (λ (z : Gathered). z.phase) (same_trace c.self.view_is) ∙ c.requires.at

within : (g : Over) (c : After-thread-thread g) → length (trace g c).infos < length (trace g c).places
within g c = subst (λ (z : Gathered). length z.infos < length z.places) (sym (same_trace c.self.view_is)) c.requires.next

place : (g : Over) (c : After-thread-thread g) → c.index-place.result.now ≡ slice_index_or (trace g c).places (length (trace g c).infos) c.index-place.result.now
place g c =
    let count : vec_len c.self.inside.infos ≡ length c.self.inside.infos.items = search rules in
    c.index-place.ensures ∙ ap (λ n. slice_index_or (trace g c).places n c.index-place.result.now) (c.len.ensures ∙ count)

-- a count that was passed on
same_count : (g : Over) (c : After-thread-thread g) → to_z w32 (of_z w32 c.self.inside.max_count) ≡ c.self.inside.max_count
same_count g c = search rules

may : (g : Over) (c : After-thread-thread g) → MayRead c.self.inside.env c.self.inside.state c.index_mut-desk.result.now c.index-place.result.now c.self.inside.max_count c.in-Some.buf
may g c = read_may (trace g c) c.self.invariant.0 c.index-place.result.now c.index_mut-desk.result.now c.pop.new.self.items c.in-Some.buf (is g c) (within g c) (place g c) c.index_mut-desk.ensures.value c.in-Some.ensures.items

pub read_one_now-requires-clause-calls : goal.read_one_now-requires-clause-calls
read_one_now-requires-clause-calls g c =
    let l = (goal.at.read_one_now-requires-clause-calls g c).After-thread-thread in
    omega (arith, (may g l).paid, read_paid (trace g l) c.self.invariant.0 c.index-place.result.now (is g l) (within g l) (place g l))

pub read_one_now-requires-clause-buf : goal.read_one_now-requires-clause-buf
read_one_now-requires-clause-buf g c =
    let l = (goal.at.read_one_now-requires-clause-buf g c).After-thread-thread in
    subst (λ (m : ℤ). HasRoomFor c.index_mut-desk.result.now.view.subject.limits (or_zero m) c.in-Some.buf) (sym (same_count g l)) (may g l).room

pub read_one_now-requires-clause-stands : goal.read_one_now-requires-clause-stands
read_one_now-requires-clause-stands g c = (may g (goal.at.read_one_now-requires-clause-stands g c).After-thread-thread).stands

pub spend-requires-clause-left : goal.spend-requires-clause-left
spend-requires-clause-left g c =
    let l = (goal.at.spend-requires-clause-left g c).After-thread-thread in
    left_some c.self.inside.state c.index-place.result.now (read_paid (trace g l) c.self.invariant.0 c.index-place.result.now (is g l) (within g l) (place g l))

pub invariant_of-self : goal.invariant_of-self
invariant_of-self g c =
    let l = (goal.at.invariant_of-self g c).After-thread-thread in
    let p = c.index_mut-desk.result.now in
    let q = c.read_one_now.new.desk in
    let a = said c.in-Ok.answer in
    let info = c.told_of.result in
    let added = subst (λ (m : ℤ). HasAdded p q (Read p.env m ∷ [])) (same_count g l) c.in-Ok.ensures.added in
    let read = subst (λ (m : ℤ). IsRead p q m a) (same_count g l) c.in-Ok.ensures.read in
    let thread = c.thread-thread.ensures in
    let told : told_info info ∷ [] ≡ told_stack p.view.subject.thread a = c.told_of.ensures.told ∙ ap (λ (t : ThreadNo). told_stack t a) thread in
    let at = was_read (trace g l) c.self.invariant.0 c.index-place.result.now p q c.spend.new.self a info c.pop.new.self.items c.in-Some.buf (is g l) (within g l) (place g l) c.index_mut-desk.ensures.value added read c.spend.ensures told (c.told_of.ensures.thread ∙ thread) c.in-Some.ensures.items in
    let pushed : c.self.inside.infos.items ++ info ∷ [] ≡ c.push_reserved.new.self.items = sym c.push_reserved.ensures.items in
    let room : length c.self.inside.places.items ≤ vec_capacity c.push_reserved.new.self = subst (λ n. length c.self.inside.places.items ≤ n) (sym c.push_reserved.ensures.capacity) c.self.invariant.1 in
    (subst (λ (v : List StackInfo). IsAtWork (with_read (trace g l) c.spend.new.self (slice_set c.self.inside.desks c.index-place.result.now.0 q) c.pop.new.self.items v)) pushed at, room, c.self.invariant.2)

pub invariant_of-self-in-Err : goal.invariant_of-self-in-Err
invariant_of-self-in-Err g c =
    let l = (goal.at.invariant_of-self-in-Err g c).After-thread-thread in
    let busy = c.in-Err.ensures.busy in
    let back : c.push_reserved-in-Err.new.self.items ≡ c.self.inside.bufs.items = c.push_reserved-in-Err.ensures.items ∙ (ap (λ (b : Trace). c.pop.new.self.items ++ b ∷ []) busy.0 ∙ sym c.in-Some.ensures.items) in
    (buffer_back (trace g l) c.self.invariant.0 c.index-place.result.now.0 c.index_mut-desk.result.now c.read_one_now.new.desk c.push_reserved-in-Err.new.self.items c.index_mut-desk.ensures.value busy.1 back, c.self.invariant.1, c.self.invariant.2)
