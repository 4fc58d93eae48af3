use Rattle.std.proofs.Common.{rules, ◌≡◌, ◌<◌, ◌+◌, ◌-◌, ◌^◌, ◌++◌, ◌∷◌, [], suc, length, sym, ap, subst, ◌∙◌, refl, w32, to_z, of_z, arith, take, drop, ℤ, List, length-append}
use Rattle.std.specs.Prelude.{slice_index_or}
use Rattle.std.proofs.lemmas.Grind.{take_at_read}
use Rattle.ti_types.specs.declared.numbers.EnvNo.{EnvNo}
use Rattle.ti_types.specs.declared.numbers.ThreadNo.{ThreadNo}
use Rattle.ti_types.specs.declared.limits.Limits.{Limits}
use Rattle.ti_types.specs.Answer.{said}
use Rattle.ti_types.specs.Numbers.{or_zero}
use Rattle.ti_slot.specs.Waiting.{HasRoomFor}
use Rattle.ti_handshake.specs.Desk.{DeskState}
use Rattle.ti_vmop.specs.Turns.{Listed, MayRead, Stood, cells_of}
use Rattle.ti_vmop.proofs.Each.{cells_stay}
use Rattle.ti_agent.specs.Env.{Environment, thread_at, threads_at}
use Rattle.ti_agent.proofs.Places.{names_each, name_of}
use Rattle.ti_types.specs.declared.entry.Entry.TheVariants.{Read}
use Rattle.std.proofs.lemmas.List.{map-append}
use Rattle.ti_agent.specs.Traces.{Telling, ReadsOne, AreLeft, HasRead}
use Rattle.ti_types.specs.declared.stack.StackInfo.{StackInfo}
use Rattle.ti_agent.proofs.Posting.{drop_more}
use Rattle.ti_agent.proofs.Listing.{listed_in, there_listed}
use Rattle.ti_agent.proofs.Tracing.{may_read, held_after_read, left_then, left_one, has_read_more, count_read, roomy_last, tells_stack}
use Rattle.ti_agent.proofs.traces.read_each.Goals as goal

pub read-answer-requires-clause-there : goal.read-answer-requires-clause-there
read-answer-requires-clause-there g c =
    let none : ThreadNo = record { 0 = 0 } in
    let stopping : Listed = c.args.standing.now.threads in
    let listed = listed_in stopping c.args.places.now c.loop-i.i none c.requires.listed c.loop-i-test.true in
    let there = there_listed (length c.args.desks.now) (slice_index_or c.args.places.now c.loop-i.i none).0 stopping c.requires.there listed in
    (omega (arith, there, c.loop-i.auto.desks), c.loop-i.invariant.held.count)

pub read-answer-requires-clause-cells : goal.read-answer-requires-clause-cells
read-answer-requires-clause-cells g c =
    subst (λ (z : Stood). cells_of z.threads c.loop-i.desks ≡ z.cells) (sym c.loop-i.invariant.standing) c.loop-i.invariant.cells

pub told_of-requires : goal.told_of-requires
told_of-requires g c =
    let none : ThreadNo = record { 0 = 0 } in
    let stopping : Listed = c.args.standing.now.threads in
    let m : ℤ = to_z w32 (of_z w32 c.args.max_count) in
    let t : ThreadNo = slice_index_or c.args.places.now c.loop-i.i none in
    let listed = listed_in stopping c.args.places.now c.loop-i.i none c.requires.listed c.loop-i-test.true in
    let there = there_listed (length c.args.desks.now) t.0 stopping c.requires.there listed in
    record { stack = tells_stack c.loop-i.desks c.read-answer.new.desks t.0 m (said c.read-answer.result) (omega (arith, there, c.loop-i.auto.desks)) c.read-answer.ensures.desks.0 c.read-answer.ensures.answer }

pub read-answer-requires-clause-desk : goal.read-answer-requires-clause-desk
read-answer-requires-clause-desk g c p at =
    let before = c.loop-i.invariant in
    let s : Environment = record { env = c.args.standing.now.env; state = c.loop-i.state; desks = c.loop-i.desks } in
    let m : ℤ = to_z w32 (of_z w32 c.args.max_count) in
    let none : ThreadNo = record { 0 = 0 } in
    let l = c.args.places.now in
    let stopping : Listed = c.args.standing.now.threads in
    let t : ThreadNo = slice_index_or l c.loop-i.i none in
    let env : c.loop-i.standing.env ≡ c.args.standing.now.env = ap (λ v. v.env) before.standing in
    let has : HasRoomFor c.args.state.now.limits (or_zero m) c.in-Some.buf = (roomy_last c.args.state.now.limits m _ _ _ before.roomy c.in-Some.ensures.items).0 in
    let room : HasRoomFor c.loop-i.state.limits (or_zero m) c.in-Some.buf = subst (λ (v : Limits). HasRoomFor v (or_zero m) c.in-Some.buf) (sym before.limits) has in
    let may = may_read s stopping t p m c.in-Some.buf before.held (listed_in stopping l c.loop-i.i none c.requires.listed c.loop-i-test.true) at room in
    subst (λ (v : EnvNo). MayRead v c.loop-i.state p t m c.in-Some.buf) (sym env) may

pub loop-i-preserved : goal.loop-i-preserved
loop-i-preserved g c =
    let before = c.loop-i.invariant in
    let i = c.loop-i.i in
    let l = c.args.places.now in
    let stopping : Listed = c.args.standing.now.threads in
    let m : ℤ = to_z w32 (of_z w32 c.args.max_count) in
    let none : ThreadNo = record { 0 = 0 } in
    let t : ThreadNo = slice_index_or l i none in
    let r = c.read-answer.ensures in
    let first : Environment = record { env = c.args.standing.now.env; state = c.args.state.now; desks = c.args.desks.now } in
    let s : Environment = record { env = c.args.standing.now.env; state = c.loop-i.state; desks = c.loop-i.desks } in
    let n : Environment = record { env = c.args.standing.now.env; state = c.read-answer.new.state; desks = c.read-answer.new.desks } in
    let was_there : t.0 < length c.loop-i.desks = omega (arith, there_listed (length c.args.desks.now) t.0 stopping c.requires.there (listed_in stopping l i none c.requires.listed c.loop-i-test.true), c.loop-i.auto.desks) in
    let now_there : t.0 < length c.read-answer.new.desks = omega (arith, was_there, r.desks.0) in
    let after : thread_at c.read-answer.new.desks t.0 ≡ thread_at c.loop-i.desks t.0 = names_each ((t, 0) ∷ []) c.loop-i.desks c.read-answer.new.desks (λ e. Read e m ∷ []) r.desks t.0 in
    let x : Telling = record { place = t; thread = c.thread-thread.result; answer = said c.read-answer.result } in
    let named : c.thread-thread.result ≡ thread_at c.read-answer.new.desks t.0 = sym (name_of c.read-answer.new.desks t.0 c.index-desks-place.result c.thread-thread.result now_there c.index-desks-place.is (c.thread-thread.ensures ∙ ap (λ (d : DeskState). d.view.subject.thread) (sym c.index-desks-place.is))) in
    let about : c.thread-thread.result ≡ thread_at c.loop-i.desks t.0 = named ∙ after in
    let one : ReadsOne s n m x = record { env_is = refl; about = about; state_is = r.state; desks = r.desks; answer_is = r.answer } in
    let within : i < length l = c.loop-i-test.true in
    let next : i + 1 ≡ suc i = omega arith in
    let left : AreLeft c.loop-i.state (t ∷ drop (i + 1) l) = subst (AreLeft c.loop-i.state) (drop_more l i (i + 1) none next within) before.left in
    let listed = listed_in stopping l i none c.requires.listed within in
    let there : t.0 < length c.loop-i.desks = omega (arith, there_listed (length c.args.desks.now) t.0 stopping c.requires.there listed, c.loop-i.auto.desks) in
    let more : take (i + 1) l ≡ take i l ++ t ∷ [] = (take_at_read l i none within).1 in
    let info = c.told_of.result in
    let first_name : c.thread-thread.result ≡ thread_at c.args.desks.now t.0 = about ∙ before.names t.0 in
    let numbers : threads_at c.args.desks.now (take (i + 1) l) ≡ threads_at c.args.desks.now (take i l) ++ c.thread-thread.result ∷ [] =
    ap (threads_at c.args.desks.now) more ∙ (map-append (λ (y : ThreadNo). thread_at c.args.desks.now y.0) (take i l) (t ∷ []) ∙ ap (λ (y : ThreadNo). threads_at c.args.desks.now (take i l) ++ y ∷ []) (sym first_name)) in
    let reads : HasRead first n m (take i l ++ t ∷ []) (threads_at c.args.desks.now (take i l) ++ c.thread-thread.result ∷ []) (c.loop-i.infos.items ++ info ∷ []) =
    has_read_more first s n m (take i l) (threads_at c.args.desks.now (take i l)) x c.loop-i.infos.items info before.reads one c.told_of.ensures.told c.told_of.ensures.thread in
    let items : c.loop-i.bufs.items ≡ c.pop.new.self.items ++ c.in-Some.buf ∷ [] = c.in-Some.ensures.items in
    let count : length c.loop-i.bufs.items ≡ length c.pop.new.self.items + 1 = ap (λ v. length v) items ∙ length-append c.pop.new.self.items (c.in-Some.buf ∷ []) in
    let pushed : c.push_reserved.new.self.items ≡ c.loop-i.infos.items ++ info ∷ [] = search rules in
    let longer : length c.push_reserved.new.self.items ≡ length c.loop-i.infos.items + 1 = ap (λ v. length v) pushed ∙ length-append c.loop-i.infos.items (info ∷ []) in
    let far : i < 2 ^ 64 - 1 = search rules in
    record {
      held = held_after_read s n stopping m x before.held listed (left_one c.loop-i.state t (drop (i + 1) l) left) there one;
      left = left_then c.loop-i.state c.read-answer.new.state t (drop (i + 1) l) left r.state (omega (arith, there, before.held.count));
      limits = ap (λ v. v.limits) r.state ∙ before.limits;
      reads = subst (λ (v : List ThreadNo × List ThreadNo × List StackInfo). HasRead first n m v.0 v.1 v.2) (λ j. (sym more j, sym numbers j, sym pushed j)) reads;
      names = λ k. names_each ((t, 0) ∷ []) c.loop-i.desks c.read-answer.new.desks (λ e. Read e m ∷ []) r.desks k ∙ before.names k;
      standing = count_read c.args.standing.now c.loop-i.standing c.read-answer.new.self i far before.standing r.standing;
      bufs = omega (arith, count, before.bufs);
      roomy = (roomy_last c.args.state.now.limits m _ _ _ before.roomy items).1;
      few = omega (arith, longer, before.few);
      room = search rules;
      cells = cells_stay stopping ((t, 0) ∷ []) c.loop-i.desks c.read-answer.new.desks (λ e. Read e m ∷ []) r.desks ∙ before.cells;
    }
