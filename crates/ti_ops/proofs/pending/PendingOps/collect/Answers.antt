use Rattle.std.proofs.Common.{◌≡◌, ◌<◌, ◌≤◌, ◌-◌, suc, true, false, map, drop, set, get_or, length, refl, ap, sym, ◌∙◌, arith, subst}
use Rattle.std.specs.List.{remove}
use Rattle.std.specs.VecDeque.{deque_capacity}
use Rattle.std.proofs.lemmas.List.{get_or_read}
use Rattle.ti_ops.specs.declared.status.CallStatus.TheVariants as status
use Rattle.ti_ops.specs.declared.outbox_entry.OutboxEntry.{OutboxEntry}
use Rattle.ti_ops.specs.declared.outbox_entry.Count.{Count}
use Rattle.ti_ops.specs.Statuses.{is_at, status_of, answer_by, is_open, with_status}
use Rattle.ti_ops.specs.Ops.{Ops, with_statuses}
use Rattle.ti_ops.specs.OutboxEntry.{status_in, has_answer, count_of, lists_of, pending_in, ops_in, IsKept}
use Rattle.ti_ops.proofs.TableLaws.{env_within}
use Rattle.ti_ops.proofs.StepLaws.{nobody, none_found, status_found, no_answer, opens_in, some_held, u_asked, drop-remove, lists_less, kept_less}
use Rattle.ti_ops.proofs.pending.PendingOps.collect.Goals.{After-index_mut}
use Rattle.ti_ops.proofs.pending.PendingOps.collect.Goals as goal

pub returns-then-at-self-clause-answer : goal.returns-then-at-self-clause-answer
returns-then-at-self-clause-answer c =
    let i = c.self.inside in
    sym (ap (λ (o : Ops). answer_by (status_of c.args.ticket o.statuses)) (sym c.self.view_is)
    ∙ none_found i.window i.taken i.kept.cap i.counts.items i.kept.items c.args.ticket c.self.invariant (c.find-at.ensures.nowhere c.if-at-self.true))

pub returns-then-not-is_answered-clause-answer : goal.returns-then-not-is_answered-clause-answer
returns-then-not-is_answered-clause-answer c =
    let i = c.self.inside in
    let k = c.index.result.now in
    let below : c.find-at.result < i.taken = omega (arith, c.find-at.ensures.within, c.if-at-self.false) in
    let none : has_answer (get_or i.kept.items c.find-at.result k).stage ≡ false = ap (λ (j : OutboxEntry). has_answer j.stage) (sym c.index.ensures) ∙ sym c.is_answered.ensures ∙ c.if-not-is_answered.true in
    sym (ap (λ (o : Ops). answer_by (status_of c.args.ticket o.statuses)) (sym c.self.view_is)
    ∙ ap answer_by (status_found i.window i.taken i.kept.cap i.counts.items i.kept.items c.find-at.result k c.args.ticket c.self.invariant below (c.find-at.ensures.there k below))
    ∙ no_answer (get_or i.kept.items c.find-at.result k).stage none)

-- the call that is found, and what its environment is counted for
record Has (c : After-index_mut) (k : OutboxEntry) : Type 0 where
  below : c.find-at.result < c.self.inside.taken
  it : is_at (get_or c.self.inside.kept.items c.find-at.result k).ticket c.args.ticket ≡ true
  told : status_of c.args.ticket (lists_of c.self.inside.counts.items c.self.inside.kept.items) ≡ status_in k.stage
  count : c.index_mut.result.now ≡ count_of c.self.inside.counts.items c.args.ticket.env.0
  some : 1 ≤ (count_of c.self.inside.counts.items c.args.ticket.env.0).held

has : (c : After-index_mut) → Has c c.take_out-stage.result
has c =
    let i = c.self.inside in
    let k = c.take_out-stage.result in
    let u = c.args.ticket in
    let below : c.find-at.result < i.taken = omega (arith, c.find-at.ensures.within, c.if-at-self.false) in
    let it = c.find-at.ensures.there k below in
    let within : c.find-at.result < length i.kept.items = omega (arith, below, c.self.invariant.taken) in
    let told = status_found i.window i.taken i.kept.cap i.counts.items i.kept.items c.find-at.result k u c.self.invariant below it ∙ ap (λ (j : OutboxEntry). status_in j.stage) (sym (c.take_out-stage.ensures.taken k)) in
    let asked = u_asked i.window i.taken i.kept.cap i.counts.items i.kept.items c.find-at.result k (get_or i.kept.items c.find-at.result k) c.self.invariant within refl u it in
    record {
      below = below;
      it = it;
      told = told;
      count = get_or_read i.counts.items u.env.0 c.index_mut.result.now (env_within i.counts.items u.env.0 u.no asked) c.index_mut.ensures.value nobody;
      some = some_held i.window i.taken i.kept.cap i.counts.items i.kept.items u c.self.invariant asked (ap is_open told ∙ opens_in k.stage);
    }

pub overflow_sub-index_mut : goal.overflow_sub-index_mut
overflow_sub-index_mut c = let h = has (goal.at.overflow_sub-index_mut c).After-index_mut in omega (arith, h.some, ap (λ (d : Count). d.held) h.count)

pub returns-clause-answer : goal.returns-clause-answer
returns-clause-answer c =
    let h = has (goal.at.returns-clause-answer c).After-index_mut in
    sym (ap (λ (o : Ops). answer_by (status_of c.args.ticket o.statuses)) (sym c.self.view_is) ∙ ap answer_by (h.told ∙ ap status_in c.in-Answered.is))

pub invariant_of-self : goal.invariant_of-self
invariant_of-self c =
    let i = c.self.inside in
    let k = c.take_out-stage.result in
    let h = has (goal.at.invariant_of-self c).After-index_mut in
    let n : Count = record { asked = c.index_mut.result.now.asked; held = c.index_mut.result.now.held - 1 } in
    subst (λ items. IsKept i.window (i.taken - 1) (deque_capacity c.take_out-stage.new.kept) (set i.counts.items c.args.ticket.env.0 n) items) (sym c.take_out-stage.ensures.kept)
    (kept_less i.window i.taken i.kept.cap i.counts.items i.kept.items c.find-at.result k c.args.ticket n c.self.invariant h.below h.it (ap (λ (d : Count). d.asked) h.count)
    (i.taken - 1) (deque_capacity c.take_out-stage.new.kept) (omega (arith, h.below)) c.take_out-stage.ensures.capacity (omega (arith, h.some, ap (λ (d : Count). d.held) h.count)) (ap is_open h.told ∙ opens_in k.stage))

pub returns-clause-statuses : goal.returns-clause-statuses
returns-clause-statuses c =
    let i = c.self.inside in
    let h = has (goal.at.returns-clause-statuses c).After-index_mut in
    let n : Count = record { asked = c.index_mut.result.now.asked; held = c.index_mut.result.now.held - 1 } in
    let counts = set i.counts.items c.args.ticket.env.0 n in
    let one : suc (i.taken - 1) ≡ i.taken = omega (arith, h.below) in
    let rest : drop (i.taken - 1) (remove i.kept.items c.find-at.result) ≡ drop i.taken i.kept.items =
    drop-remove i.kept.items c.find-at.result (i.taken - 1) (omega (arith, h.below)) ∙ ap (λ m. drop m i.kept.items) one in
    ap (ops_in i.window (i.taken - 1) counts) c.take_out-stage.ensures.kept
    ∙ ap (λ w. record { waiting = map pending_in w; statuses = lists_of counts (remove i.kept.items c.find-at.result); window = i.window }) rest
    ∙ ap (λ statuses. record { waiting = map pending_in (drop i.taken i.kept.items); statuses = statuses; window = i.window })
    (lists_less i.window i.taken i.kept.cap i.counts.items i.kept.items c.find-at.result c.take_out-stage.result c.args.ticket n c.self.invariant h.below h.it (ap (λ (d : Count). d.asked) h.count))
    ∙ ap (λ (o : Ops). with_statuses o (with_status c.args.ticket status.Gone o.statuses)) c.self.view_is
