use Rattle.std.proofs.Common.{◌≡◌, ◌<◌, ◌+◌, true, map, drop, set, get_or, length, refl, ap, sym, subst, ◌∙◌, arith}
use Rattle.ti_types.specs.declared.call.Call.{Call}
use Rattle.ti_types.specs.Frames.{Trace}
use Rattle.ti_ops.specs.declared.outbox_entry.OutboxEntry.{OutboxEntry}
use Rattle.ti_ops.specs.declared.outbox_entry.Stage.{Stage}
use Rattle.ti_ops.specs.declared.outbox_entry.Stage.TheVariants.{Posted, Taken, Answered}
use Rattle.ti_ops.specs.Ops.{Ops, with_waiting}
use Rattle.ti_ops.specs.OutboxEntry.{status_in, is_posted, pending_in}
use Rattle.ti_ops.proofs.StepLaws.{posted_at, waits_in, lists_taken, kept_taken}
use Rattle.ti_ops.proofs.pending.PendingOps.take_first.Goals.{After-replace-stage}
use Rattle.ti_ops.proofs.pending.PendingOps.take_first.Goals as goal

-- the first that waits, and what is put in its place
record Has (c : After-replace-stage) : Type 0 where
  there : c.self.inside.taken < length c.self.inside.kept.items
  posted : is_posted c.index_mut-first.result.now.stage ≡ true
  same : status_in c.replace-stage.new.dest ≡ status_in (get_or c.self.inside.kept.items c.self.inside.taken c.index_mut-first.result.now).stage

has : (c : After-replace-stage) → Has c
has c =
    let i = c.self.inside in
    let k = c.index_mut-first.result.now in
    let there : i.taken < length i.kept.items = omega (arith, c.if-self-len.false, c.len.ensures, c.self.invariant.taken) in
    let posted = posted_at i.kept.items i.taken k there c.self.invariant.waits in
    record {
      there = there;
      posted = subst (λ (j : OutboxEntry). is_posted j.stage ≡ true) (sym c.index_mut-first.ensures.value) posted;
      same = ap status_in c.replace-stage.ensures.after ∙ sym (waits_in _ posted);
    }

not_posted : (x : Stage) → is_posted x ≡ true → ((a : Call) (b : Trace) → x ≡ Posted a b → ⊥) → ⊥
not_posted (Posted a b) e n = n a b refl
not_posted Taken e n = cc
not_posted (Answered a) e n = cc

pub unreachable-requires : goal.unreachable-requires
unreachable-requires c =
    let h = has (goal.at.unreachable-requires c).After-replace-stage in
    not_posted c.replace-stage.result (ap is_posted c.replace-stage.ensures.value ∙ h.posted) c.in_default.not-Posted

pub invariant_of-self : goal.invariant_of-self
invariant_of-self c =
    let i = c.self.inside in
    let h = has (goal.at.invariant_of-self c).After-replace-stage in
    let k = c.index_mut-first.result.now in
    kept_taken i.window i.taken i.kept.cap i.counts.items i.kept.items i.taken k (record { ticket = k.ticket; stage = c.replace-stage.new.dest }) c.self.invariant h.there
    (ap (λ (j : OutboxEntry). j.ticket) c.index_mut-first.ensures.value) refl h.same

pub returns-clause-rest : goal.returns-clause-rest
returns-clause-rest c =
    let i = c.self.inside in
    let h = has (goal.at.returns-clause-rest c).After-replace-stage in
    let k = c.index_mut-first.result.now in
    let j : OutboxEntry = record { ticket = k.ticket; stage = c.replace-stage.new.dest } in
    let w = map pending_in (drop (i.taken + 1) (set i.kept.items i.taken j)) in
    ap (λ statuses. record { waiting = w; statuses = statuses; window = i.window })
    (lists_taken i.window i.taken i.kept.cap i.counts.items i.kept.items i.taken k j c.self.invariant h.there (ap (λ (j : OutboxEntry). j.ticket) c.index_mut-first.ensures.value) h.same)
    ∙ ap (λ (o : Ops). with_waiting o w) c.self.view_is
