use Rattle.std.proofs.Common.{map, drop, set, refl, ap, ◌∙◌, arith}
use Rattle.std.proofs.lemmas.List.{drop-set-lt}
use Rattle.ti_ops.specs.declared.status.CallStatus.TheVariants as status
use Rattle.ti_ops.specs.declared.outbox_entry.OutboxEntry.{OutboxEntry}
use Rattle.ti_ops.specs.declared.outbox_entry.Stage.TheVariants.{Answered}
use Rattle.ti_ops.specs.Statuses.{status_of, is_open, is_awaited, with_status}
use Rattle.ti_ops.specs.Ops.{Ops, with_statuses}
use Rattle.ti_ops.specs.OutboxEntry.{pending_in, lists_of}
use Rattle.ti_ops.proofs.StepLaws.{found_taken, lists_told, kept_told}
use Rattle.ti_ops.proofs.pending.PendingOps.deliver.Goals as goal

pub find_last-at-requires-clause-there : goal.find_last-at-requires-clause-there
find_last-at-requires-clause-there c =
    let i = c.self.inside in
    found_taken i.window i.taken i.kept.cap i.counts.items i.kept.items c.args.ticket c.self.invariant
    (ap (λ (o : Ops). status_of c.args.ticket o.statuses) c.self.view_is ∙ c.requires.waits) (ap (λ (o : Ops). is_awaited c.args.ticket o.waiting) c.self.view_is ∙ c.requires.taken)

pub invariant_of-self : goal.invariant_of-self
invariant_of-self c =
    let i = c.self.inside in
    let k = c.index_mut.result.now in
    kept_told i.window i.taken i.kept.cap i.counts.items i.kept.items c.find_last-at.result k (record { ticket = k.ticket; stage = Answered c.args.answer }) c.self.invariant
    (omega (arith, c.find_last-at.ensures.within, c.self.invariant.taken)) (ap (λ (j : OutboxEntry). j.ticket) c.index_mut.ensures.value)
    c.args.ticket (status.Answered c.args.answer) c.find_last-at.ensures.within (c.find_last-at.ensures.there k) refl refl
    (ap is_open (ap (λ (o : Ops). status_of c.args.ticket o.statuses) c.self.view_is ∙ c.requires.waits))

pub returns : goal.returns
returns c =
    let i = c.self.inside in
    let k = c.index_mut.result.now in
    let x = status.Answered c.args.answer in
    let j : OutboxEntry = record { ticket = k.ticket; stage = Answered c.args.answer } in
    ap (λ w. record { waiting = map pending_in w; statuses = lists_of i.counts.items (set i.kept.items c.find_last-at.result j); window = i.window }) (drop-set-lt i.taken i.kept.items c.find_last-at.result j c.find_last-at.ensures.within)
    ∙ ap (λ statuses. record { waiting = map pending_in (drop i.taken i.kept.items); statuses = statuses; window = i.window })
    (lists_told i.window i.taken i.kept.cap i.counts.items i.kept.items c.find_last-at.result k j c.self.invariant
    (omega (arith, c.find_last-at.ensures.within, c.self.invariant.taken)) (ap (λ (j : OutboxEntry). j.ticket) c.index_mut.ensures.value) c.args.ticket x (c.find_last-at.ensures.there k) refl)
    ∙ ap (λ (o : Ops). with_statuses o (with_status c.args.ticket x o.statuses)) c.self.view_is
