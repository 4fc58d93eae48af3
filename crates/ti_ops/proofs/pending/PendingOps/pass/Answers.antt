use Rattle.std.proofs.Common.{◌≡◌, ◌+◌, ap, ◌∙◌, arith, map, drop}
use Rattle.ti_ops.specs.declared.status.CallStatus.TheVariants as status
use Rattle.ti_ops.specs.declared.outbox_entry.Count.{Count}
use Rattle.ti_ops.specs.Statuses.{with_call}
use Rattle.ti_ops.specs.Ops.{Ops, with_statuses}
use Rattle.ti_ops.specs.OutboxEntry.{count_of, pending_in}
use Rattle.ti_ops.proofs.StepLaws.{lists_passed, kept_passed}
use Rattle.ti_ops.proofs.ViewLaws.{env_here, asked_here, read_here}
use Rattle.ti_ops.proofs.pending.PendingOps.pass.Goals.{After-index_mut}
use Rattle.ti_ops.proofs.pending.PendingOps.pass.Goals as goal

pub index_mut-requires : goal.index_mut-requires
index_mut-requires c = let i = c.self.inside in omega (arith, env_here _ i.window i.taken _ i.counts.items i.kept.items c.args.env c.self.view_is c.self.invariant c.requires.env)

-- the count that is read
is : (c : After-index_mut) → c.index_mut.result.now ≡ count_of c.self.inside.counts.items c.args.env.0
is c = let i = c.self.inside in read_here _ i.window i.taken _ i.counts.items i.kept.items c.args.env c.self.view_is c.self.invariant c.requires.env _ c.index_mut.ensures.value

pub overflow_add-index_mut : goal.overflow_add-index_mut
overflow_add-index_mut c =
    let i = c.self.inside in
    let e = is (goal.at.overflow_add-index_mut c).After-index_mut in
    let n = asked_here _ i.window i.taken _ i.counts.items i.kept.items c.args.env c.self.view_is c.self.invariant c.requires.env in
    omega (arith, ap (λ (d : Count). d.asked) e, n, c.requires.fits)

pub invariant_of-self : goal.invariant_of-self
invariant_of-self c =
    let i = c.self.inside in
    let e = is (goal.at.invariant_of-self c).After-index_mut in
    kept_passed i.window i.taken _ i.counts.items i.kept.items c.args.env _ c.self.invariant
    (env_here _ i.window i.taken _ i.counts.items i.kept.items c.args.env c.self.view_is c.self.invariant c.requires.env)
    (ap (λ (d : Count). d.asked + 1) e) (ap (λ (d : Count). d.held) e)

pub returns : goal.returns
returns c =
    let i = c.self.inside in
    let e = is (goal.at.returns c).After-index_mut in
    ap (λ statuses. record { waiting = map pending_in (drop i.taken i.kept.items); statuses = statuses; window = i.window })
    (lists_passed i.window i.taken _ i.counts.items i.kept.items c.args.env _ c.self.invariant
    (env_here _ i.window i.taken _ i.counts.items i.kept.items c.args.env c.self.view_is c.self.invariant c.requires.env)
    (ap (λ (d : Count). d.asked + 1) e) (ap (λ (d : Count). d.held) e))
    ∙ ap (λ (o : Ops). with_statuses o (with_call c.args.env status.Gone o.statuses)) c.self.view_is
