use Rattle.std.proofs.Common.{[], ◌∷◌, take, length, arith, refl}
use Rattle.ti_types.specs.declared.entry.Entry.TheVariants.{Stop}
use Rattle.ti_vmop.proofs.Each.{listed_at, there_at, distinct_at, paid_at, each_none, not_done, each_more, each_all, adds, spends, may_spend, may_reach, take_all}
use Rattle.ti_vmop.specs.Turns.{spend_all, Listed}
use Rattle.ti_vmop.proofs.global_stops.stop_each.Goals as goal
use Rattle.std.proofs.Common.{ap, ◌∙◌}

pub loop-i-init : goal.loop-i-init
loop-i-init g c = (each_none c.args.desks.now (λ e. Stop e ∷ []), refl)

pub spend-requires-clause-there : goal.spend-requires-clause-there
spend-requires-clause-there g c =
    may_reach c.args.state.now c.loop-i.state c.args.threads.now c.loop-i.i (length c.args.desks.now) (record { 0 = 0 }, 0) c.requires.distinct c.requires.there.0 c.requires.there.1 c.loop-i-test.true c.loop-i.invariant.1

pub spend-requires-clause-left : goal.spend-requires-clause-left
spend-requires-clause-left g c =
    may_spend c.args.state.now c.loop-i.state c.args.threads.now c.loop-i.i (record { 0 = 0 }, 0) c.requires.distinct c.requires.paid c.loop-i-test.true c.loop-i.invariant.1

pub stop_one-requires-clause-calls : goal.stop_one-requires-clause-calls
stop_one-requires-clause-calls g c =
    let threads = c.args.threads.now in
    let unlisted = distinct_at threads c.loop-i.i (record { 0 = 0 }, 0) c.requires.distinct c.loop-i-test.true in
    let there = there_at (length c.args.desks.now) threads c.loop-i.i (record { 0 = 0 }, 0) c.requires.there.0 c.loop-i-test.true in
    let at = not_done (take c.loop-i.i threads) c.args.desks.now c.loop-i.desks (λ e. Stop e ∷ []) _ c.index-desks-thread.result c.loop-i.invariant.0 unlisted there in
    let may = c.requires.may _ _ at (listed_at threads c.loop-i.i (record { 0 = 0 }, 0) c.loop-i-test.true) in
    let left = paid_at c.args.state.now threads c.loop-i.i (record { 0 = 0 }, 0) c.requires.paid c.loop-i-test.true in
    omega (arith, may.paid, left)

pub stop_one-requires-clause-free : goal.stop_one-requires-clause-free
stop_one-requires-clause-free g c =
    let threads = c.args.threads.now in
    let unlisted = distinct_at threads c.loop-i.i (record { 0 = 0 }, 0) c.requires.distinct c.loop-i-test.true in
    let there = there_at (length c.args.desks.now) threads c.loop-i.i (record { 0 = 0 }, 0) c.requires.there.0 c.loop-i-test.true in
    let at = not_done (take c.loop-i.i threads) c.args.desks.now c.loop-i.desks (λ e. Stop e ∷ []) _ c.index-desks-thread.result c.loop-i.invariant.0 unlisted there in
    (c.requires.may _ _ at (listed_at threads c.loop-i.i (record { 0 = 0 }, 0) c.loop-i-test.true)).free

pub loop-i-preserved : goal.loop-i-preserved
loop-i-preserved g c = (
  each_more c.args.threads.now c.loop-i.i _ c.args.desks.now c.loop-i.desks (λ e. Stop e ∷ []) (record { 0 = 0 }, 0) c.index-desks-thread.result c.stop_one.new.desk c.requires.distinct c.requires.there.0 c.loop-i-test.true (omega arith) c.loop-i.invariant.0
      (adds _ _ _ c.stop_one.ensures.same c.stop_one.ensures.hold),
  spends c.args.state.now c.loop-i.state c.spend.new.self c.args.threads.now c.loop-i.i _ (record { 0 = 0 }, 0) c.loop-i-test.true (omega arith) c.loop-i.invariant.1 c.spend.ensures,
)

pub returns-clause-desks : goal.returns-clause-desks
returns-clause-desks g c = each_all c.args.threads.now c.loop-i.i c.args.desks.now c.loop-i.desks (λ e. Stop e ∷ []) (omega (arith, c.loop-i-test.false)) c.loop-i.invariant.0

pub returns-clause-state : goal.returns-clause-state
returns-clause-state g c = c.loop-i.invariant.1 ∙ ap (λ (l : Listed). spend_all c.args.state.now l) (take_all c.args.threads.now c.loop-i.i (omega (arith, c.loop-i-test.false)))
