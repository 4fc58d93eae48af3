use Rattle.std.proofs.Common.{[], ◌∷◌, take, length, arith}
use Rattle.ti_types.specs.declared.entry.Entry.TheVariants.{Go}
use Rattle.ti_vmop.proofs.Each.{listed_at, there_at, distinct_at, each_none, not_done, each_more, each_all, adds}
use Rattle.ti_vmop.proofs.global_stops.go_each.Goals as goal

pub loop-i-init : goal.loop-i-init
loop-i-init g c = each_none c.args.desks.now (λ e. Go e ∷ [])

pub go_one-requires : goal.go_one-requires
go_one-requires g c =
    let threads = c.args.threads.now in
    let unlisted = distinct_at threads c.loop-i.i (record { 0 = 0 }, 0) c.requires.distinct c.loop-i-test.true in
    let there = there_at (length c.args.desks.now) threads c.loop-i.i (record { 0 = 0 }, 0) c.requires.there c.loop-i-test.true in
    let at = not_done (take c.loop-i.i threads) c.args.desks.now c.loop-i.desks (λ e. Go e ∷ []) _ c.index-desks-thread.result c.loop-i.invariant unlisted there in
    record { stands = c.requires.stand _ _ at (listed_at threads c.loop-i.i (record { 0 = 0 }, 0) c.loop-i-test.true) }

pub loop-i-preserved : goal.loop-i-preserved
loop-i-preserved g c =
    each_more c.args.threads.now c.loop-i.i _ c.args.desks.now c.loop-i.desks (λ e. Go e ∷ []) (record { 0 = 0 }, 0) c.index-desks-thread.result c.go_one.new.desk c.requires.distinct c.requires.there c.loop-i-test.true (omega arith) c.loop-i.invariant
    (adds _ _ _ c.go_one.ensures.same c.go_one.ensures.hold.waits)

pub returns : goal.returns
returns g c = record { desks = each_all c.args.threads.now c.loop-i.i c.args.desks.now c.loop-i.desks (λ e. Go e ∷ []) (omega (arith, c.loop-i-test.false)) c.loop-i.invariant }
