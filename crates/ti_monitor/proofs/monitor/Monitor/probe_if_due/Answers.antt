use Rattle.std.proofs.Common.{rules, ◌≡◌, ◌+◌, ◌<◌, ◌∙◌, ℕ, suc, length, Some, ap, sym, subst, arith}
use Rattle.std.specs.Prelude.{slice_get, slice_set}
use Rattle.std.proofs.lemmas.Bool.Decides.{nat_tests}
use Rattle.std.proofs.lemmas.Option.{slice_get-get_or}
use Rattle.ti_monitor.specs.declared.watched.Watched.{Watched}
use Rattle.ti_monitor.specs.Asking.{ProbesFirst}
use Rattle.ti_monitor.proofs.ProbeLaws.{probes_more}
use Rattle.ti_monitor.proofs.monitor.Monitor.probe_if_due.Goals as goal

pub loop-place-preserved : goal.loop-place-preserved
loop-place-preserved c =
    let n = c.loop-place.place in
    let vs = c.loop-place.self.watched.items in
    let w = c.index_mut.result.now in
    let a = c.args.self.now.agent in
    let after = c.probe_if_there.new.agent in
    let ws = c.args.self.now.watched.items in
    let v = c.probe_if_there.new.watched in
    let below : n < length vs = grind (arith, nat_tests, c.loop-place-test.true, c.len-place-end.ensures, c.loop-place.invariant.many) in
    let at : slice_get vs n ≡ Some w = slice_get-get_or vs n w below ∙ ap (λ (x : Watched). Some x) (sym c.index_mut.ensures.value) in
    let more : ProbesFirst (suc n) a after ws (slice_set vs n v) = probes_more n a c.loop-place.self.agent after ws vs w v c.loop-place.invariant.probed at c.probe_if_there.ensures in
    let next : suc n ≡ n + 1 = omega arith in
    record { probed = subst (λ (k : ℕ). ProbesFirst k a after ws (slice_set vs n v)) next more; many = search rules; rest = search rules }
