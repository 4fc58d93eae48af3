use Rattle.std.proofs.Common.{◌≡◌, ◌∙◌, List, Some, inr, ap, refl, subst, sym}
use Rattle.std.specs.Prelude.{slice_get}
use Rattle.std.proofs.lemmas.Option.{slice_get-get_or}
use Rattle.ti_monitor.specs.declared.running.Running.{Running}
use Rattle.ti_monitor.specs.declared.watched.Watched.{Watched}
use Rattle.ti_monitor.specs.Monitors.{order_of}
use Rattle.ti_monitor.specs.Ticking.{EndsNow}
use Rattle.ti_monitor.proofs.OrderLaws.{orders_item}
use Rattle.ti_monitor.proofs.monitor.Monitor.hurry.Goals as goal

pub returns-in-Some-clause-ends : goal.returns-in-Some-clause-ends
returns-in-Some-clause-ends c =
    let rs = c.args.self.now.readings.running.items in
    let r = c.index_mut.result.now in
    let s = c.end.new.reading in
    let at : slice_get rs c.in-Some.place ≡ Some r = slice_get-get_or rs c.in-Some.place r c.in-Some.ensures.within ∙ ap (λ (x : Running). Some x) (sym c.index_mut.ensures.value) in
    let ends = subst (λ (ws : List Watched). EndsNow c.args.now ws r s) c.deref.ensures.value c.end.ensures.ends in
    inr (c.in-Some.place, r, s, at, sym c.in-Some.ensures.found ∙ at, ends, refl)

pub returns-in-Some-clause-orders : goal.returns-in-Some-clause-orders
returns-in-Some-clause-orders c =
    orders_item c.args.self.now.readings.running.items c.in-Some.place c.end.new.reading c.index_mut.result.now (c.end.ensures.order ∙ ap order_of c.index_mut.ensures.value)
