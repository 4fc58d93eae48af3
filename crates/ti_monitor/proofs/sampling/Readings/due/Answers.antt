use Rattle.std.proofs.Common.{◌≡◌, ◌<◌, ◌≤◌, ℕ, ◌+◌, List, length, refl, slice_index_or, subst, sym}
use Rattle.std.proofs.lemmas.Option.{slice_get_read}
use Rattle.ti_monitor.specs.declared.running.Running.{Running}
use Rattle.ti_monitor.proofs.DeadlineLaws.{IsNextFirst, next_all, next_more, next_none}
use Rattle.ti_monitor.proofs.sampling.Readings.due.Goals as goal

pub loop-reading-init : goal.loop-reading-init
loop-reading-init c = next_none c.args.self.now.running.items

pub loop-reading-preserved : goal.loop-reading-preserved
loop-reading-preserved c =
    let n = c.loop-reading.reading-index in
    let rs = c.args.self.now.running.items in
    let r = c.reading-item.result in
    let value = c.deref-reading-items.ensures.value in
    let below : n < length rs = subst (λ (l : List Running). n < length l) value c.loop-reading-test.true in
    let is : r ≡ slice_index_or rs n r = subst (λ (l : List Running). r ≡ slice_index_or l n r) value c.reading-item.is in
    let more = next_more n rs r c.loop-reading.due c.due.result (slice_get_read rs (length rs) n r refl below is) c.loop-reading.invariant c.due.ensures in
    subst (λ (k : ℕ). IsNextFirst (n + 1) rs k) (sym c.min-due.ensures) more

pub returns : goal.returns
returns c =
    let n = c.loop-reading.reading-index in
    let over = subst (λ (l : List Running). length l ≤ n) c.deref-reading-items.ensures.value c.loop-reading-test.false in
    next_all n c.args.self.now.running.items c.loop-reading.due over c.loop-reading.invariant
