use Rattle.std.proofs.Common.{◌<◌, ◌≤◌, length, rules}
use Rattle.ti_monitor.proofs.ReadingLaws.{reading_behind, reading_here, reading_nowhere}
use Rattle.ti_monitor.proofs.sampling.Readings.place_of.Goals as goal

pub returns-then-index-no-clause-found : goal.returns-then-index-no-clause-found
returns-then-index-no-clause-found c =
    let items = c.args.self.now.running.items in
    let h : c.loop-place.place < length items = search rules in
    reading_here items c.loop-place.place c.args.no c.index.result.now h c.loop-place.invariant c.index.ensures c.if-index-no.true

pub loop-place-preserved : goal.loop-place-preserved
loop-place-preserved c =
    let items = c.args.self.now.running.items in
    let h : c.loop-place.place < length items = search rules in
    reading_behind items c.loop-place.place c.args.no c.index.result.now h c.loop-place.invariant c.index.ensures c.if-index-no.false

pub returns-clause-none : goal.returns-clause-none
returns-clause-none c =
    let items = c.args.self.now.running.items in
    let h : length items ≤ c.loop-place.place = search rules in
    reading_nowhere items c.loop-place.place c.args.no h c.loop-place.invariant
