use Rattle.std.specs.Prelude.{take}
use Rattle.ti_debugger.proofs.NearestLaws.{all_entries, no_entry, one_more_entry}
use Rattle.ti_debugger.proofs.nearest.entry_at.Goals as goal

pub loop-entry-init : goal.loop-entry-init
loop-entry-init c = no_entry c.args.index

pub loop-entry-preserved : goal.loop-entry-preserved
loop-entry-preserved c =
    let front = take c.loop-entry.entry-index c.args.entries.now in
    one_more_entry c.args.entries.now c.loop-entry.entry-index c.args.index _ c.nearer-found.result c.loop-entry-test.true (c.nearer-found.ensures front c.loop-entry.invariant)

pub returns : goal.returns
returns c = all_entries c.args.entries.now c.loop-entry.entry-index c.args.index c.loop-entry.found c.loop-entry-test.false c.loop-entry.invariant
