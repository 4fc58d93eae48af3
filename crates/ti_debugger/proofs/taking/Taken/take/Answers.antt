use Rattle.ti_debugger.proofs.taking.Taken.take.Goals as goal

pub returns-in-Table : goal.returns-in-Table
returns-in-Table c = rw c.in-Table.is (c.table.ensures c.args.texts.now)

pub returns-in-Entry : goal.returns-in-Entry
returns-in-Entry c = rw c.in-Entry.is (c.entry.ensures c.args.told.slot)
