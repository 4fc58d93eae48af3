use Rattle.std.proofs.Common.{◌≡◌, ◌++◌, ◌∷◌, [], rules}
use Rattle.ti_monitor.proofs.sampling.Readings.add.Goals as goal

pub returns-clause-begun : goal.returns-clause-begun
returns-clause-begun c =
    let items : c.push_reserved.new.self.items ≡ c.args.self.now.running.items ++ c.in_ok-reading.reading ∷ [] = search rules in
    (c.in_ok-reading.reading, items, c.in_ok-reading.ensures.no, c.in_ok-reading.ensures.new)
