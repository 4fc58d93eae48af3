use Rattle.std.proofs.Common.{length}
use Rattle.ti_pprof.specs.Stacks.{stacks_of}
use Rattle.ti_pprof.proofs.TrieLaws.{stack_at-different}
use Rattle.ti_pprof.proofs.OnBool.{on_true, on_false}
use Rattle.ti_pprof.proofs.SampleLaws.{IsCounted-row, not_there}
use Rattle.ti_pprof.proofs.counting.Counts.count.Goals as goal

pub returns-clause-counted : goal.returns-clause-counted
returns-clause-counted c =
    let table = c.args.self.now.table in
    let trie = c.args.self.now.trie in
    let new = c.add-fits.new.self in
    on_true c.add-fits.result
    (IsCounted-row (stacks_of c.args.self.now.trie.nodes.keys) table.rows.keys new.rows.keys table.counts.items new.counts.items c.args.row c.args.times (length trie.nodes.keys) table.counted (stack_at-different trie.nodes.keys trie.earlier trie.different) c.args.self.now.numbered c.requires.there)
    c.add-fits.ensures.counted

pub returns-clause-absent : goal.returns-clause-absent
returns-clause-absent c =
    let table = c.args.self.now.table in
    let trie = c.args.self.now.trie in
    on_false c.add-fits.result
    (not_there (stacks_of trie.nodes.keys) table.rows.keys table.counts.items c.args.row (length trie.nodes.keys) table.counted (stack_at-different trie.nodes.keys trie.earlier trie.different) c.args.self.now.numbered c.requires.there)
    c.add-fits.ensures.absent
