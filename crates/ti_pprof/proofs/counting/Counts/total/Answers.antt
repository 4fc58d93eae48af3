use Rattle.std.proofs.Common.{arith}
use Rattle.ti_pprof.specs.Stacks.{stacks_of}
use Rattle.ti_pprof.proofs.SampleLaws.{sum_by-samples_in}
use Rattle.ti_pprof.proofs.counting.Counts.total.Goals as goal

pub returns-clause-sum : goal.returns-clause-sum
returns-clause-sum c =
    let counts = c.args.self.now in
    omega (arith, counts.sums, sum_by-samples_in (stacks_of counts.trie.nodes.keys) counts.table.rows.keys counts.table.counts.items counts.table.counted)
