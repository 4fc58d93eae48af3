use Rattle.std.proofs.Common.{◌∙◌, List, sym, subst}
use Rattle.ti_pprof.specs.declared.stacks.Node.{Node}
use Rattle.ti_pprof.specs.Stacks.{stack_at, stacks_of, AreAsked}
use Rattle.ti_pprof.specs.Samples.{samples_of}
use Rattle.ti_pprof.proofs.OnBool.{on_true, on_false}
use Rattle.ti_pprof.proofs.SampleLaws.{samples_in-Grows, IsCounted-along, absent_along, no_sample}
use Rattle.ti_pprof.proofs.counting.Counts.put.Goals as goal

pub returns-in-Some-clause-counted : goal.returns-in-Some-clause-counted
returns-in-Some-clause-counted c =
    let old = c.args.self.now in
    let new = c.count.new.self in
    let same = samples_in-Grows old.trie.nodes.keys c.number_of.new.self.nodes.keys old.table.rows.keys old.table.counts.items c.number_of.ensures.grown old.numbered in
    on_true c.count.result
    (IsCounted-along (samples_of c.number_of.new.self old.table) (samples_of old.trie old.table) (samples_of new.trie new.table) (stack_at (stacks_of c.number_of.new.self.nodes.keys) c.in-Some.stack) c.args.frames.now c.args.thread c.args.state c.args.times same c.in-Some.ensures.stack)
    c.count.ensures.counted

pub returns-in-Some-clause-kept : goal.returns-in-Some-clause-kept
returns-in-Some-clause-kept c =
    let old = c.args.self.now in
    let same = samples_in-Grows old.trie.nodes.keys c.number_of.new.self.nodes.keys old.table.rows.keys old.table.counts.items c.number_of.ensures.grown old.numbered in
    on_false c.count.result (λ h. h ∙ same) c.count.ensures.kept

pub returns-in-None-clause-kept : goal.returns-in-None-clause-kept
returns-in-None-clause-kept c =
    let old = c.args.self.now in
    samples_in-Grows old.trie.nodes.keys c.number_of.new.self.nodes.keys old.table.rows.keys old.table.counts.items c.number_of.ensures.grown old.numbered

pub returns-in-Some-clause-absent : goal.returns-in-Some-clause-absent
returns-in-Some-clause-absent c =
    let old = c.args.self.now in
    let mid = c.number_of.new.self in
    let same = samples_in-Grows old.trie.nodes.keys mid.nodes.keys old.table.rows.keys old.table.counts.items c.number_of.ensures.grown old.numbered in
    on_false c.count.result
    (absent_along (samples_of mid old.table) (samples_of old.trie old.table) (stack_at (stacks_of mid.nodes.keys) c.in-Some.stack) c.args.frames.now c.args.thread c.args.state same c.in-Some.ensures.stack)
    c.count.ensures.absent

pub returns-in-Some-clause-asked : goal.returns-in-Some-clause-asked
returns-in-Some-clause-asked c =
    subst (λ (nodes : List Node). AreAsked c.args.self.now.trie.nodes.keys nodes c.args.frames.now) (sym c.count.ensures.nodes) c.number_of.ensures.asked

pub returns-in-None-clause-absent : goal.returns-in-None-clause-absent
returns-in-None-clause-absent c =
    let old = c.args.self.now in
    no_sample old.trie.nodes.keys old.table.rows.keys old.table.counts.items c.args.frames.now c.args.thread c.args.state old.table.counted old.numbered c.in-None.ensures.absent
