use Rattle.std.proofs.Common.{◌≡◌, ◌≤◌, ◌∙◌, ap, sym, subst, length, All}
use Rattle.ti_pprof.specs.Samples.{AreNumbered}
use Rattle.ti_pprof.specs.declared.table.Table.{Table}
use Rattle.ti_monitor.specs.declared.groups_text.Group.{Group}
use Rattle.ti_monitor.specs.Threads.{groups_of}
use Rattle.ti_monitor.proofs.GroupLaws.{groups_within}
use Rattle.ti_monitor.proofs.groups_text.push_grouped.Goals as goal

pub push_groups-requires-clause-there : goal.push_groups-requires-clause-there
push_groups-requires-clause-there c =
    let counts = c.args.reading.now.counts in
    let rows : c.rows-rows.result.now ≡ counts.table.rows.keys = c.rows-rows.ensures ∙ ap (λ (t : Table). t.rows.keys) c.table.ensures in
    let keys : c.as_slice.result.now ≡ groups_of counts.table.rows.keys = c.as_slice.ensures.keys ∙ c.in_ok-groups.ensures ∙ ap groups_of rows in
    let nodes : c.nodes-nodes.result.now ≡ c.trie.result.now.nodes.keys = c.nodes-nodes.ensures.nodes in
    let numbered : AreNumbered counts.table.rows.keys (length c.nodes-nodes.result.now) =
    subst (λ ns. AreNumbered counts.table.rows.keys (length ns)) (sym nodes) c.trie.ensures.numbered in
    subst (λ gs. All (λ (x : Group). x.stack ≤ length c.nodes-nodes.result.now) gs) (sym keys) (groups_within counts.table.rows.keys (length c.nodes-nodes.result.now) numbered)
