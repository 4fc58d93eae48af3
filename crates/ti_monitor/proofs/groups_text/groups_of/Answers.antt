use Rattle.std.proofs.Common.{◌∙◌, get_or, take, arith, ap, sym}
use Rattle.std.proofs.lemmas.List.{take_more}
use Rattle.indexmap.specs.IndexSet.{insert_key}
use Rattle.ti_pprof.specs.declared.table.Row.{Row}
use Rattle.ti_monitor.specs.Threads.{group_of, groups_of, is_same_group}
use Rattle.ti_monitor.proofs.GroupLaws.{groups_of-push}
use Rattle.ti_monitor.proofs.groups_text.groups_of.Goals as goal

pub loop-row-preserved : goal.loop-row-preserved
loop-row-preserved c =
    let d : Row = record { stack = 0; thread = 0; state = 0 } in
    let rows = c.args.rows.now in
    let i = c.loop-row.row-index in
    c.in_ok-insert_full.ensures.keys
    ∙ ap (λ g. insert_key is_same_group c.loop-row.groups.keys g) c.group_of.ensures
    ∙ ap (λ g. insert_key is_same_group g (group_of (get_or rows i d))) c.loop-row.invariant
    ∙ sym (groups_of-push (take i rows) (get_or rows i d))
    ∙ sym (ap groups_of (take_more rows i d (omega arith)))
