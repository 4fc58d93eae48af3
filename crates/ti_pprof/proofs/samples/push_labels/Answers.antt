use Rattle.std.proofs.Common.{codes}
use Rattle.ti_pprof.specs.Strings.{strings_in}
use Rattle.ti_pprof.proofs.LabelLaws.{labelled, two_behind}
use Rattle.ti_pprof.proofs.samples.push_labels.Goals as goal

pub returns : goal.returns
returns c =
    let t = c.args.tables.now in
    let strings = strings_in t.texts.now in
    two_behind c.args.out.now.items c.push.new.out.items c.push-2.new.out.items _ _ _ _ c.in_ok-push.ensures c.in_ok-push-2.ensures
    (labelled strings (codes "thread") t.names.now.threads.items t.threads.now c.args.row.thread c.requires.numbered.0)
    (labelled strings (codes "state") t.names.now.states.items t.states.now c.args.row.state c.requires.numbered.1)
