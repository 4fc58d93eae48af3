use Rattle.std.proofs.Common.{◌∙◌, sym, ap}
use Rattle.ti_replay.specs.Outcomes.{happenings}
use Rattle.ti_script.specs.Texts.{lines_text}
use Rattle.ti_driver.proofs.TextLaws.{told_lines, run_of}
use Rattle.ti_driver.proofs.walk_command.run.Goals as goal

pub returns-in-Ok-clause-ok : goal.returns-in-Ok-clause-ok
returns-in-Ok-clause-ok c =
    let w = c.args.walk.now in
    let os = c.in-Ok.outcomes.items in
    let told = rw c.as_slice.ensures at c.in-Ok.ensures.outcomes in
    let count = rw c.as_slice.ensures at c.in-Ok.ensures.count in
    (happenings w.events os, run_of w os count told, sym (told_lines w.methods 0 os) ∙ ap (lines_text w.methods 0) told)
