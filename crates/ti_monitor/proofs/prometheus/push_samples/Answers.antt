use Rattle.std.proofs.Common.{codes, [], ◌∷◌}
use Rattle.ti_monitor.specs.Exposition.{counter, head_lines, labelled_line, outcomes}
use Rattle.ti_monitor.proofs.TextLaws.{cons_line, join, last_line}
use Rattle.ti_monitor.proofs.prometheus.push_samples.Goals as goal

pub returns : goal.returns
returns c =
    let m = c.args.metrics.now in
    let head = head_lines (codes "profile_samples_total") counter (codes "Samples of all profiles.") in
    let one = labelled_line outcomes (codes "at_once") m.at_once in
    let two = labelled_line outcomes (codes "late") m.late in
    let three = labelled_line outcomes (codes "unanswered") m.unanswered in
    join _ _ _ _ head (one ∷ two ∷ three ∷ []) c.in_ok-push_head.ensures
    (cons_line _ _ _ _ one (two ∷ three ∷ []) c.in_ok-push_labelled.ensures
    (cons_line _ _ _ _ two (three ∷ []) c.in_ok-push_labelled-2.ensures (last_line _ _ _ three c.push_labelled-3.ensures)))
