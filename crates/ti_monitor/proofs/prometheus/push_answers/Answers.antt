use Rattle.std.proofs.Common.{codes, decimal, [], ◌∷◌, ◌++◌}
use Rattle.ti_monitor.specs.Exposition.{bound_texts, bucket_of, head_lines, labelled_line, labelled_lines, plain_line}
use Rattle.ti_monitor.specs.Texts.{seconds}
use Rattle.ti_monitor.proofs.TextLaws.{cons_line, join, last_line}
use Rattle.ti_monitor.proofs.prometheus.push_answers.Goals as goal

pub returns : goal.returns
returns c =
    let h = c.args.answers.now in
    let head = head_lines (codes "answer_seconds") (codes "histogram") (codes "Time from a call at a running thread to its answer.") in
    let buckets = labelled_lines bucket_of bound_texts h.within in
    let all = labelled_line bucket_of (codes "+Inf") h.count in
    let sum = plain_line (codes "answer_seconds") (codes "_sum") (seconds h.sum) in
    let count = plain_line (codes "answer_seconds") (codes "_count") (decimal h.count) in
    join _ _ _ _ head (buckets ++ (all ∷ sum ∷ count ∷ [])) c.in_ok-push_head.ensures
    (join _ _ _ _ buckets (all ∷ sum ∷ count ∷ []) c.in_ok-push_each.ensures
    (cons_line _ _ _ _ all (sum ∷ count ∷ []) c.in_ok-push_labelled.ensures
    (cons_line _ _ _ _ sum (count ∷ []) c.in_ok-push_plain.ensures (last_line _ _ _ count c.push_plain-2.ensures))))
