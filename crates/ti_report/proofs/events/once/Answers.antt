use Rattle.std.proofs.Common.{ap, ◌∙◌, slice_index, nat_lt}
use Rattle.std.specs.List.{filter}
use Rattle.ti_report.specs.Doings.{every_thread}
use Rattle.ti_report.proofs.EventLaws.{once_is}
use Rattle.ti_report.proofs.events.once.Goals as goal

pub returns : goal.returns
returns c =
    c.in_ok-listed.ensures
    ∙ ap (λ s. filter (λ t. nat_lt 0 (slice_index s t.0)) (every_thread c.args.limits)) c.deref.ensures.value
    ∙ once_is c.in_ok-counts.counts.items c.args.limits c.args.threads.now c.in_ok-counts.ensures.counts
