use Rattle.std.proofs.Common.{ap, ◌∙◌, slice_index}
use Rattle.std.specs.List.{list_all}
use Rattle.ti_report.specs.Doings.{times}
use Rattle.ti_report.specs.Accounts.{can_pay_now}
use Rattle.ti_report.proofs.EventLaws.{all_alike}
use Rattle.ti_report.proofs.whole.can_pay_listed.Goals as goal

pub returns : goal.returns
returns c =
    let limits = c.args.limits in
    let a = c.args.account.now in
    let ts = c.args.threads.now in
    c.can_pay-can.ensures
    ∙ ap (λ s. list_all (λ t. can_pay_now limits a t (slice_index s t.0)) ts) c.deref.ensures.value
    ∙ all_alike (λ t. can_pay_now limits a t (slice_index c.in_ok-counts.counts.items t.0)) (λ t. can_pay_now limits a t (times t ts)) limits.threads ts
    (λ t h. ap (can_pay_now limits a t) (c.in_ok-counts.ensures.counts t h)) c.requires
