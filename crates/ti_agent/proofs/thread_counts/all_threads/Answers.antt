use Rattle.std.proofs.Common.{rules, ◌≡◌, length, ap, ◌∙◌}
use Rattle.ti_agent.proofs.Listing.{count_each}
use Rattle.ti_agent.proofs.thread_counts.all_threads.Goals as goal

pub push_reserved-requires : goal.push_reserved-requires
push_reserved-requires c =
    let h : length c.loop-i.threads.items ≡ c.loop-i.i = ap (λ v. length v) c.loop-i.invariant.all ∙ count_each c.loop-i.i in
    search rules
