use Rattle.std.proofs.Common.{◌∙◌}
use Rattle.ti_agent.proofs.Counted.{each_counted, sorted_rises, then_ok}
use Rattle.ti_agent.proofs.thread_counts.counted_threads.Goals as goal

pub returns-clause-listed : goal.returns-clause-listed
returns-clause-listed c =
    let sorted = c.in_ok-sort_keys.ensures in
    then_ok c.listed.result
    (λ v is n threads there counts.
    (is ∙ each_counted n threads c.sort_keys.new.self.entries there (λ i. sorted.reordered.2 i ∙ counts i) (sorted_rises c.sort_keys.new.self.entries sorted.sorted sorted.unique)))
    c.listed.ensures.listed
