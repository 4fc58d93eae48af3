use Rattle.std.proofs.Common.{rules}
use Rattle.std.proofs.lemmas.List.Sorted.{IsNonDecreasingBy-from_sort_by_key}
use Rattle.ti_monitor.specs.Lines.{start_of}
use Rattle.ti_monitor.proofs.lines.Known.of_table.Goals as goal

pub invariant_of-result : goal.invariant_of-result
invariant_of-result c = record { rising = IsNonDecreasingBy-from_sort_by_key start_of _ c.in_ok-sort_by_key.ensures.sorted (λ a r q k. search rules) }
