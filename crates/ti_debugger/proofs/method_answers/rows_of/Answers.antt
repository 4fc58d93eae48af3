use Rattle.std.proofs.Common.{rules}
use Rattle.std.proofs.lemmas.List.Sorted.{IsNonDecreasingBy-from_sort_by_key}
use Rattle.ti_debugger.specs.LineReplies.{index_of}
use Rattle.ti_debugger.proofs.method_answers.rows_of.Goals as goal

pub returns-clause-order : goal.returns-clause-order
returns-clause-order c = IsNonDecreasingBy-from_sort_by_key index_of _ c.in_ok-sort_by_key.ensures.sorted (λ a r q k. search rules)
