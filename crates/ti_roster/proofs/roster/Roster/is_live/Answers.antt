use Rattle.std.proofs.Common.{◌≡◌, ℕ, List, false, is_some, Option, Some, None, sym, ◌∙◌}
use Rattle.std.specs.Prelude.{IfSome, IfNone}
use Rattle.std.specs.List.{list_any}
use Rattle.ti_types.specs.declared.numbers.ThreadNo.{ThreadNo}
use Rattle.ti_roster.specs.declared.newcomer.Newcomer.{Newcomer}
use Rattle.ti_roster.specs.Log.{is_thread, live}
use Rattle.ti_roster.specs.Rows.{IsIndex}
use Rattle.ti_roster.proofs.Rows.{there_live}
use Rattle.ti_roster.proofs.roster.Roster.is_live.Goals as goal

either : (l : List Newcomer) (t : ThreadNo) (r : Option ℕ) → IfSome r (λ i. IsIndex l t i) → IfNone r (list_any (is_thread t) l ≡ false) → is_some r ≡ list_any (is_thread t) l
either l t (Some i) at none = sym (there_live l t i at.one at.at at.is)
either l t None at none = sym none

pub returns : goal.returns
returns c = c.is_some.ensures ∙ either (live c.args.self.now.items) c.args.thread c.index_of.result c.index_of.ensures.there c.index_of.ensures.none
