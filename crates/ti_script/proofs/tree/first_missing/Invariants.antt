use Rattle.std.proofs.Common.{◌≡◌, drop}
use Rattle.serde_json.specs.View.{view}
use Rattle.ti_script.specs.Tree.{first_missing}
use Rattle.ti_script.proofs.tree.first_missing.Given as goal

abbrev pub invariant-loop-member : goal.invariant-loop-member
invariant-loop-member l = first_missing l.whole (drop l.member-index l.members) (view l.value) ≡ first_missing l.whole l.members (view l.value)
