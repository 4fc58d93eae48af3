use Rattle.std.proofs.Common.{arith}
use Rattle.serde_json.specs.View.{view}
use Rattle.ti_script.proofs.TreeLaws.{has_exactly_found}
use Rattle.ti_script.proofs.tree.has_exactly.Goals as goal

pub returns-then-len-members : goal.returns-then-len-members
returns-then-len-members c =
    let found = has_exactly_found c.args.members.now (view c.args.value.now) c.in-Some.found.now.entries c.in-Some.ensures in
    grind (arith, found)

pub returns-else-len-members : goal.returns-else-len-members
returns-else-len-members c =
    let found = has_exactly_found c.args.members.now (view c.args.value.now) c.in-Some.found.now.entries c.in-Some.ensures in
    grind (arith, found)
