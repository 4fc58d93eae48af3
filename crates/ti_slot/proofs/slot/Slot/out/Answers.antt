use Rattle.std.proofs.Common.{◌≡◌, ◌≤◌, [], List, length, ap, sym, ◌∙◌, arith}
use Rattle.std.specs.List.{count_by}
use Rattle.std.proofs.lemmas.Bool.Decides.{nat_tests}
use Rattle.std.proofs.lemmas.List.{get_or_past}
use Rattle.ti_ops.specs.declared.status.CallStatus.{CallStatus}
use Rattle.ti_ops.specs.Statuses.{open_by, is_open}
use Rattle.ti_slot.proofs.WholeLaws.{lists_here, held_here}
use Rattle.ti_slot.proofs.slot.Slot.out.Goals as goal

pub out-requires : goal.out-requires
out-requires c = grind (arith, nat_tests, lists_here c.self.inside c.self.invariant, c.if-env-self.true)

pub returns-then-env-self : goal.returns-then-env-self
returns-then-env-self c = c.out.ensures ∙ held_here c.self.inside _ c.args.env c.self.invariant c.self.view_is

-- of an environment that is not there nothing is kept
pub returns-else-env-self : goal.returns-else-env-self
returns-else-env-self c =
    let i = c.self.inside in
    let past : length i.ops.statuses ≤ c.args.env.0 = grind (arith, nat_tests, lists_here i c.self.invariant, c.if-env-self.false) in
    let none : open_by c.args.env i.ops.statuses ≡ 0 = ap (λ (l : List CallStatus). count_by is_open l) (get_or_past i.ops.statuses c.args.env.0 [] past) in
    sym none ∙ held_here i _ c.args.env c.self.invariant c.self.view_is
