use Rattle.std.proofs.Common.{rules, ◌≡◌, None, subst, sym}
use Rattle.serde_json.specs.View.{view}
use Rattle.ti_script.specs.Faults.{Faults}
use Rattle.ti_script.specs.Head.{walk_members, members_fault}
use Rattle.ti_script.specs.Walks.{walk_fault}
use Rattle.ti_script.proofs.LiveLaws.{events_fail, err_is}
use Rattle.ti_script.proofs.walk_document.walk_in.Goals as goal

pub returns-in_err-events-clause-err : goal.returns-in_err-events-clause-err
returns-in_err-events-clause-err c =
    let members : members_fault walk_members (view c.args.value.now) ≡ None = search (rules, c.in_ok-check_members.ensures) in
    let f = events_fail (view c.args.value.now) c.in_ok-cast.cast c.in_err-events.field-0.0 members c.in_ok-bounds.ensures.read.0 c.in_ok-cast.ensures.read.0 c.in_ok-cast.ensures.read.1 c.in_err-events.ensures.err in
    err_is c.from_residual-in_err-events.result (λ e. Faults e (walk_fault (view c.args.value.now))) c.from_residual-in_err-events.ensures.1 (λ e is. subst (λ x. Faults x (walk_fault (view c.args.value.now))) (sym is) f)
