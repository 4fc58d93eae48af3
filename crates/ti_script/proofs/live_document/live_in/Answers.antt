use Rattle.std.proofs.Common.{rules, ◌≡◌, None, subst, sym}
use Rattle.serde_json.specs.View.{view}
use Rattle.ti_script.specs.Faults.{Faults}
use Rattle.ti_script.specs.Head.{members_fault}
use Rattle.ti_script.specs.Lives.{live_members, live_fault}
use Rattle.ti_script.proofs.LiveLaws.{body_fails, err_is}
use Rattle.ti_script.proofs.live_document.live_in.Goals as goal

pub returns-in_err-walks-clause-err : goal.returns-in_err-walks-clause-err
returns-in_err-walks-clause-err c =
    let members : members_fault live_members (view c.args.value.now) ≡ None = search (rules, c.in_ok-check_members.ensures) in
    let f = body_fails (view c.args.value.now) c.in_ok-cast.cast c.in_err-walks.field-0.0 members c.in_ok-bounds.ensures.read.0 c.in_ok-cast.ensures.read.0 c.in_ok-cast.ensures.read.1 c.in_err-walks.ensures.err in
    err_is c.from_residual-in_err-walks.result (λ e. Faults e (live_fault (view c.args.value.now))) c.from_residual-in_err-walks.ensures.1 (λ e is. subst (λ x. Faults x (live_fault (view c.args.value.now))) (sym is) f)
