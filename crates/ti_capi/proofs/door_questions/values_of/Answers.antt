use Rattle.std.proofs.Common.{rules, ◌≡◌, ◌+◌, ◌<◌, length, take, List, sym, subst}
use Rattle.ti_service.proofs.Moves.{if_err}
use Rattle.ti_debugger.specs.declared.question.TellError.{TellError}
use Rattle.ti_debugger.specs.declared.question.Told.{Told}
use Rattle.ti_capi.specs.Questions.{AreTold, HaveTold}
use Rattle.ti_capi.proofs.Telling.{IsUnread, lacks_one, one_more}
use Rattle.ti_capi.proofs.door_questions.values_of.Goals as goal

pub loop-i-preserved : goal.loop-i-preserved
loop-i-preserved c =
    let here = c.loop-i-test.true in
    let pushed = c.push_reserved.ensures in
    let are = one_more c.args.values.now c.loop-i.i _ c.loop-i.told.items c.in_ok-told_of.field-0 here c.loop-i.invariant.0 c.in_ok-told_of.ensures.told in
    let long : length c.push_reserved.new.self.items ≡ c.loop-i.i + 1 = search rules in
    (subst (λ (l : List Told). AreTold (take (c.loop-i.i + 1) c.args.values.now) l) (sym pushed.items) are, long, search rules)

pub returns-in_err-told_of-clause-refused : goal.returns-in_err-told_of-clause-refused
returns-in_err-told_of-clause-refused c =
    let values = c.args.values.now in
    let e = c.in_err-told_of.field-0.0 in
    if_err (λ (e : TellError). IsUnread (HaveTold values) e) c.from_residual-in_err-told_of.result e (search rules)
    (lacks_one values c.loop-i.i _ e c.loop-i-test.true c.in_err-told_of.ensures.refused)
