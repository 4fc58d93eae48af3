use Rattle.std.proofs.Common.{rules, ◌≡◌, true, List, Option, Result, Err, sym, subst, ◌∙◌}
use Rattle.std.specs.Prelude.{⊤}
use Rattle.ti_debugger.specs.VariableReplies.{asks_values}
use Rattle.ti_debugger.specs.declared.question.Question.{Question}
use Rattle.ti_debugger.specs.declared.question.TellError.{TellError}
use Rattle.ti_debugger.specs.declared.question.Told.{Told}
use Rattle.ti_capi.specs.Questions.{AreTold, TellsValues, question_at}
use Rattle.ti_capi.proofs.Telling.{unread, were_told}
use Rattle.ti_capi.proofs.door_questions.tell_values.Goals as goal

pub returns-in_err-told : goal.returns-in_err-told
returns-in_err-told c =
    let values = c.args.values.now in
    let texts = c.args.texts.now in
    let door = c.args.door.now in
    let e = c.in_err-told.field-0.0 in
    let is : c.from_residual.result ≡ Err e = search rules in
    let asked : asks_values (question_at door) ≡ true = subst (λ (q : Option Question). asks_values q ≡ true) c.question.ensures (sym c.asks_values.ensures ∙ c.if-not-asks_values.false) in
    subst (λ (r : Result ⊤ TellError). TellsValues values texts door door r) (sym is)
    (unread values texts door e asked c.in_err-told.ensures.refused)

pub returns : goal.returns
returns c =
    let values = c.args.values.now in
    let texts = c.args.texts.now in
    let given = c.as_slice.result.now in
    let same : given ≡ c.in_ok-told.told.items = search rules in
    let are = subst (λ (l : List Told). AreTold values l) (sym same) c.in_ok-told.ensures.same in
    were_told values texts given c.args.door.now c.tell_values.new.self c.tell_values.result are c.tell_values.ensures
