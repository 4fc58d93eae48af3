use Rattle.std.proofs.Common.{◌∙◌, map, ap}
use Rattle.std.proofs.lemmas.List.{take_all}
use Rattle.ti_debugger.proofs.VariableLaws.{generic_told, named_row, plain_told, row_of}
use Rattle.ti_debugger.proofs.variable_answers.body_of.Goals as goal

pub returns-then-generic : goal.returns-then-generic
returns-then-generic c =
    let variables = c.args.variables.now in
    let all = ap (map named_row) (take_all c.loop-named.named-index variables c.loop-named-test.false) in
    rw c.if-generic.true (generic_told c.generic_variables_body.result c.as_slice-then-generic.result.now variables c.generic_variables_body.ensures.ok (ap (map row_of) c.as_slice-then-generic.ensures.value ∙ (c.loop-named.invariant ∙ all)))

pub returns : goal.returns
returns c =
    let variables = c.args.variables.now in
    let all = ap (map named_row) (take_all c.loop-named.named-index variables c.loop-named-test.false) in
    rw c.if-generic.false (plain_told c.variables_body.result c.as_slice-else-generic.result.now variables c.variables_body.ensures.ok (ap (map row_of) c.as_slice-else-generic.ensures.value ∙ (c.loop-named.invariant ∙ all)))
