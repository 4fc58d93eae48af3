use Rattle.std.proofs.Common.{◌∙◌, map, ap}
use Rattle.std.proofs.lemmas.List.{take_all}
use Rattle.ti_debugger.specs.MethodReplies.{known_method}
use Rattle.ti_debugger.proofs.MethodLaws.{body_told, row_method}
use Rattle.ti_debugger.proofs.method_answers.body_of.Goals as goal

pub returns : goal.returns
returns c =
    let methods = c.args.methods.now in
    let all = ap (map known_method) (take_all c.loop-known.known-index methods c.loop-known-test.false) in
    body_told c.methods_body.result c.as_slice.result.now (map known_method methods) c.methods_body.ensures.ok
    (ap (map row_method) c.as_slice.ensures.value ∙ (c.loop-known.invariant ∙ all))
