use Rattle.std.proofs.Common.{◌∙◌, map, ap}
use Rattle.std.proofs.lemmas.List.{take_all}
use Rattle.ti_debugger.specs.Replies.{known_class}
use Rattle.ti_debugger.proofs.ClassLaws.{body_told, row_class}
use Rattle.ti_debugger.proofs.class_answers.body_of.Goals as goal

pub returns : goal.returns
returns c =
    let classes = c.args.classes.now in
    let all = ap (map known_class) (take_all c.loop-known.known-index classes c.loop-known-test.false) in
    body_told c.classes_body.result c.as_slice.result.now (map known_class classes) c.classes_body.ensures.ok
    (ap (map row_class) c.as_slice.ensures.value ∙ (c.loop-known.invariant ∙ all))
