use Rattle.std.proofs.Common.{◌∙◌, ◌∷◌, ◌++◌, [], List, arith, ap, inr, refl, rules}
use Rattle.std.proofs.lemmas.Bool.Decides.{nat_tests}
use Rattle.ti_debugger.specs.declared.asked.Named.{Named}
use Rattle.ti_debugger.specs.declared.question.Variable.{Variable}
use Rattle.ti_debugger.proofs.TakeLaws.{named_all, named_left, named_more, named_not}
use Rattle.ti_debugger.proofs.taking.named_in.Goals as goal

abbrev nothing : Variable
nothing = record { slot = 0; first = 0; count = 0; name_length = 0 }

pub loop-variable-preserved : goal.loop-variable-preserved
loop-variable-preserved c =
    let added = c.push_reserved.ensures.items ∙ ap (λ (l : List Named). l ++ c.in_ok-one.one ∷ []) c.in_ok-reserve.ensures.items ∙ ap (λ (n : Named). c.loop-variable.all.items ++ n ∷ []) c.in_ok-one.ensures.ok in
    rw c.behind-rest.ensures (named_more c.args.variables.now c.loop-variable.variable-index nothing c.loop-variable.rest.now c.loop-variable.all.items c.push_reserved.new.self.items _ c.loop-variable-test.true (search rules) added c.loop-variable.invariant)

pub returns-then-not-is_name-clause-refused : goal.returns-then-not-is_name-clause-refused
returns-then-not-is_name-clause-refused c = inr (refl, named_not c.args.variables.now c.loop-variable.variable-index nothing c.loop-variable.rest.now c.loop-variable.all.items _ c.loop-variable-test.true (search rules) c.loop-variable.invariant)

pub returns-then-is_empty-clause-told : goal.returns-then-is_empty-clause-told
returns-then-is_empty-clause-told c = named_all c.args.variables.now c.loop-variable.variable-index c.loop-variable.rest.now c.loop-variable.all.items _ c.loop-variable-test.false (grind (arith, nat_tests)) c.loop-variable.invariant

pub returns-else-is_empty-clause-refused : goal.returns-else-is_empty-clause-refused
returns-else-is_empty-clause-refused c = inr (refl, named_left c.args.variables.now c.loop-variable.variable-index c.loop-variable.rest.now c.loop-variable.all.items _ c.loop-variable-test.false (λ none. grind (arith, nat_tests)) c.loop-variable.invariant)
