use Rattle.std.proofs.Common.{◌∙◌, List, ℕ, Some, ap, get_or, inr, refl, sym}
use Rattle.ti_debugger.specs.Taking.{reading_of}
use Rattle.ti_debugger.specs.declared.question.Content.TheVariants.{Nil}
use Rattle.ti_debugger.specs.declared.question.Told.{Told}
use Rattle.ti_debugger.proofs.TakeLaws.{read_more, read_not, read_whole, whole_rest, why}
use Rattle.ti_debugger.proofs.taking.read_answer.Goals as goal

abbrev nothing : Told
nothing = record { slot = 0; content = Nil }

pub returns-in-Err-clause-refused : goal.returns-in-Err-clause-refused
returns-in-Err-clause-refused c =
    let told : Told = get_or c.args.values.now c.loop-told.told-index nothing in
    why c.args.given told.slot told.content c.loop-told.rest.now c.loop-told.taken c.take.new.self c.take.result c.in-Err.error _ c.take.ensures c.in-Err.is
    (λ none. read_not c.args.given c.args.values.now c.loop-told.told-index nothing _ _ c.loop-told-test.true none c.loop-told.invariant)

pub loop-told-preserved : goal.loop-told-preserved
loop-told-preserved c = rw c.behind-rest.ensures (read_more c.args.given c.args.values.now c.loop-told.told-index nothing _ _ _ c.loop-told-test.true c.in-Ok.ensures.1 c.loop-told.invariant)

pub returns-then-is_whole-clause-ok : goal.returns-then-is_whole-clause-ok
returns-then-is_whole-clause-ok c =
    let whole = sym c.is_whole.ensures ∙ c.if-is_whole.true in
    read_whole c.args.given c.args.values.now c.loop-told.told-index (reading_of c.loop-told.taken c.loop-told.rest.now) _ _ c.loop-told-test.false whole c.loop-told.invariant
    ∙ ap (λ (rest : List ℕ). Some (reading_of c.loop-told.taken rest)) (whole_rest (reading_of c.loop-told.taken c.loop-told.rest.now) whole)

pub returns-else-is_whole-clause-refused : goal.returns-else-is_whole-clause-refused
returns-else-is_whole-clause-refused c =
    let broken = sym c.is_whole.ensures ∙ c.if-is_whole.false in
    inr (refl, read_whole c.args.given c.args.values.now c.loop-told.told-index (reading_of c.loop-told.taken c.loop-told.rest.now) _ _ c.loop-told-test.false broken c.loop-told.invariant)
