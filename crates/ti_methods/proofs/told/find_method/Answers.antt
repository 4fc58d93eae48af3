use Rattle.std.proofs.Common.{arith, ◌≡◌, ◌-◌, ◌<◌, ◌≤◌, ◌∙◌, Some, ap, sym, length, slice_get}
use Rattle.std.proofs.lemmas.Bool.Decides.{nat_tests}
use Rattle.std.proofs.lemmas.Option.{slice_get-get_or}
use Rattle.ti_methods.specs.Classes.{first_of}
use Rattle.ti_methods.proofs.Lists.{busy_still, method_found}
use Rattle.ti_methods.proofs.told.find_method.Goals as goal

pub returns-in_default-find-clause-refused : goal.returns-in_default-find-clause-refused
returns-in_default-find-clause-refused c = busy_still c.load-methods.new.seen.log c.find.new.seen.log c.args.method c.find.ensures.grows (omega (arith, c.if-method-methods.false, c.load-methods.ensures.methods))

pub returns-then-method-entry-clause-refused : goal.returns-then-method-entry-clause-refused
returns-then-method-entry-clause-refused c = busy_still c.load-methods.new.seen.log c.find.new.seen.log c.args.method c.find.ensures.grows (omega (arith, c.if-method-methods.false, c.load-methods.ensures.methods))

pub returns-in-Some-get-clause-method : goal.returns-in-Some-get-clause-method
returns-in-Some-get-clause-method c =
    let log = c.find.new.seen.log in
    let entry = c.in-Ok.entry.now in
    let info = c.in-Some-get.info.now in
    let place = c.args.method.0 - entry.first in
    let at = c.in-Ok.ensures.found in
    let items : c.deref.result.now ≡ entry.class.methods.items = c.deref.ensures.value in
    let found = c.in-Some-get.ensures.lookup in
    let within : place < length c.deref.result.now = grind (arith, nat_tests, found.0) in
    let here : slice_get c.deref.result.now place ≡ Some info = slice_get-get_or c.deref.result.now place info within ∙ ap Some (sym found.1) in
    let from : first_of log c.in-Some.class.now ≤ c.args.method.0 = omega (arith, c.if-method-entry.false, at.first) in
    method_found log c.in-Some.class.now c.args.method.0 entry.class info at.at from (ap (λ k. slice_get entry.class.methods.items (c.args.method.0 - k)) (sym at.first) ∙ (ap (λ l. slice_get l place) (sym items) ∙ here))

pub returns-in-None-clause-refused : goal.returns-in-None-clause-refused
returns-in-None-clause-refused c = busy_still c.load-methods.new.seen.log c.find.new.seen.log c.args.method c.find.ensures.grows (omega (arith, c.if-method-methods.false, c.load-methods.ensures.methods))
