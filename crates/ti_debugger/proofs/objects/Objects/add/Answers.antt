use Rattle.std.proofs.Common.{◌≡◌, ◌∙◌, ◌+◌, ◌++◌, ◌≤◌, [], List, length, ap, arith, refl, subst, sym}
use Rattle.std.specs.List.{sum_by}
use Rattle.std.specs.Vec.Iter.{into_iter_items}
use Rattle.std.proofs.lemmas.List.{append-nil, nil_from_length}
use Rattle.ti_debugger.specs.declared.objects.Object.{Object}
use Rattle.ti_debugger.specs.Kept.{bytes_of, numbered, size_of}
use Rattle.ti_debugger.proofs.KeptLaws.{bytes_added, many_added, names_added}
use Rattle.ti_debugger.proofs.objects.Objects.add.Goals as goal
use Rattle.ti_debugger.proofs.objects.Objects.add.Goals.{After-self-1}

pushed : (c : After-self-1) → c.loop-object.self.list.items ≡ c.args.self.now.list.items ++ numbered c.args.thread c.args.self.now.numbers c.args.more.items
pushed c =
    let thread = c.args.thread in
    let list = c.loop-object.self.list.items in
    let none : into_iter_items c.loop-object.object-iterator ≡ [] = nil_from_length (into_iter_items c.loop-object.object-iterator) (omega (arith, c.in-None.ensures.steps.0, c.loop-object.object-iterator.rest.ok)) in
    let last : list ++ numbered thread c.loop-object.number (into_iter_items c.loop-object.object-iterator) ≡ list = ap (λ (more : List Object). list ++ numbered thread c.loop-object.number more) none ∙ append-nil list in
    sym last ∙ c.loop-object.invariant.list

pub returns-clause-same : goal.returns-clause-same
returns-clause-same c = names_added c.args.thread c.args.self.now.numbers c.args.self.now.list.items c.loop-object.self.list.items c.args.more.items (pushed c)

pub returns-clause-bound : goal.returns-clause-bound
returns-clause-bound c = λ is. many_added c.args.thread c.args.self.now.numbers 65536 c.args.self.now.list.items c.loop-object.self.list.items c.args.more.items (pushed c)
    (subst (λ (l : List Object). length c.args.self.now.list.items + length l ≤ 65536) c.as_slice.ensures.value (c.if-not-has_room.ensures.count refl))

pub returns-clause-bytes : goal.returns-clause-bytes
returns-clause-bytes c = λ is. bytes_added c.args.thread c.args.self.now.numbers 16777216 c.args.self.now.list.items c.loop-object.self.list.items c.args.more.items (pushed c)
    (subst (λ (l : List Object). bytes_of c.args.self.now.list.items + sum_by size_of l ≤ 16777216) c.as_slice.ensures.value (c.if-not-has_room.ensures.bytes refl))
