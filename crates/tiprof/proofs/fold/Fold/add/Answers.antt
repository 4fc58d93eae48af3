use Rattle.std.proofs.Common.{rules, arith, List, ◌≡◌, ◌≤◌, ◌+◌, ◌<◌, ◌∙◌, sym, ap, map, length, refl, subst}
use Rattle.tiprof.specs.declared.fold.Folded.{Folded}
use Rattle.ti_types.specs.declared.numbers.MethodNo.{MethodNo}
use Rattle.tiprof.specs.Folds.{AreDistinct, seen, stacks_of}
use Rattle.tiprof.proofs.FoldLaws.{distinct_first, given_first, methods_decide, others_again, others_first, others_so_far, read_twice, stacks_again}
use Rattle.tiprof.proofs.fold.Fold.add.Goals as goal

pub returns-then-is_of-clause-others : goal.returns-then-is_of-clause-others
returns-then-is_of-clause-others c =
    let ms = map (λ x. x.method) c.args.frames.now in
    let stacks = c.loop-i.self.stacks.items in
    let same : c.index.result.now.methods.items ≡ ms = (methods_decide c.index.result.now.methods.items ms).0 (sym c.is_of.ensures ∙ c.if-is_of.true) in
    let old = ap (λ (f : Folded). f.methods.items) (sym c.index.ensures) ∙ same in
    let h : c.loop-i.i < length stacks = omega (arith, c.loop-i-test.true, c.len-i-end.ensures, ap (λ s. length s.stacks.items) c.loop-i.invariant.0) in
    let twice = read_twice stacks c.loop-i.i c.index.result.now c.index_mut.result.now h c.index.ensures c.index_mut.ensures.value in
    let new = ap (λ (f : Folded). f.methods.items) twice ∙ same in
    λ methods n. others_again stacks c.loop-i.i _ c.index.result.now ms methods h old new n ∙ ap (λ s. seen methods s.stacks.items) c.loop-i.invariant.0

pub returns-clause-given : goal.returns-clause-given
returns-clause-given c =
    let ms = map (λ x. x.method) c.args.frames.now in
    ap (λ z. seen ms z) c.in_ok-push.ensures.items ∙ given_first c.loop-i.self.stacks.items c.in_ok-new.field-0 ms c.in_ok-new.ensures.methods c.in_ok-new.ensures.once ∙ ap (λ s. seen ms s.stacks.items + 1) c.loop-i.invariant.0

pub returns-clause-others : goal.returns-clause-others
returns-clause-others c =
    let ms = map (λ x. x.method) c.args.frames.now in
    λ methods n. ap (λ z. seen methods z) c.in_ok-push.ensures.items ∙ others_first c.loop-i.self.stacks.items c.in_ok-new.field-0 ms methods c.in_ok-new.ensures.methods n ∙ ap (λ s. seen methods s.stacks.items) c.loop-i.invariant.0

pub invariant_of-self-clause-distinct : goal.invariant_of-self-clause-distinct
invariant_of-self-clause-distinct c =
    let stacks = c.loop-i.self.stacks.items in
    let d : Folded = c.index_mut.result.now in
    let f : Folded = record { methods = d.methods; count = d.count + 1 } in
    let h : c.loop-i.i < length stacks = omega (arith, c.loop-i-test.true, c.len-i-end.ensures, ap (λ s. length s.stacks.items) c.loop-i.invariant.0) in
    subst (λ (l : List (List MethodNo)). AreDistinct l) (sym (stacks_again stacks c.loop-i.i f d h c.index_mut.ensures.value refl)) c.loop-i.self.distinct

pub loop-i-preserved : goal.loop-i-preserved
loop-i-preserved c =
    let stacks = c.loop-i.self.stacks.items in
    let ms : List MethodNo = map (λ x. x.method) c.args.frames.now in
    let h : c.loop-i.i < length stacks = omega (arith, c.loop-i-test.true, c.len-i-end.ensures, ap (λ s. length s.stacks.items) c.loop-i.invariant.0) in (
      c.loop-i.invariant.0,
      others_so_far stacks c.loop-i.i c.index.result.now ms c.is_of.result h c.index.ensures c.is_of.ensures c.if-is_of.false c.loop-i.invariant.1,
    )

pub invariant_of-self-in-Break-branch-2 : goal.invariant_of-self-in-Break-branch-2
invariant_of-self-in-Break-branch-2 c =
    let same : c.push.new.self.items ≡ c.loop-i.self.stacks.items = search rules in record {
      sums = search rules;
      distinct = subst (λ (l : List Folded). AreDistinct (stacks_of l)) (sym same) c.loop-i.self.distinct;
    }

pub invariant_of-self-2-clause-distinct : goal.invariant_of-self-2-clause-distinct
invariant_of-self-2-clause-distinct c =
    let stacks = c.loop-i.self.stacks.items in
    let ms : List MethodNo = map (λ x. x.method) c.args.frames.now in
    let all : length stacks ≤ c.loop-i.i = omega (arith, c.loop-i-test.false, c.len-i-end.ensures, ap (λ s. length s.stacks.items) c.loop-i.invariant.0) in
    distinct_first stacks c.push.new.self.items c.in_ok-new.field-0 ms c.loop-i.i c.loop-i.self.distinct c.in_ok-push.ensures.items c.in_ok-new.ensures.methods all c.loop-i.invariant.1
