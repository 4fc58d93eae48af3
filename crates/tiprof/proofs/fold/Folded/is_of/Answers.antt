use Rattle.std.proofs.Common.{arith, ◌∙◌, sym, map}
use Rattle.tiprof.proofs.FoldLaws.{methods_same, methods_differ, all_same, one_differs}
use Rattle.tiprof.proofs.fold.Folded.is_of.Goals as goal

pub returns : goal.returns
returns c =
    let l = c.loop-i in
    methods_same c.args.self.now.methods.items (map (λ x. x.method) c.args.frames.now) (all_same c.args.self.now.methods.items c.args.frames.now l.i l.invariant.0 l.invariant.1 (omega (arith, c.loop-i-test.false)))

pub returns-then-ne : goal.returns-then-ne
returns-then-ne c =
    methods_differ c.args.self.now.methods.items (map (λ x. x.method) c.args.frames.now)
    (one_differs c.args.self.now.methods.items c.args.frames.now c.loop-i.i c.index.result.now _ c.loop-i-test.true c.index.ensures (sym c.if-ne.true ∙ c.ne.ensures))
