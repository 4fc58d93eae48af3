use Rattle.std.proofs.Common.{◌≡◌, ◌∙◌, ◌-◌, [], ◌∷◌, drop, get_or, length, arith, refl, sym}
use Rattle.ti_pprof.specs.Stacks.{stack_at, stacks_of, AreAsked}
use Rattle.std.proofs.lemmas.List.{append-nil, drop_all}
use Rattle.ti_pprof.proofs.TrieLaws.{stack_at-zero}
use Rattle.ti_pprof.proofs.AskedLaws.{asked_more, grows_on, nowhere, on_none, one_more}
use Rattle.ti_pprof.proofs.stacks.Trie.number_of.Goals as goal
use Rattle.ti_pprof.proofs.stacks.Trie.number_of.Goals.{After-child}

pub loop-left-init : goal.loop-left-init
loop-left-init c = record {
  stack = stack_at-zero c.args.self.now.nodes.keys ∙ sym (drop_all (length c.args.frames.now) c.args.frames.now (omega arith));
  within = omega arith;
  in_list = omega arith;
  grown = ([], sym (append-nil c.args.self.now.nodes.keys));
  most = refl;
  few = omega arith;
  asked = λ n behind inside. absurd (omega arith);
}

-- the frames from the next one on
next : (c : After-child) → get_or c.args.frames.now (c.loop-left.left - 1) (record { function = 0; line = 0 }) ∷ stack_at (stacks_of c.loop-left.self.nodes.keys) c.loop-left.number ≡ drop (c.loop-left.left - 1) c.args.frames.now
next c =
    let loop = c.loop-left in
    one_more c.args.frames.now (stack_at (stacks_of loop.self.nodes.keys) loop.number) (record { function = 0; line = 0 }) loop.left (omega (arith, c.loop-left-test.true)) loop.invariant.in_list loop.invariant.stack

-- all that was added is asked for
asked : (c : After-child) → AreAsked c.args.self.now.nodes.keys c.child.new.self.nodes.keys c.args.frames.now
asked c =
    let loop = c.loop-left in
    asked_more c.args.self.now.nodes.keys loop.self.nodes.keys c.child.new.self.nodes.keys c.args.frames.now _ (loop.left - 1) c.child.ensures.grown (omega (arith, loop.invariant.in_list, c.loop-left-test.true)) (next c) loop.invariant.asked c.child.ensures.asked

pub returns-in_err-number-clause-absent : goal.returns-in_err-number-clause-absent
returns-in_err-number-clause-absent c =
    let loop = c.loop-left in
    on_none c.from_residual.result
    (nowhere c.args.self.now.nodes.keys loop.self.nodes.keys c.args.frames.now _ (loop.left - 1) c.args.self.now.earlier loop.invariant.grown (next (goal.at.returns-in_err-number-clause-absent c).After-child) c.in_err-number.ensures.absent)

pub returns-in_err-number-clause-asked : goal.returns-in_err-number-clause-asked
returns-in_err-number-clause-asked c = asked (goal.at.returns-in_err-number-clause-asked c).After-child

pub loop-left-preserved : goal.loop-left-preserved
loop-left-preserved c =
    let loop = c.loop-left in
    let here = (goal.at.loop-left-preserved c).After-child in record {
      stack = c.in_ok-number.ensures.stack ∙ next here;
      within = c.in_ok-number.ensures.within;
      in_list = omega (arith, loop.invariant.in_list);
      grown = grows_on c.args.self.now.nodes.keys loop.self.nodes.keys c.child.new.self.nodes.keys loop.invariant.grown c.child.ensures.grown;
      most = c.child.ensures.most ∙ loop.invariant.most;
      few = omega (arith, loop.invariant.few, c.child.ensures.few, c.loop-left-test.true);
      asked = asked here;
    }
