use Rattle.std.proofs.Common.{◌≡◌, ◌+◌, ◌-◌, ◌∙◌, ◌∷◌, [], ◌++◌, get_or, arith, ap, sym}
use Rattle.std.proofs.lemmas.List.{append-nil, append_assoc, get_or_default}
use Rattle.ti_pprof.specs.Stacks.{stack_at, stacks_of}
use Rattle.ti_pprof.specs.declared.stacks.Node.{Node}
use Rattle.ti_pprof.proofs.TrieLaws.{stack_at-node, stack_at-zero}
use Rattle.ti_monitor.proofs.stacks.frames_of.Goals as goal

pub loop-number-preserved : goal.loop-number-preserved
loop-number-preserved c =
    let d : Node = record { rest = 0; frame = record { function = 0; line = 0 } } in
    let nodes = c.args.nodes.now in
    let number = c.loop-number.number in
    let node = get_or nodes (number - 1) d in
    let below = c.requires.earlier (number - 1) d (omega arith) in
    let back : number - 1 + 1 ≡ number = omega arith in
    let at : stack_at (stacks_of nodes) number ≡ node.frame ∷ stack_at (stacks_of nodes) node.rest =
    ap (stack_at (stacks_of nodes)) (sym back) ∙ stack_at-node nodes (number - 1) node c.requires.earlier (omega arith) (get_or_default nodes (number - 1) node d (omega arith)) in
    record {
      there = omega arith;
      rest = ap (λ xs. xs ++ stack_at (stacks_of nodes) node.rest) c.in_ok-push.ensures.items
          ∙ append_assoc c.loop-number.frames.items (node.frame ∷ []) (stack_at (stacks_of nodes) node.rest)
          ∙ ap (λ xs. c.loop-number.frames.items ++ xs) (sym at) ∙ c.loop-number.invariant.rest;
    }

pub returns : goal.returns
returns c =
    let nodes = c.args.nodes.now in
    let end : c.loop-number.number ≡ 0 = omega arith in
    sym (append-nil c.loop-number.frames.items)
    ∙ sym (ap (λ s. c.loop-number.frames.items ++ s) (ap (stack_at (stacks_of nodes)) end ∙ stack_at-zero nodes)) ∙ c.loop-number.invariant.rest
