use Rattle.std.proofs.Common.{◌≡◌, ◌++◌, ◌+◌, ℕ, List, [], length, get_or, ◌∷◌, arith, sym, ◌∙◌, ap, subst}
use Rattle.std.proofs.lemmas.List.Quantifiers.{position-Some}
use Rattle.std.proofs.lemmas.Option.{get_or_from_slice_get}
use Rattle.std.proofs.lemmas.List.{length_push}
use Rattle.ti_pprof.specs.Stacks.{AreDifferent, AreOnEarlier, stack_at, stacks_of}
use Rattle.ti_pprof.proofs.TrieLaws.{is_same_node, keys_after, same_node, stack_at-newest, stack_at-node, stack_at-Grows, insert_key-new, AreDifferent-push, AreOnEarlier-push}
use Rattle.ti_pprof.specs.declared.stacks.Node.{Node}
use Rattle.ti_pprof.proofs.AskedLaws.{no_child}
use Rattle.ti_pprof.proofs.stacks.Trie.child.Goals as goal

-- one more node is there
pushed : (c : goal.After-insert_full) → c.insert_full.new.self.keys ≡ c.args.self.now.nodes.keys ++ (record { rest = c.args.rest; frame = c.args.frame }) ∷ []
pushed c =
    keys_after c.insert_full.result is_same_node c.args.self.now.nodes c.insert_full.new.self (record { rest = c.args.rest; frame = c.args.frame })
    (sym c.in_default.ensures.found) (c.insert_full.ensures.succeeds (omega (arith, c.args.self.now.reserved))) c.insert_full.ensures.keys

pub invariant_of-self-clause-bounded : goal.invariant_of-self-clause-bounded
invariant_of-self-clause-bounded c = omega (arith, ap length (pushed c), length_push {X = Node})

pub invariant_of-self-clause-reserved : goal.invariant_of-self-clause-reserved
invariant_of-self-clause-reserved c = omega (arith, ap length (pushed c), length_push {X = Node}, c.args.self.now.reserved)

pub invariant_of-self-clause-different : goal.invariant_of-self-clause-different
invariant_of-self-clause-different c =
    subst AreDifferent (sym (pushed c)) (AreDifferent-push c.args.self.now.nodes.keys (record { rest = c.args.rest; frame = c.args.frame }) c.args.self.now.different (sym c.in_default.ensures.found))

pub invariant_of-self-clause-earlier : goal.invariant_of-self-clause-earlier
invariant_of-self-clause-earlier c =
    subst AreOnEarlier (sym (pushed c)) (AreOnEarlier-push c.args.self.now.nodes.keys (record { rest = c.args.rest; frame = c.args.frame }) c.args.self.now.earlier c.requires)

pub returns-in-Some-clause-stack : goal.returns-in-Some-clause-stack
returns-in-Some-clause-stack c =
    let node : Node = record { rest = c.args.rest; frame = c.args.frame } in
    let at = position-Some (is_same_node node) c.args.self.now.nodes.keys c.in-Some.place node (sym c.in-Some.ensures.index) in
    stack_at-node c.args.self.now.nodes.keys c.in-Some.place node c.args.self.now.earlier at.0 (sym (same_node node _ at.1))

pub returns-clause-stack : goal.returns-clause-stack
returns-clause-stack c =
    let node : Node = record { rest = c.args.rest; frame = c.args.frame } in
    let old = c.args.self.now.nodes.keys in
    let nodes = c.insert_full.new.self.keys in
    let pushed = c.in-Ok.ensures.keys ∙ insert_key-new is_same_node old node (sym c.in_default.ensures.found) in
    let stored = c.in-Ok.ensures.stored in
    let at : get_or nodes c.in-Ok.place node ≡ node = get_or_from_slice_get nodes c.in-Ok.place stored.0 node stored.1 ∙ sym (same_node node stored.0 stored.2) in
    let earlier = subst AreOnEarlier (sym pushed) (AreOnEarlier-push old node c.args.self.now.earlier c.requires) in
    stack_at-node nodes c.in-Ok.place node earlier c.in-Ok.ensures.within at
    ∙ ap (λ s. c.args.frame ∷ s) (stack_at-Grows old nodes c.args.rest (node ∷ [], pushed) c.requires)

pub returns-then-len-most-clause-absent : goal.returns-then-len-most-clause-absent
returns-then-len-most-clause-absent c =
    no_child c.args.self.now.nodes.keys (record { rest = c.args.rest; frame = c.args.frame }) c.args.self.now.earlier c.args.self.now.different c.requires (sym c.in_default.ensures.found)

pub returns-clause-asked : goal.returns-clause-asked
returns-clause-asked c n behind inside =
    let node : Node = record { rest = c.args.rest; frame = c.args.frame } in
    let old = c.args.self.now.nodes.keys in
    let pushed = c.in-Ok.ensures.keys ∙ insert_key-new is_same_node old node (sym c.in_default.ensures.found) in
    let last : length old + 1 ≡ n = omega (arith, ap length pushed, length_push old node) in
    subst (λ (k : ℕ). stack_at (stacks_of c.insert_full.new.self.keys) k ≡ c.args.frame ∷ stack_at (stacks_of old) c.args.rest) last
    (ap (λ (nodes : List Node). stack_at (stacks_of nodes) (length old + 1)) pushed ∙ stack_at-newest old node)
