use Rattle.std.specs.Prelude.{◌≡◌, ◌≤◌, ◌+◌, drop, length}
use Rattle.ti_pprof.specs.Stacks.{stack_at, stacks_of, AreAsked, Grows}
use Rattle.ti_pprof.proofs.stacks.Trie.number_of.Given as goal

abbrev pub invariant-loop-left : goal.invariant-loop-left
invariant-loop-left l = record {
  stack : stack_at (stacks_of l.self.nodes.keys) l.number ≡ drop l.left l.frames;
  within : l.number ≤ length l.self.nodes.keys;
  in_list : l.left ≤ length l.frames;
  grown : Grows l.fn.self.nodes.keys l.self.nodes.keys;
  most : l.self.most ≡ l.fn.self.most;
  few : length l.self.nodes.keys + l.left ≤ length l.fn.self.nodes.keys + length l.frames;
  asked : AreAsked l.fn.self.nodes.keys l.self.nodes.keys l.frames;
}

abbrev pub decreases-loop-left : goal.decreases-loop-left
decreases-loop-left l = l.left
