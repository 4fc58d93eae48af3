use Rattle.std.specs.Prelude.{◌≡◌, ◌≤◌, length}
use Rattle.ti_debugger.specs.Crowds.{NoneHeld}
use Rattle.ti_debugger.specs.Suspending.{AreSettled}
use Rattle.ti_debugger.proofs.desk.Desk.settle_all.Given as goal

abbrev pub invariant-loop-place : goal.invariant-loop-place
invariant-loop-place l = record {
  same : length l.self.crowd.list.items ≡ length l.fn.self.crowd.list.items;
  free : NoneHeld l.fn.self.crowd.list.items → NoneHeld l.self.crowd.list.items;
  settled : AreSettled l.fn.self.crowd.list.items l.self.crowd.list.items;
  rest : l.self ≡ record l.fn.self { agent = l.self.agent; crowd = l.self.crowd; resumptions = l.self.resumptions };
  home : l.self.agent.home ≡ l.fn.self.agent.home;
  grows : l.fn.self.resumptions ≤ l.self.resumptions;
}
