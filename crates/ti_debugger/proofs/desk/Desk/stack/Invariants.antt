use Rattle.std.specs.Prelude.{◌≡◌, take}
use Rattle.ti_service.specs.Classes.{classes_of}
use Rattle.ti_debugger.specs.StackReplies.{AreRowsOf}
use Rattle.ti_debugger.proofs.StackLaws.{below}
use Rattle.ti_debugger.proofs.desk.Desk.stack.Given as goal

abbrev pub invariant-loop-frame : goal.invariant-loop-frame
invariant-loop-frame l = record {
  rest : l.self ≡ record l.fn.self { agent = l.self.agent };
  next : l.next ≡ below l.fn.depth l.frame-index;
  rows : AreRowsOf (classes_of l.self.agent) l.fn.depth (take l.frame-index l.frame-items) l.rows.items;
}
