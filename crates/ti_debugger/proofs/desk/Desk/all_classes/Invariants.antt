use Rattle.std.specs.Prelude.{◌≡◌, map, take}
use mathlib.Core.List.{IsPrefix}
use Rattle.ti_service.specs.Classes.{classes_of}
use Rattle.ti_debugger.specs.Replies.{known_class, numbered}
use Rattle.ti_debugger.proofs.desk.Desk.all_classes.Given as goal

abbrev pub invariant-loop-class : goal.invariant-loop-class
invariant-loop-class l = record {
  rest : l.self ≡ record l.fn.self { agent = l.self.agent };
  grows : IsPrefix (classes_of l.initial.self.agent) (classes_of l.self.agent);
  told : map known_class l.known.items ≡ take l.class-index (numbered 0 (classes_of l.initial.self.agent));
}
