use Rattle.std.specs.Prelude.{◌≡◌}
use mathlib.Core.List.{IsPrefix}
use Rattle.ti_service.specs.Classes.{classes_of}
use Rattle.ti_debugger.proofs.MethodLaws.{KnownUpTo}
use Rattle.ti_debugger.proofs.desk.Desk.methods.Given as goal

abbrev pub invariant-loop-method : goal.invariant-loop-method
invariant-loop-method l = record {
  rest : l.self ≡ record l.fn.self { agent = l.self.agent };
  grows : IsPrefix (classes_of l.initial.self.agent) (classes_of l.self.agent);
  told : KnownUpTo (classes_of l.initial.self.agent) l.class l.method-index l.known.items;
}
