use Rattle.std.specs.Prelude.{◌≡◌, true, length}
use Rattle.std.specs.List.{AllWithin}
use Rattle.ti_debugger.specs.declared.watched.Watched.{Watched}
use Rattle.ti_debugger.specs.Desks.{Works}
use Rattle.ti_debugger.specs.Holding.{is_let_go}
use Rattle.ti_debugger.proofs.desk.Desk.resume_all.Given as goal

abbrev pub invariant-loop-place : goal.invariant-loop-place
invariant-loop-place l = record {
  same : length l.self.crowd.list.items ≡ length l.fn.self.crowd.list.items;
  free : AllWithin (λ (w : Watched). is_let_go w.hold ≡ true) l.self.crowd.list.items 0 l.place;
  rest : Works l.fn.self l.self;
}
