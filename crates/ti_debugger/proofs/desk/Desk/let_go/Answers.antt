use Rattle.std.proofs.Common.{ap, ◌∙◌}
use Rattle.ti_debugger.specs.declared.halted.Stops.{Stops}
use Rattle.ti_debugger.specs.Stopping.{stopped_in}
use Rattle.ti_debugger.proofs.desk.Desk.let_go.Goals as goal

pub returns : goal.returns
returns c =
    let new = c.let_go_on.new.self in
    record {
      rest = c.let_go_on.ensures.rest ∙ ap (λ (s : Stops). record c.args.self.now { agent = new.agent; stops = record s { halted = new.stops.halted }; resumptions = new.resumptions }) c.let_go.ensures.rest;
      stopped = c.let_go_on.ensures.stopped ∙ ap stopped_in c.let_go.ensures.halted;
      grows = c.let_go_on.ensures.grows;
    }
