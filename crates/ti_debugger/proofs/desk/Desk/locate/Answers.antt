use Rattle.ti_debugger.proofs.desk.Desk.locate.Goals as goal

pub returns-then-not-contains-clause-told : goal.returns-then-not-contains-clause-told
returns-then-not-contains-clause-told c = record {
  stood = c.standing.new.self.agent;
  stepping = c.step.new.self.agent;
  stands = c.in_ok-standing.ensures.told;
  steps = c.in_ok-step.ensures.heard;
  pops = c.in_ok-hear.ensures.heard;
}

pub returns-else-not-contains-clause-told : goal.returns-else-not-contains-clause-told
returns-else-not-contains-clause-told c = record {
  stood = c.standing.new.self.agent;
  stepping = c.step.new.self.agent;
  stands = c.in_ok-standing.ensures.told;
  steps = c.in_ok-step.ensures.heard;
  pops = c.in_ok-hear.ensures.heard;
}
