use Rattle.ti_debugger.proofs.desk.Desk.release.Goals as goal

pub returns-clause-releases : goal.returns-clause-releases
returns-clause-releases c = record {
  freed = c.forget.new.self;
  forgets = c.forget.ensures.forgets;
  resumes = c.resume.ensures.resumes;
  calls = record { rest = c.resume.ensures.rest; home = c.resume.ensures.home; grows = c.resume.ensures.grows };
}
