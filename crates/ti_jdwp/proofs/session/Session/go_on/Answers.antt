use Rattle.std.proofs.Common.{◌≡◌, None, ap, subst, ◌∙◌}
use Rattle.std.specs.Prelude.{if◌then◌else◌}
use Rattle.ti_jdwp.specs.Queues.{Queue, may_tell, first}
use Rattle.ti_jdwp.specs.Talks.{Talk}
use Rattle.ti_jdwp.proofs.Fronts.{read_on}
use Rattle.ti_jdwp.proofs.session.Session.go_on.Goals as goal

pub returns-in-None-clause-ok : goal.returns-in-None-clause-ok
returns-in-None-clause-ok c =
    let i = c.self.inside in
    let with_queue : Queue → Talk = λ q. record {
      bytes = i.line;
      phase = i.phase;
      first = i.first;
      ended = i.ended;
      gone = i.gone;
      holds = i.suspensions;
      requests = i.requests;
      queue = q;
      work = i.work.items;
      notice = i.notice;
      told = i.told;
      short = i.short;
    } in
    read_on c.args.self.now (with_queue c.take.new.self) c.read.new.self c.read.result
    (ap with_queue c.in-None.ensures.none ∙ c.self.view_is)
    (subst (λ (t : Talk). None ≡ (if may_tell t.queue then first t.queue.waiting else None)) c.self.view_is c.in-None.ensures.result)
    c.read.ensures.ok
