use Rattle.ti_agent.proofs.Quiescing.{news}
use Rattle.ti_agent.proofs.quiesce.await_news.Goals as goal

pub returns-clause-waits : goal.returns-clause-waits
returns-clause-waits g c =
    let e = c.facts.ensures in
    news c.args.desk.now.view c.await_news.new.self.view e.rests e.legal e.mine c.await_news.ensures.news
