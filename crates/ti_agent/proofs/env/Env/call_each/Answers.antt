use Rattle.std.proofs.Common.{subst, List}
use Rattle.ti_agent.specs.Lists.{CollectsEach}
use Rattle.ti_agent.specs.declared.lists.Posted.{Posted}
use Rattle.ti_agent.proofs.env.Env.call_each.Goals as goal

pub returns-clause-each : goal.returns-clause-each
returns-clause-each g c = record {
  between = c.post_each.new.self.env;
  posted = c.post_each.new.posted.items;
  posts = c.post_each.ensures.posts;
  collects = subst (λ (xs : List Posted). CollectsEach c.post_each.new.self.env c.collect_each.new.self.env xs c.collect_each.new.codes.items) c.deref.ensures.value c.collect_each.ensures.collects;
}
