use Rattle.ti_agent.proofs.Tried.{out_if_posted}
use Rattle.ti_agent.proofs.env.Env.post_now.Goals as goal

pub returns-then-waits-clause-out : goal.returns-then-waits-clause-out
returns-then-waits-clause-out g c = out_if_posted _ _ _ _ c.post_with_buffer_now.result c.post_with_buffer_now.ensures.posts

pub returns-else-waits-clause-out : goal.returns-else-waits-clause-out
returns-else-waits-clause-out g c = out_if_posted _ _ _ _ c.ask_one_now.result c.ask_one_now.ensures.posts
