use Rattle.std.proofs.Common.{rules, ◌≡◌, ◌<◌, ◌+◌, ◌++◌, ◌∷◌, [], length, take, get_or, sym, ap, subst, ◌∙◌, length-append, List}
use Rattle.std.proofs.lemmas.Grind.{take_at_read}
use Rattle.ti_types.specs.declared.numbers.ThreadNo.{ThreadNo}
use Rattle.ti_agent.specs.Lists.{PostsEach, AreOpen}
use Rattle.ti_agent.specs.declared.lists.Posted.{Posted}
use Rattle.ti_agent.proofs.Posting.{posts_more, open_more}
use Rattle.ti_agent.proofs.env.Env.post_each.Goals as goal

pub loop-thread-preserved : goal.loop-thread-preserved
loop-thread-preserved g c =
    let ts = c.args.threads.now in
    let i = c.loop-thread.thread-index in
    let xs = c.loop-thread.posted.items in
    let x = c.post_at.result in
    let none : ThreadNo = record { 0 = 0 } in
    let t : ThreadNo = get_or ts i none in
    let within : i < length ts = c.loop-thread-test.true in
    let more : take (i + 1) ts ≡ take i ts ++ t ∷ [] = (take_at_read ts i none within).1 in
    let items : c.push_reserved.new.self.items ≡ xs ++ x ∷ [] = c.push_reserved.ensures.items in
    let before = c.loop-thread.invariant in
    let posts : PostsEach c.args.self.now.env c.post_at.new.self.env c.args.call (take i ts ++ t ∷ []) (xs ++ x ∷ []) =
    posts_more c.args.self.now.env c.loop-thread.self.env c.post_at.new.self.env c.args.call (take i ts) xs t x before.posts c.post_at.ensures.posted in
    let out : AreOpen c.post_at.new.self.env (xs ++ x ∷ []) = open_more c.loop-thread.self.env c.post_at.new.self.env c.args.call t x xs c.post_at.ensures.posted before.out in
    record {
      count = ap (λ v. length v) items ∙ length-append xs (x ∷ []) ∙ ap (λ n. n + 1) before.count;
      room = search rules;
      home = c.post_at.ensures.home ∙ before.home;
      posts = subst (λ (z : List ThreadNo × List Posted). PostsEach c.args.self.now.env c.post_at.new.self.env c.args.call z.0 z.1) (λ j. (sym more j, sym items j)) posts;
      out = subst (AreOpen c.post_at.new.self.env) (sym items) out;
    }
