use Rattle.std.proofs.Common.{◌<◌, is_some, not, ◌∙◌, ap, arith}
use Rattle.std.proofs.lemmas.Bool.Decides.{nat_tests}
use Rattle.ti_agent.specs.Deadlines.{former_at}
use Rattle.ti_agent.specs.Home.{Housed}
use Rattle.ti_agent.proofs.AllCancelled.{first_waits}
use Rattle.ti_agent.proofs.Former.{drops_more}
use Rattle.ti_agent.proofs.Quiescing.{discarded_there, fewer_cancelled}
use Rattle.ti_agent.proofs.env.Env.drop_former_now.Goals as goal

pub loop-thread-smaller : goal.loop-thread-smaller
loop-thread-smaller g c =
    let e = c.in_ok-discard_first_now.ensures in
    fewer_cancelled c.loop-thread.self.env c.discard_first_now.new.self.env c.args.thread
    (discarded_there c.loop-thread.self.env c.discard_first_now.new.self.env c.args.thread c.in_ok-discard_first_now.field-0 (c.is_none.ensures ∙ ap not c.if-is_none.false) e.discards e.nobody)

pub loop-thread-preserved : goal.loop-thread-preserved
loop-thread-preserved g c =
    let e = c.in_ok-discard_first_now.ensures in
    let former : 0 < former_at c.loop-thread.self.env c.args.thread = grind (arith, nat_tests, c.has_former.ensures, c.loop-thread-test.true) in (
      drops_more c.args.self.now.env c.loop-thread.self.env c.discard_first_now.new.self.env c.args.thread (is_some c.in_ok-discard_first_now.field-0) c.loop-thread.invariant.0 former e.discards
          (λ past. ap (λ (x : Housed _). x.env) (e.nobody past).0),
      e.home ∙ c.loop-thread.invariant.1,
    )

pub returns-then-is_none-clause-drops : goal.returns-then-is_none-clause-drops
returns-then-is_none-clause-drops g c =
    let e = c.in_ok-discard_first_now.ensures in
    let former : 0 < former_at c.loop-thread.self.env c.args.thread = grind (arith, nat_tests, c.has_former.ensures, c.loop-thread-test.true) in
    drops_more c.args.self.now.env c.loop-thread.self.env c.discard_first_now.new.self.env c.args.thread (is_some c.in_ok-discard_first_now.field-0) c.loop-thread.invariant.0 former e.discards
    (λ past. ap (λ (x : Housed _). x.env) (e.nobody past).0)

pub returns-then-is_none-clause-waits : goal.returns-then-is_none-clause-waits
returns-then-is_none-clause-waits g c = λ _.
    let e = c.in_ok-discard_first_now.ensures in
    first_waits c.loop-thread.self.env c.discard_first_now.new.self.env c.args.thread c.in_ok-discard_first_now.field-0 (c.is_none.ensures ∙ ap not c.if-is_none.true) e.discards
    (λ past. ap (λ (x : Housed _). x.env) (e.nobody past).0)
