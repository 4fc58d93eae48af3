use Rattle.std.proofs.Common.{is_some, ◌∙◌, ap, sym}
use Rattle.ti_types.specs.declared.numbers.ThreadNo.{ThreadNo}
use Rattle.ti_agent.specs.Env.{Environment}
use Rattle.ti_agent.specs.Home.{Housed}
use Rattle.ti_agent.specs.Quiesced.{AllCancelledAt}
use Rattle.ti_agent.proofs.AllCancelled.{first_waits, still_cancelled}
use Rattle.ti_agent.proofs.Quiescing.{fewer_cancelled, looks_more, quiesce_then, discarded_there, tried}
use Rattle.ti_agent.proofs.env.Env.discard_all_now.Goals as goal

-- what held at first holds after one more
kept : (a b c : Environment) (t : ThreadNo) → (AllCancelledAt a t → AllCancelledAt b t) → (AllCancelledAt b t → AllCancelledAt c t) → AllCancelledAt a t → AllCancelledAt c t
kept a b c t before after all = after (before all)

pub loop-smaller : goal.loop-smaller
loop-smaller g c =
    let e = c.in_ok-discard_first_now.ensures in
    fewer_cancelled c.loop.self.env c.discard_first_now.new.self.env c.args.thread (discarded_there c.loop.self.env c.discard_first_now.new.self.env c.args.thread c.in_ok-discard_first_now.field-0 (sym c.is_some.ensures ∙ c.if-is_some.true) e.discards e.nobody)

pub loop-preserved : goal.loop-preserved
loop-preserved g c =
    let e = c.in_ok-discard_first_now.ensures in (
      quiesce_then c.args.self.now.env c.loop.self.env c.discard_first_now.new.self.env c.args.thread c.loop.invariant.0
          (tried c.loop.self.env c.discard_first_now.new.self.env c.args.thread (is_some c.in_ok-discard_first_now.field-0) e.discards (λ past. ap (λ (x : Housed _). x.env) (e.nobody past).0)),
      e.home ∙ c.loop.invariant.1,
      kept c.args.self.now.env c.loop.self.env c.discard_first_now.new.self.env c.args.thread c.loop.invariant.2
          (still_cancelled c.loop.self.env c.discard_first_now.new.self.env c.args.thread c.in_ok-discard_first_now.field-0 e.discards (λ past. ap (λ (x : Housed _). x.env) (e.nobody past).0) e.tells),
      looks_more c.args.self.now.env c.loop.self.env c.discard_first_now.new.self.env c.args.thread _ c.loop.invariant.3 e.discards (λ past. ap (λ (x : Housed _). x.env) (e.nobody past).0),
    )

pub returns-clause-each : goal.returns-clause-each
returns-clause-each g c =
    let e = c.in_ok-discard_first_now.ensures in
    looks_more c.args.self.now.env c.loop.self.env c.discard_first_now.new.self.env c.args.thread _ c.loop.invariant.3 e.discards (λ past. ap (λ (x : Housed _). x.env) (e.nobody past).0)

pub returns-clause-steps : goal.returns-clause-steps
returns-clause-steps g c =
    let e = c.in_ok-discard_first_now.ensures in
    quiesce_then c.args.self.now.env c.loop.self.env c.discard_first_now.new.self.env c.args.thread c.loop.invariant.0
    (tried c.loop.self.env c.discard_first_now.new.self.env c.args.thread (is_some c.in_ok-discard_first_now.field-0) e.discards (λ past. ap (λ (x : Housed _). x.env) (e.nobody past).0))

pub returns-clause-cancelled : goal.returns-clause-cancelled
returns-clause-cancelled g c =
    let e = c.in_ok-discard_first_now.ensures in
    kept c.args.self.now.env c.loop.self.env c.discard_first_now.new.self.env c.args.thread c.loop.invariant.2
    (still_cancelled c.loop.self.env c.discard_first_now.new.self.env c.args.thread c.in_ok-discard_first_now.field-0 e.discards (λ past. ap (λ (x : Housed _). x.env) (e.nobody past).0) e.tells)

pub returns-clause-waits : goal.returns-clause-waits
returns-clause-waits g c =
    let e = c.in_ok-discard_first_now.ensures in
    first_waits c.loop.self.env c.discard_first_now.new.self.env c.args.thread c.in_ok-discard_first_now.field-0 (sym c.is_some.ensures ∙ c.if-is_some.false) e.discards (λ past. ap (λ (x : Housed _). x.env) (e.nobody past).0)
