use Rattle.std.proofs.Common.{refl, ap, sym, ◌∙◌, subst, inl}
use Rattle.ti_types.specs.declared.call.Call.TheVariants.{Resume}
use Rattle.ti_slot.specs.declared.asked.Asked.{Asked as AskedOf}
use Rattle.ti_slot.specs.declared.asked.Asked.TheVariants.{Answered}
use Rattle.ti_agent.specs.Home.{Housed}
use Rattle.ti_agent.specs.Posts.{Posts}
use Rattle.ti_agent.proofs.Resuming.{not_resumed, not_waiting, refused_post, resume_kind, resumed}
use Rattle.ti_agent.proofs.env.Env.ensure_resumed_now.Given.{Over}
use Rattle.ti_agent.proofs.env.Env.ensure_resumed_now.Goals.{In-Ok-Answered}
use Rattle.ti_agent.proofs.env.Env.ensure_resumed_now.Goals as goal

-- the resumption was answered
answered : (g : Over) (c : In-Ok-Answered g) → Posts c.discard_all_now.new.self.env c.post_now.new.self.env c.args.thread Resume (Answered c.in-Ok-Answered.answer)
answered g c = subst (λ (r : AskedOf). Posts c.discard_all_now.new.self.env c.post_now.new.self.env c.args.thread Resume r) c.in-Ok-Answered.field-0-is c.in-Ok-Answered.ensures.posts

pub returns-in-Err-clause-refused : goal.returns-in-Err-clause-refused
returns-in-Err-clause-refused g c =
    record { mid = c.discard_all_now.new.self.env; may = c.discard_all_now.ensures.each; why = inl (refl, inl c.in-Err.ensures.busy) }

pub returns-then-has_cancelled_at-clause-again : goal.returns-then-has_cancelled_at-clause-again
returns-then-has_cancelled_at-clause-again g c = λ _.
    record { discards = c.discard_all_now.ensures.each; out = sym c.has_cancelled_at.ensures ∙ c.if-has_cancelled_at.true; waits = c.in-Ok.ensures.waits }

pub resumed_in-requires : goal.resumed_in-requires
resumed_in-requires g c =
    record { kind = resume_kind c.discard_all_now.new.self.env c.post_now.new.self.env c.args.thread c.in-Ok-Answered.answer (answered g (goal.at.resumed_in-requires g c).In-Ok-Answered) }

pub unreachable-requires : goal.unreachable-requires
unreachable-requires g c =
    not_waiting c.discard_all_now.new.self.env c.post_now.new.self.env c.args.thread _ (subst (λ (r : AskedOf). Posts c.discard_all_now.new.self.env c.post_now.new.self.env c.args.thread Resume r) c.in-Ok-Waiting.field-0-is c.in-Ok-Waiting.ensures.posts)

pub returns-in-Ok-Answered-clause-resumed : goal.returns-in-Ok-Answered-clause-resumed
returns-in-Ok-Answered-clause-resumed g c = λ ok.
    resumed c.args.self.now.env c.discard_all_now.new.self.env c.post_now.new.self.env c.args.thread c.in-Ok-Answered.answer c.resumed_in.result c.discard_all_now.ensures.each (sym c.has_cancelled_at.ensures ∙ c.if-has_cancelled_at.false)
    (answered g (goal.at.returns-in-Ok-Answered-clause-resumed g c).In-Ok-Answered) c.resumed_in.ensures.resumed ok

pub returns-in-Ok-Answered-clause-refused : goal.returns-in-Ok-Answered-clause-refused
returns-in-Ok-Answered-clause-refused g c =
    not_resumed c.args.self.now.env c.discard_all_now.new.self.env c.post_now.new.self.env c.args.thread c.in-Ok-Answered.answer c.resumed_in.result c.discard_all_now.ensures.each
    (answered g (goal.at.returns-in-Ok-Answered-clause-refused g c).In-Ok-Answered) c.resumed_in.ensures.refused

pub returns-in-Err-post_now-clause-refused : goal.returns-in-Err-post_now-clause-refused
returns-in-Err-post_now-clause-refused g c =
    record {
      mid = c.discard_all_now.new.self.env;
      may = c.discard_all_now.ensures.each;
      why = inl (ap (λ (x : Housed _). x.env) c.in-Err-post_now.ensures.unchanged, refused_post c.discard_all_now.new.self.env c.args.thread c.in-Err-post_now.error c.in-Err-post_now.ensures.refused);
    }
