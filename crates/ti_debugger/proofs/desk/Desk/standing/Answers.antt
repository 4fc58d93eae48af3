use Rattle.std.proofs.Common.{None, pos, refl, subst, sym}
use Rattle.ti_types.specs.declared.answer.Answer.{Answer}
use Rattle.ti_types.specs.declared.call.Call.TheVariants as call
use Rattle.ti_types.specs.declared.place.Place.{Place}
use Rattle.ti_slot.specs.declared.asked.Asked.TheVariants.{Answered}
use Rattle.ti_agent.specs.Posts.{Posts}
use Rattle.ti_debugger.specs.Placing.{TellsLine}
use Rattle.ti_debugger.proofs.desk.Desk.standing.Goals as goal

pub returns-in_ok-line-in-Java-clause-told : goal.returns-in_ok-line-in-Java-clause-told
returns-in_ok-line-in-Java-clause-told c =
    let counted = c.frames_at.new.self.agent in
    let located = c.ask_now.new.self.agent in
    let frame = c.in-Location.frame in
    record {
      counted = counted;
      located = located;
      frame = frame;
      frames = c.in_ok-frames.ensures.told;
      counts = c.in_ok-frames.ensures.home;
      newest = subst (λ (a : Answer). Posts counted.env located.env (record { 0 = c.args.thread }) (call.Location (pos 0)) (Answered a)) c.in-Location.is c.in_ok-frame.ensures.told;
      locates = c.in_ok-frame.ensures.home;
      method = refl;
      line = subst (λ (p : Place). TellsLine p frame.method located c.line_at.new.self.agent c.in_ok-line-in-Java.line) (sym c.in-Java.is) c.in_ok-line-in-Java.ensures.told;
    }

pub returns-in-Native-clause-told : goal.returns-in-Native-clause-told
returns-in-Native-clause-told c =
    let counted = c.frames_at.new.self.agent in
    let located = c.ask_now.new.self.agent in
    let frame = c.in-Location.frame in
    record {
      counted = counted;
      located = located;
      frame = frame;
      frames = c.in_ok-frames.ensures.told;
      counts = c.in_ok-frames.ensures.home;
      newest = subst (λ (a : Answer). Posts counted.env located.env (record { 0 = c.args.thread }) (call.Location (pos 0)) (Answered a)) c.in-Location.is c.in_ok-frame.ensures.told;
      locates = c.in_ok-frame.ensures.home;
      method = refl;
      line = subst (λ (p : Place). TellsLine p frame.method located located None) (sym c.in-Native.is) (refl, refl);
    }
