use Rattle.std.proofs.Common.{Option, refl, sym, ap, subst}
use Rattle.ti_roster.specs.declared.life_event.NextLife.{NextLife}
use Rattle.ti_service.specs.Memberships.{state_of}
use Rattle.ti_service.specs.Telling.{TellsLife, ToldClass, ToldLife, class_event}
use Rattle.ti_service.proofs.agent_tries.EnvMembershipServiceTries.next_event_now.Goals as goal

pub returns-in-Some-clause-tells : goal.returns-in-Some-clause-tells
returns-in-Some-clause-tells c =
    ToldLife c.in-Some.field-0 (subst (λ (o : Option NextLife). TellsLife (state_of c.args.self.now) (state_of c.next_life_now.new.agent) o) c.in-Some.is c.in_ok-event.ensures.tells) refl

pub returns-in_default-next_class-clause-tells : goal.returns-in_default-next_class-clause-tells
returns-in_default-next_class-clause-tells c =
    let mid = state_of c.next_life_now.new.agent in
    ToldClass mid (subst (λ (o : Option NextLife). TellsLife (state_of c.args.self.now) mid o) c.in_default.is c.in_ok-event.ensures.tells) c.next_class.result c.next_class.ensures.tells (ap class_event (sym c.in_default-next_class.is))

pub returns-clause-tells : goal.returns-clause-tells
returns-clause-tells c =
    let mid = state_of c.next_life_now.new.agent in
    ToldClass mid (subst (λ (o : Option NextLife). TellsLife (state_of c.args.self.now) mid o) c.in_default.is c.in_ok-event.ensures.tells) c.next_class.result c.next_class.ensures.tells (ap class_event (sym c.in-Some-next_class.is))
