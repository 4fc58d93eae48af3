use Rattle.std.proofs.Common.{◌≡◌, List, Option, None, sym, ap, ◌∙◌, subst}
use Rattle.ti_types.specs.declared.numbers.EnvNo.{EnvNo}
use Rattle.ti_roster.specs.declared.coming.Coming.{Coming}
use Rattle.ti_roster.specs.declared.view.RosterView.{RosterView}
use Rattle.ti_roster.specs.Log.{Log}
use Rattle.ti_roster.specs.Rule.{Begins, Claims, Moves}
use Rattle.ti_roster.specs.Seats.{Sitting}
use Rattle.ti_roster.proofs.Moving.{MayBe}
use Rattle.ti_service.specs.Service.{base_of}
use Rattle.ti_service.proofs.Moves.{may_claim, seat_view}
use Rattle.ti_service.proofs.service.Service.claim_now.Goals.{After-attach-said}
use Rattle.ti_service.proofs.service.Service.claim_now.Goals as goal

-- the roster may be put back as it is
may : (c : After-attach-said) → MayBe c.in-Some.seat.view.place c.roster-roster.result.now c.attach-said.new.self
may c =
    let seat : Sitting = c.in-Some.seat in
    let r : Log = c.roster-roster.result.now in
    let r' : Log = c.attach-said.new.self in
    let value : r ≡ c.in-Ok.hold.roster = c.roster-roster.ensures.value in
    let mine : seat.view ≡ c.args.self.now.view = seat_view (base_of c.self.inside.roster c.self.inside.classes c.self.inside.potential) c.self.inside.seat seat c.args.self.now c.self.view_is (sym c.take.ensures.value ∙ c.in-Some.is) in
    let nobody : seat.view.place ≡ None = ap (λ (v : RosterView). v.place) mine ∙ c.requires in
    let claims : Claims r.items seat.view.place seat.view.seen = subst (λ (x : Log). Claims x.items seat.view.place seat.view.seen) (sym value) c.in-Ok.ensures.claims in
    let user : r.user ≡ seat.view.place = ap (λ (x : Log). x.user) value ∙ c.in-Ok.ensures.roster.1 in
    may_claim seat.view.place r r' seat.view.seen c.attach-said.result nobody claims user c.attach-said.ensures.free c.attach-said.ensures.attached c.attach-said.ensures.unchanged

seen : (c : After-attach-said) → c.in-Ok.hold.view.seen ≡ c.roster-roster.result.now.items
seen c = ap (λ (v : RosterView). v.seen) c.in-Ok.ensures.view ∙ ap (λ (x : Log). x.items) (sym c.roster-roster.ensures.value)

pub store_quietly-requires-clause-begins : goal.store_quietly-requires-clause-begins
store_quietly-requires-clause-begins c =
    let w = (goal.at.store_quietly-requires-clause-begins c).After-attach-said in
    subst (λ (x : List Coming). Begins c.attach-said.new.self.items x) (sym (seen w)) (may w).begins

pub store_quietly-requires-clause-moves : goal.store_quietly-requires-clause-moves
store_quietly-requires-clause-moves c =
    let w = (goal.at.store_quietly-requires-clause-moves c).After-attach-said in
    let place : c.in-Ok.hold.view.place ≡ c.in-Some.seat.view.place = ap (λ (v : RosterView). v.place) c.in-Ok.ensures.view in
    subst (λ (x : Option EnvNo × List Coming). Moves x.0 c.attach-said.new.self.user x.1 c.attach-said.new.self.items) (λ j. (sym place j, sym (seen w) j)) (may w).moves
