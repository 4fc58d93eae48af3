use Rattle.std.proofs.Common.{◌≡◌, List, Option, length, sym, ap, ◌∙◌, subst}
use Rattle.ti_types.specs.declared.numbers.EnvNo.{EnvNo}
use Rattle.ti_roster.specs.declared.coming.Coming.{Coming}
use Rattle.ti_roster.specs.declared.view.RosterView.{RosterView}
use Rattle.ti_roster.specs.Log.{Log}
use Rattle.ti_roster.specs.Rule.{Begins, Claims, Moves}
use Rattle.ti_roster.specs.Seats.{Sitting}
use Rattle.ti_roster.specs.View.{AreWithin, holding}
use Rattle.ti_roster.proofs.Moving.{MayBe}
use Rattle.ti_service.specs.Service.{base_of}
use Rattle.ti_service.proofs.Moves.{may_leave, seat_view}
use Rattle.ti_service.proofs.Starts.{detaches_by}
use Rattle.ti_service.proofs.service.Service.detach_now.Goals.{After-leave-said}
use Rattle.ti_service.proofs.service.Service.detach_now.Goals as goal

-- the roster may be put back as it is
may : (c : After-leave-said) → MayBe c.in-Some.seat.view.place c.roster-roster.result.now c.leave-said.new.self
may c =
    let seat : Sitting = c.in-Some.seat in
    let r : Log = c.roster-roster.result.now in
    let r' : Log = c.leave-said.new.self in
    let value : r ≡ c.in-Ok.hold.roster = c.roster-roster.ensures.value in
    let claims : Claims r.items seat.view.place seat.view.seen = subst (λ (x : Log). Claims x.items seat.view.place seat.view.seen) (sym value) c.in-Ok.ensures.claims in
    let user : r.user ≡ seat.view.place = ap (λ (x : Log). x.user) value ∙ c.in-Ok.ensures.roster.1 in
    may_leave c.args.thread seat.view.place r r' seat.view.seen c.leave-said.result claims user c.leave-said.ensures.left c.leave-said.ensures.unchanged

seen : (c : After-leave-said) → c.in-Ok.hold.view.seen ≡ c.roster-roster.result.now.items
seen c = ap (λ (v : RosterView). v.seen) c.in-Ok.ensures.view ∙ ap (λ (x : Log). x.items) (sym c.roster-roster.ensures.value)

pub store_quietly-requires-clause-begins : goal.store_quietly-requires-clause-begins
store_quietly-requires-clause-begins c =
    let w = (goal.at.store_quietly-requires-clause-begins c).After-leave-said in
    subst (λ (x : List Coming). Begins c.leave-said.new.self.items x) (sym (seen w)) (may w).begins

pub store_quietly-requires-clause-moves : goal.store_quietly-requires-clause-moves
store_quietly-requires-clause-moves c =
    let w = (goal.at.store_quietly-requires-clause-moves c).After-leave-said in
    let place : c.in-Ok.hold.view.place ≡ c.in-Some.seat.view.place = ap (λ (v : RosterView). v.place) c.in-Ok.ensures.view in
    subst (λ (x : Option EnvNo × List Coming). Moves x.0 c.leave-said.new.self.user x.1 c.leave-said.new.self.items) (λ j. (sym place j, sym (seen w) j)) (may w).moves

pub returns-in-Ok-clause-gone : goal.returns-in-Ok-clause-gone
returns-in-Ok-clause-gone c =
    let seat : Sitting = c.in-Some.seat in
    let v : RosterView = c.args.self.now.view in
    let r : Log = c.roster-roster.result.now in
    let value : r ≡ c.in-Ok.hold.roster = c.roster-roster.ensures.value in
    let mine : seat.view ≡ v = seat_view (base_of c.self.inside.roster c.self.inside.classes c.self.inside.potential) c.self.inside.seat seat c.args.self.now c.self.view_is (sym c.take.ensures.value ∙ c.in-Some.is) in
    let placed : r.user ≡ v.place = ap (λ (x : Log). x.user) value ∙ (c.in-Ok.ensures.roster.1 ∙ ap (λ (w : RosterView). w.place) mine) in
    let begins : Begins r.items v.seen = subst (λ (x : Log × RosterView). Begins x.0.items x.1.seen) (λ j. (sym value j, mine j)) c.in-Ok.ensures.begins in
    let claims : Claims r.items v.place v.seen = subst (λ (x : Log × RosterView). Claims x.0.items x.1.place x.1.seen) (λ j. (sym value j, mine j)) c.in-Ok.ensures.claims in
    let looked : AreWithin (length r.items) v.looked = subst (λ (x : Log × RosterView). AreWithin (length x.0.items) x.1.looked) (λ j. (sym value j, mine j)) c.in-Ok.ensures.looked in
    let held : c.in-Ok.hold.view ≡ holding v r.items = c.in-Ok.ensures.view ∙ (λ j. holding (mine j) (sym value j).items) in
    let l = c.leave-said.ensures in
    detaches_by v c.in-Ok.hold.view c.store_quietly.result.view r c.leave-said.new.self c.args.thread c.leave-said.result placed begins claims looked held c.store_quietly.ensures.view l.there l.who l.left
