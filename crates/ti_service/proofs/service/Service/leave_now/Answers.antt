use Rattle.std.proofs.Common.{◌≡◌, List, Option, Some, sym, ap, ◌∙◌, subst}
use Rattle.std.specs.Prelude.{All}
use Rattle.ti_types.specs.declared.limits.Limits.{Limits}
use Rattle.ti_types.specs.declared.numbers.EnvNo.{EnvNo}
use Rattle.ti_roster.specs.declared.coming.Coming.{Coming}
use Rattle.ti_roster.specs.declared.view.RosterView.{RosterView}
use Rattle.ti_roster.specs.Log.{Log}
use Rattle.ti_roster.specs.Roster.{IsOwn, MayGoBack}
use Rattle.ti_roster.specs.Rule.{Begins, Claims, Moves}
use Rattle.ti_roster.specs.Seats.{Sitting}
use Rattle.ti_service.specs.Service.{base_of}
use Rattle.ti_service.proofs.Moves.{all_back, leave_begins, leave_moves, seat_view}
use Rattle.ti_service.proofs.service.Service.leave_now.Goals.{After-roster-roster}
use Rattle.ti_service.proofs.service.Service.leave_now.Goals as goal

-- the desks may go back into the roster that was found
back : (c : After-roster-roster) → All (λ f. MayGoBack c.roster-roster.result.now f) c.args.desks.items
back c =
    let seat : Sitting = c.in-Some.seat in
    let r : Log = c.roster-roster.result.now in
    let value : r ≡ c.in-Ok.hold.roster = c.roster-roster.ensures.value in
    let mine : seat.view ≡ c.args.self.now.view = seat_view (base_of c.self.inside.roster c.self.inside.classes c.self.inside.potential) c.self.inside.seat seat c.args.self.now c.self.view_is (sym c.take.ensures.value ∙ c.in-Some.is) in
    let user : r.user ≡ Some c.requires.env = ap (λ (x : Log). x.user) value ∙ (c.in-Ok.ensures.roster.1 ∙ (ap (λ (v : RosterView). v.place) mine ∙ c.requires.place)) in
    let limits : r.limits ≡ c.args.self.now.view.limits = ap (λ (x : Log). x.limits) value ∙ (c.in-Ok.ensures.roster.0 ∙ ap (λ (v : RosterView). v.limits) mine) in
    let begins : Begins r.items c.args.self.now.view.seen = subst (λ (x : Log × RosterView). Begins x.0.items x.1.seen) (λ j. (sym value j, mine j)) c.in-Ok.ensures.begins in
    all_back r c.args.self.now.view.seen c.requires.env c.args.desks.items user begins (subst (λ (l : Limits). All (IsOwn c.args.self.now.view.seen l c.requires.env) c.args.desks.items) (sym limits) c.requires.own)

pub dispose-said-requires : goal.dispose-said-requires
dispose-said-requires c = back (goal.at.dispose-said-requires c).After-roster-roster

pub store_quietly-requires-clause-begins : goal.store_quietly-requires-clause-begins
store_quietly-requires-clause-begins c =
    let r : Log = c.roster-roster.result.now in
    let r' : Log = c.dispose-said.new.self in
    let value : r ≡ c.in-Ok.hold.roster = c.roster-roster.ensures.value in
    let seen : c.in-Ok.hold.view.seen ≡ r.items = ap (λ (v : RosterView). v.seen) c.in-Ok.ensures.view ∙ ap (λ (x : Log). x.items) (sym value) in
    subst (λ (l : List Coming). Begins r'.items l) (sym seen)
    (leave_begins r r' c.args.desks.items c.dispose-said.result (back (goal.at.store_quietly-requires-clause-begins c).After-roster-roster) c.dispose-said.ensures.disposed c.dispose-said.ensures.unchanged)

pub store_quietly-requires-clause-moves : goal.store_quietly-requires-clause-moves
store_quietly-requires-clause-moves c =
    let seat : Sitting = c.in-Some.seat in
    let h = c.in-Ok.hold in
    let r : Log = c.roster-roster.result.now in
    let r' : Log = c.dispose-said.new.self in
    let value : r ≡ h.roster = c.roster-roster.ensures.value in
    let place : h.view.place ≡ seat.view.place = ap (λ (v : RosterView). v.place) c.in-Ok.ensures.view in
    let seen : h.view.seen ≡ r.items = ap (λ (v : RosterView). v.seen) c.in-Ok.ensures.view ∙ ap (λ (x : Log). x.items) (sym value) in
    let claims : Claims r.items seat.view.place seat.view.seen = subst (λ (x : Log). Claims x.items seat.view.place seat.view.seen) (sym value) c.in-Ok.ensures.claims in
    let user : r.user ≡ seat.view.place = ap (λ (x : Log). x.user) value ∙ c.in-Ok.ensures.roster.1 in
    subst (λ (x : Option EnvNo × List Coming). Moves x.0 r'.user x.1 r'.items) (λ j. (sym place j, sym seen j))
    (leave_moves seat.view.place r r' seat.view.seen c.args.desks.items c.dispose-said.result claims user (back (goal.at.store_quietly-requires-clause-moves c).After-roster-roster) c.dispose-said.ensures.disposed c.dispose-said.ensures.unchanged)
