use Rattle.std.proofs.Common.{◌≡◌, List, Option, sym, ap, ◌∙◌, subst}
use Rattle.ti_types.specs.declared.numbers.EnvNo.{EnvNo}
use Rattle.ti_roster.specs.declared.coming.Coming.{Coming}
use Rattle.ti_roster.specs.declared.view.RosterView.{RosterView}
use Rattle.ti_roster.specs.Log.{Log}
use Rattle.ti_roster.specs.Rule.{Begins, Claims, Moves}
use Rattle.ti_roster.specs.Seats.{Sitting}
use Rattle.ti_service.proofs.Moves.{may_stop}
use Rattle.ti_service.proofs.service.Service.stop_now.Goals as goal

pub store_quietly-requires-clause-begins : goal.store_quietly-requires-clause-begins
store_quietly-requires-clause-begins c =
    let seat : Sitting = c.in-Some.seat in
    let h = c.in-Ok.hold in
    let r : Log = c.roster-roster.result.now in
    let r' : Log = c.stop-said.new.self in
    let value : r ≡ h.roster = c.roster-roster.ensures.value in
    let seen : h.view.seen ≡ r.items = ap (λ (v : RosterView). v.seen) c.in-Ok.ensures.view ∙ ap (λ (x : Log). x.items) (sym value) in
    let claims : Claims r.items seat.view.place seat.view.seen = subst (λ (x : Log). Claims x.items seat.view.place seat.view.seen) (sym value) c.in-Ok.ensures.claims in
    let user : r.user ≡ seat.view.place = ap (λ (x : Log). x.user) value ∙ c.in-Ok.ensures.roster.1 in
    let may = may_stop c.args.call seat.view.place r r' seat.view.seen c.stop-said.result claims user c.stop-said.ensures.happened c.stop-said.ensures.unchanged in
    subst (λ (x : List Coming). Begins r'.items x) (sym seen) may.begins

pub store_quietly-requires-clause-moves : goal.store_quietly-requires-clause-moves
store_quietly-requires-clause-moves c =
    let seat : Sitting = c.in-Some.seat in
    let h = c.in-Ok.hold in
    let r : Log = c.roster-roster.result.now in
    let r' : Log = c.stop-said.new.self in
    let value : r ≡ h.roster = c.roster-roster.ensures.value in
    let place : h.view.place ≡ seat.view.place = ap (λ (v : RosterView). v.place) c.in-Ok.ensures.view in
    let seen : h.view.seen ≡ r.items = ap (λ (v : RosterView). v.seen) c.in-Ok.ensures.view ∙ ap (λ (x : Log). x.items) (sym value) in
    let claims : Claims r.items seat.view.place seat.view.seen = subst (λ (x : Log). Claims x.items seat.view.place seat.view.seen) (sym value) c.in-Ok.ensures.claims in
    let user : r.user ≡ seat.view.place = ap (λ (x : Log). x.user) value ∙ c.in-Ok.ensures.roster.1 in
    let may = may_stop c.args.call seat.view.place r r' seat.view.seen c.stop-said.result claims user c.stop-said.ensures.happened c.stop-said.ensures.unchanged in
    subst (λ (x : Option EnvNo × List Coming). Moves x.0 r'.user x.1 r'.items) (λ j. (sym place j, sym seen j)) may.moves
