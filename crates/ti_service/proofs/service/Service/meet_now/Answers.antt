use Rattle.std.proofs.Common.{◌≡◌, List, Option, refl, sym, ap, ◌∙◌, subst}
use Rattle.std.specs.Prelude.{length}
use Rattle.ti_types.specs.declared.numbers.EnvNo.{EnvNo}
use Rattle.ti_roster.specs.declared.coming.Coming.{Coming}
use Rattle.ti_roster.specs.declared.view.RosterView.{RosterView}
use Rattle.ti_roster.specs.Log.{Log}
use Rattle.ti_roster.specs.Rule.{Begins, Claims, Moves}
use Rattle.ti_roster.specs.Seats.{Sitting}
use Rattle.ti_roster.specs.View.{AreWithin, holding}
use Rattle.ti_service.specs.Service.{base_of}
use Rattle.ti_service.proofs.Moves.{meet_begins, meet_moves, seat_view, took_desks}
use Rattle.ti_service.proofs.service.Service.meet_now.Goals as goal

pub store_quietly-requires-clause-moves : goal.store_quietly-requires-clause-moves
store_quietly-requires-clause-moves c =
    let seat : Sitting = c.in-Some.seat in
    let h = c.in-Ok.hold in
    let r : Log = c.roster-roster.result.now in
    let r' : Log = c.meet-desks.new.self in
    let value : r ≡ h.roster = c.roster-roster.ensures.value in
    let place : h.view.place ≡ seat.view.place = ap (λ (v : RosterView). v.place) c.in-Ok.ensures.view in
    let seen : h.view.seen ≡ r.items = ap (λ (v : RosterView). v.seen) c.in-Ok.ensures.view ∙ ap (λ (x : Log). x.items) (sym value) in
    let claims : Claims r.items seat.view.place seat.view.seen = subst (λ (x : Log). Claims x.items seat.view.place seat.view.seen) (sym value) c.in-Ok.ensures.claims in
    let user : r.user ≡ seat.view.place = ap (λ (x : Log). x.user) value ∙ c.in-Ok.ensures.roster.1 in
    subst (λ (x : Option EnvNo × List Coming). Moves x.0 r'.user x.1 r'.items) (λ j. (sym place j, sym seen j))
    (meet_moves (λ d. d.items) seat.view.place r r' seat.view.seen c.meet-desks.result claims user c.meet-desks.ensures.met c.meet-desks.ensures.unchanged)

pub store_quietly-requires-clause-begins : goal.store_quietly-requires-clause-begins
store_quietly-requires-clause-begins c =
    let r : Log = c.roster-roster.result.now in
    let r' : Log = c.meet-desks.new.self in
    let seen : c.in-Ok.hold.view.seen ≡ r.items = ap (λ (v : RosterView). v.seen) c.in-Ok.ensures.view ∙ ap (λ (x : Log). x.items) (sym c.roster-roster.ensures.value) in
    subst (λ (l : List Coming). Begins r'.items l) (sym seen) (meet_begins (λ d. d.items) r r' c.meet-desks.result c.meet-desks.ensures.met c.meet-desks.ensures.unchanged)

pub returns-in_ok-desks-in-Ok-clause-taken : goal.returns-in_ok-desks-in-Ok-clause-taken
returns-in_ok-desks-in-Ok-clause-taken c =
    let seat : Sitting = c.in-Some.seat in
    let v : RosterView = c.args.self.now.view in
    let r : Log = c.roster-roster.result.now in
    let r' : Log = c.meet-desks.new.self in
    let value : r ≡ c.in-Ok.hold.roster = c.roster-roster.ensures.value in
    let mine : seat.view ≡ v = seat_view (base_of c.self.inside.roster c.self.inside.classes c.self.inside.potential) c.self.inside.seat seat c.args.self.now c.self.view_is (sym c.take.ensures.value ∙ c.in-Some.is) in
    let placed : r.user ≡ v.place = ap (λ (x : Log). x.user) value ∙ (c.in-Ok.ensures.roster.1 ∙ ap (λ (w : RosterView). w.place) mine) in
    let limits : r.limits ≡ v.limits = ap (λ (x : Log). x.limits) value ∙ (c.in-Ok.ensures.roster.0 ∙ ap (λ (w : RosterView). w.limits) mine) in
    let begins : Begins r.items v.seen = subst (λ (x : Log × RosterView). Begins x.0.items x.1.seen) (λ j. (sym value j, mine j)) c.in-Ok.ensures.begins in
    let claims : Claims r.items v.place v.seen = subst (λ (x : Log × RosterView). Claims x.0.items x.1.place x.1.seen) (λ j. (sym value j, mine j)) c.in-Ok.ensures.claims in
    let looked : AreWithin (length r.items) v.looked = subst (λ (x : Log × RosterView). AreWithin (length x.0.items) x.1.looked) (λ j. (sym value j, mine j)) c.in-Ok.ensures.looked in
    let held : c.in-Ok.hold.view ≡ holding v r.items = c.in-Ok.ensures.view ∙ (λ j. holding (mine j) (sym value j).items) in
    took_desks r.user v c.in-Ok.hold.view c.store_quietly.result.view r r' c.in_ok-desks-in-Ok.field-0.items c.next-next.result refl placed limits begins claims looked held c.in_ok-desks-in-Ok.ensures.met c.next-next.ensures c.store_quietly.ensures.view
