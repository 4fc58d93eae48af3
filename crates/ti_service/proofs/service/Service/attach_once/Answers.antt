use Rattle.std.proofs.Common.{◌≡◌, List, Option, sym, ap, ◌∙◌, subst}
use Rattle.ti_types.specs.declared.numbers.EnvNo.{EnvNo}
use Rattle.ti_roster.specs.declared.coming.Coming.{Coming}
use Rattle.ti_roster.specs.declared.view.RosterView.{RosterView}
use Rattle.ti_roster.specs.Log.{Log, threads_in}
use Rattle.ti_roster.specs.Rule.{Begins, Claims, Moves}
use Rattle.ti_roster.specs.Seats.{Sitting}
use Rattle.ti_service.proofs.Moves.{come_begins, come_moves}
use Rattle.ti_service.proofs.service.Service.attach_once.Goals as goal

pub store_quietly-requires-clause-moves : goal.store_quietly-requires-clause-moves
store_quietly-requires-clause-moves c =
    let seat : Sitting = c.in-Some.seat in
    let h = c.in-Ok.hold in
    let r : Log = c.roster-roster.result.now in
    let r' : Log = c.come.new.self in
    let value : r ≡ h.roster = c.roster-roster.ensures.value in
    let place : h.view.place ≡ seat.view.place = ap (λ (v : RosterView). v.place) c.in-Ok.ensures.view in
    let seen : h.view.seen ≡ r.items = ap (λ (v : RosterView). v.seen) c.in-Ok.ensures.view ∙ ap (λ (x : Log). x.items) (sym value) in
    let claims : Claims r.items seat.view.place seat.view.seen = subst (λ (x : Log). Claims x.items seat.view.place seat.view.seen) (sym value) c.in-Ok.ensures.claims in
    let user : r.user ≡ seat.view.place = ap (λ (x : Log). x.user) value ∙ c.in-Ok.ensures.roster.1 in
    subst (λ (x : Option EnvNo × List Coming). Moves x.0 r'.user x.1 r'.items) (λ j. (sym place j, sym seen j))
    (come_moves (λ f. record { thread = record { 0 = threads_in r.items }; info = c.args.info; cell = f.cell }) seat.view.place r r' seat.view.seen c.come.result claims user c.come.ensures.came c.come.ensures.unchanged)

pub store_quietly-requires-clause-begins : goal.store_quietly-requires-clause-begins
store_quietly-requires-clause-begins c =
    let r : Log = c.roster-roster.result.now in
    let r' : Log = c.come.new.self in
    let seen : c.in-Ok.hold.view.seen ≡ r.items = ap (λ (v : RosterView). v.seen) c.in-Ok.ensures.view ∙ ap (λ (x : Log). x.items) (sym c.roster-roster.ensures.value) in
    subst (λ (l : List Coming). Begins r'.items l) (sym seen) (come_begins (λ f. record { thread = record { 0 = threads_in r.items }; info = c.args.info; cell = f.cell }) r r' c.come.result c.come.ensures.came c.come.ensures.unchanged)
