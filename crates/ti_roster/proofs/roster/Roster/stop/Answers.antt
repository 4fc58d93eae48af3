use Rattle.std.proofs.Common.{◌≡◌, ◌+◌, List, [], ◌∷◌, ◌++◌, length, length-append, Bool, if◌then◌else◌, ap, sym, ◌∙◌, subst, arith}
use Rattle.ti_stops.specs.Stops.{after}
use Rattle.ti_roster.specs.declared.coming.Coming.{Coming}
use Rattle.ti_roster.specs.declared.coming.Coming.TheVariants.{Stop}
use Rattle.ti_roster.specs.Events.{AreEvents}
use Rattle.ti_roster.specs.Log.{threads_in}
use Rattle.ti_roster.specs.Rows.{AreRows}
use Rattle.ti_roster.proofs.Logs.{threads_stop}
use Rattle.ti_roster.proofs.Lives.{events_stop}
use Rattle.ti_roster.proofs.Rows.{rows_stop}
use Rattle.ti_roster.proofs.Stopped.{still_stops}
use Rattle.ti_roster.proofs.roster.Roster.stop.Goals as goal

pub invariant_of-self-then-is_news : goal.invariant_of-self-then-is_news
invariant_of-self-then-is_news c =
    let log = c.self.inside.log.items in
    let rows = c.self.inside.rows in
    let marks = c.self.inside.marks.items in
    let user = c.self.inside.user in
    let stops = c.self.inside.stops in
    let items : c.and-self-inside.result.items ≡ log ++ Stop user c.args.call ∷ [] = c.and-self-inside.ensures in
    let len : length c.and-self-inside.result.items ≡ length log + 1 = ap (λ (l : List Coming). length l) items ∙ length-append log (Stop user c.args.call ∷ []) in
    let count : threads_in c.and-self-inside.result.items ≡ threads_in log = ap threads_in items ∙ threads_stop log user c.args.call in
    let next : c.call.new.self ≡ after stops user c.args.call =
    c.in_ok-reply.ensures.after ∙ ap (λ (b : Bool). if b then after stops user c.args.call else stops) (sym c.is_news.ensures ∙ c.if-is_news.true) in (
      omega (arith, len, c.self.invariant.0),
      omega (arith, c.if-self-ge-LAST.false),
      c.self.invariant.2 ∙ sym count,
      subst (λ (x : List Coming). AreRows x c.self.inside.limits rows marks) (sym items) (rows_stop log c.self.inside.limits rows marks user c.args.call c.self.invariant.3),
      subst (λ (x : List Coming). AreEvents x c.self.inside.life.events) (sym items) (events_stop log c.self.inside.life.events user c.args.call c.self.invariant.4),
      still_stops log c.and-self-inside.result.items (Stop user c.args.call) stops c.call.new.self items c.self.invariant.5 next,
    )
