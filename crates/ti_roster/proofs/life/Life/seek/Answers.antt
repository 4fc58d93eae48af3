use Rattle.std.proofs.Common.{◌≡◌, ◌-◌, ◌+◌, ◌<◌, ℕ, suc, List, length, drop, Some, refl, sym, ap, ◌∙◌, arith}
use Rattle.std.specs.Prelude.{slice_get}
use Rattle.ti_roster.specs.declared.life_event.LifeEvent.{LifeEvent}
use Rattle.ti_roster.specs.Events.{Lives, most_kept}
use Rattle.ti_roster.specs.Modes.{seek}
use Rattle.ti_roster.proofs.Lives.{last_at, last_first}
use Rattle.ti_roster.proofs.Places.{read_at}
use Rattle.ti_roster.proofs.Seeking.{seek_end, seek_here, seek_past}
use Rattle.ti_roster.proofs.life.Life.seek.Goals.{After-index-event}
use Rattle.ti_roster.proofs.life.Life.seek.Goals as goal

-- the event that is read is the one with this index
here : (c : After-index-event) → slice_get c.args.self.now.events c.loop-index.index ≡ Some c.index-event.result.now
here c =
    let all : List LifeEvent = c.self.inside.all.items in
    let kept : List LifeEvent = c.self.inside.kept.items in
    let same : all ≡ c.args.self.now.events = ap (λ (l : Lives). l.events) c.self.view_is in
    let count = ap (λ (l : List LifeEvent). length l) same in
    let first : length all - length kept ≡ length all - most_kept = last_first all kept c.self.invariant.3 in
    let k = c.loop-index.index - c.first-first.result in
    let within : k < length kept = omega (arith, first, count, c.first-first.ensures.first, c.loop-index-test.true, c.loop-index.auto.index, c.requires, c.self.invariant.0) in
    let place : c.loop-index.index ≡ length all - most_kept + k = omega (arith, count, c.first-first.ensures.first, c.loop-index.auto.index, c.requires) in
    ap (λ (l : List LifeEvent). slice_get l c.loop-index.index) (sym same) ∙ (last_at all kept c.loop-index.index k c.self.invariant.3 place ∙ read_at kept k c.index-event.result.now within c.index-event.ensures)

pub loop-index-init : goal.loop-index-init
loop-index-init c = refl

pub returns-then-tells-clause-seek : goal.returns-then-tells-clause-seek
returns-then-tells-clause-seek c =
    let at = here (goal.at.returns-then-tells-clause-seek c).After-index-event in
    sym (c.loop-index.invariant ∙ seek_here c.args.modes c.args.self.now.events c.loop-index.index c.index-event.result.now at (sym c.tells.ensures ∙ c.if-tells.true))

pub loop-index-preserved : goal.loop-index-preserved
loop-index-preserved c =
    let at = here (goal.at.loop-index-preserved c).After-index-event in
    let next : suc c.loop-index.index ≡ c.loop-index.index + 1 = omega arith in
    c.loop-index.invariant ∙ seek_past c.args.modes c.args.self.now.events c.loop-index.index c.index-event.result.now at (sym c.tells.ensures ∙ c.if-tells.false)
    ∙ ap (λ (n : ℕ). seek c.args.modes n (drop n c.args.self.now.events)) next

pub returns-clause-seek : goal.returns-clause-seek
returns-clause-seek c =
    let count = ap (λ (l : Lives). length l.events) c.self.view_is in
    sym (c.loop-index.invariant ∙ seek_end c.args.modes c.args.self.now.events c.loop-index.index (omega (arith, count, c.loop-index-test.false, c.self.invariant.0)))
