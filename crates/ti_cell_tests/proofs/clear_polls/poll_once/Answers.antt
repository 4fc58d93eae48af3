use Rattle.std.proofs.Common.{◌≡◌, ◌∙◌, sym, ap, length, arith, ◌++◌, ◌∷◌, [], List}
use Rattle.ti_types.specs.declared.entry.Entry.{Entry}
use Rattle.ti_types.specs.declared.entry.Entry.TheVariants.{Start}
use Rattle.ti_replay.specs.Makers.{made_by}
use Rattle.ti_cell.specs.declared.view.View.{View}
use Rattle.ti_cell.specs.Seats.{Sitting}
use Rattle.ti_cell.specs.View.{glanced}
use Rattle.ti_handshake.specs.Thread.{Runner}
use Rattle.ti_cell_tests.proofs.clear_polls.poll_once.Goals as goal

pub returns-clause-polled : goal.returns-clause-polled
returns-clause-polled g c =
    let began = c.start-running.ensures.hold in
    let look = c.poll_clear-clear.ensures.look in
    let ended = c.end-ended.ensures.hold in
    let known = c.start-running.result.view.seen in
    let seat : c.into_seat.result.view ≡ c.end-ended.result.view = ap (λ (s : Sitting). s.view) c.into_seat.ensures.seat in
    let polled : c.poll_clear-clear.new.self.view ≡ glanced c.start-running.result.view look.0 = ap (λ (r : Runner). r.view) look.1 in
    let number : c.args.fresh.view.number ≡ 0 = c.facts.ensures.owner in
    let mine : c.start-running.result.view.mine ≡ Start ∷ [] =
    began.mine ∙ ap (λ (l : List Entry). l ++ Start ∷ []) c.facts.ensures.none in
    let made : made_by 0 known ≡ Start ∷ [] = ap (λ n. made_by n known) (sym number) ∙ (sym began.goes.whole ∙ mine) in
    record {
      before = c.start-running.result.view.looked;
      last = look.0;
      looked = ap (λ (v : View). v.looked) seat ∙ (ended.looked ∙ ap (λ (v : View). v.looked) polled);
      told = look.2;
      known = known;
      begins = (ended.waits.goes.begins.0, ap (λ (v : View). v.seen) seat ∙ (ended.waits.goes.begins.1 ∙ ap (λ (v : View). v.seen ++ ended.waits.goes.begins.0) polled));
      started = omega (arith, ap (λ (l : List Entry). length l) made);
      behind = look.3;
    }
